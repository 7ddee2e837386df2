-- A desk between two steps: its replies wait in order, and none of them may leave yet.
use Rattle.std.specs.Prelude.{◌≡◌, ◌≤◌, ℕ, Bool, List, [], ◌∷◌, nat_le}
use Rattle.std.specs.List.{filter}
use Rattle.cg_desk.specs.Balanced.{IsBalanced}
use Rattle.cg_desk.specs.Books.{Books}
use Rattle.cg_desk.specs.Desks.{State, Loading, Serving, Failed}
use Rattle.cg_desk.specs.declared.pending_replies.HeldStep.{HeldStep}

-- the need of the replies is settled
abbrev pub is_due : ℕ → HeldStep → Bool
is_due settled h = nat_le h.origin.need settled

abbrev pub due : ℕ → List HeldStep → List HeldStep
due settled held = filter (is_due settled) held

-- the needs of held replies are in ascending order, and none is above the number of the last command
unfoldable pub AreInOrder : ℕ → ℕ → List HeldStep → Type 0
AreInOrder low top [] = Unit {0}
AreInOrder low top (h ∷ hs) = (low ≤ h.origin.need) × (h.origin.need ≤ top) × AreInOrder h.origin.need top hs

-- a desk that serves, between two steps: no held reply may leave yet
pub record IsOrderlyDesk (b : Books) : Type 0 where
  pub balanced : IsBalanced b
  pub in_order : AreInOrder 0 b.numbered b.held
  pub none_due : due b.settled b.held ≡ []

abbrev pub IsOrderlyAt : State → Type 0
IsOrderlyAt Loading = Unit {0}
IsOrderlyAt (Failed n m) = Unit {0}
IsOrderlyAt (Serving b) = IsOrderlyDesk b
