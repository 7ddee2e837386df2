-- Any two proofs that a session index fits the groups are equal. It says nothing of the index itself.
use Rattle.std.specs.Prelude.{◌≡◌, ℕ, Bool, true, List, [], ◌∷◌, Option, Some, None}
use Rattle.std.specs.BTreeMap as map
use Rattle.std.specs.BTreeMap.{BTreeMap}
use Rattle.std.specs.Ordering.{nat_cmp}
use mathlib.Core.Bool.{Bool-set}
use mathlib.Core.HLevel.{Unit-prop, Π_prop, ¬_prop, →_prop, ×_prop}
use Rattle.cg_group_state.specs.declared.group.Group.{Group}
use Rattle.cg_group_state.specs.declared.member.Member.{Member}
use Rattle.cg_group_table.specs.declared.session_index.Home.{Home}
use Rattle.cg_group_table.specs.GroupTable.{find_group}
use Rattle.cg_group_table.specs.Kept.{Each}
use Rattle.cg_group_table.specs.SessionIndex.{AreKnown, IsFilled, IsTight, Known, is_known, is_parked}

Each-prop : {X : Type 0} (P : X → Type 0) → ((x : X) → IsProp (P x)) → (xs : List X) → IsProp (Each P xs)
Each-prop P h [] = Unit-prop
Each-prop P h (x ∷ xs) = ×_prop (h x) (Each-prop P h xs)

pub AreKnown-prop : (homes : ℕ → List ℕ → Bool) (groups : List Group) → IsProp (AreKnown homes groups)
AreKnown-prop homes groups =
    Each-prop (λ g. Known (λ session. homes session g.id) g)
    (λ g. Each-prop (λ (m : Member). is_known (λ session. homes session g.id) m.waits ≡ true) (λ m. Bool-set (is_known (λ session. homes session g.id) m.waits) true) g.members) groups

IsFilled-prop : (o : Option (BTreeMap (List ℕ) Home)) → IsProp (IsFilled o)
IsFilled-prop None = Unit-prop
IsFilled-prop (Some groups) = ¬_prop

pub IsTight-prop : (homes : BTreeMap ℕ (BTreeMap (List ℕ) Home)) (groups : List Group) → IsProp (IsTight homes groups)
IsTight-prop homes groups =
    ×_prop (Π_prop (λ session. Π_prop (λ id. →_prop (Bool-set (is_parked session (find_group id groups)) true))))
    (Π_prop (λ session. IsFilled-prop (map.get nat_cmp homes session)))
