-- A new tail: the root that names it, and what a crash may leave of it.
use Rattle.std.specs.Prelude.{◌≡◌, ◌≢◌, ◌⊎◌, ℕ, ◌+◌, List, [], ◌∷◌, ◌++◌}
use Rattle.cg_disk.specs.Disk.{Image}
use Rattle.cg_root.specs.Roots.{IsLawful}
use Rattle.cg_root.specs.declared.root_layout.TheConstants.{EPOCH_MAX}
use Rattle.cg_root.specs.Slots.{other_slot}
use Rattle.cg_root.specs.declared.root.Root.{Root}
use Rattle.cg_log.specs.Free.{IsLeastFree, NoneIsFree}
use Rattle.cg_log.specs.Carried.{Content, LogAt, appended, rolled}

-- the next root names one more tail
pub record HasOneMoreTail (current next : Root) (id : ℕ) : Type 0 where
  pub slot : next.slot ≡ other_slot current.slot
  pub epoch : next.epoch ≡ current.epoch + 1
  pub base_number : next.base_number ≡ current.base_number
  pub base : next.base ≡ current.base
  pub tail : next.tail ≡ current.tail ++ id ∷ []

-- an image has the content, or with one more tail
abbrev pub HasOrRolled : ℕ → Root → Root → Content → ℕ → Image → Type 0
HasOrRolled sectors current next has id image = LogAt image sectors current has ⊎ LogAt image sectors next (rolled has id)

-- one more frame is in the last tail, or in a new tail after it
abbrev pub IsAppended : Content → ℕ → List ℕ → Content → Type 0
IsAppended has count payload new = (new ≡ appended has count payload) ⊎ ((id : ℕ) × (new ≡ appended (rolled has id) count payload))

-- the root with one more tail, in the least segment that is not taken
pub record IsNextTail (sectors : ℕ) (taken : List ℕ) (current : Root) (id : ℕ) (next : Root) : Type 0 where
  pub more : HasOneMoreTail current next id
  pub lawful : IsLawful sectors next
  pub free : IsLeastFree sectors taken id

-- no root with one more tail can follow: no segment is free, or the epoch is the last
abbrev pub IsFullFor : ℕ → List ℕ → Root → Type 0
IsFullFor sectors taken current = NoneIsFree sectors taken ⊎ (current.epoch ≡ EPOCH_MAX)

-- a tail was added, unless the last one has no frame
abbrev pub IsRolled : Content → ℕ → Content → Type 0
IsRolled has id new = ((has.last.1 ≡ []) × (new ≡ has) × (id ≡ has.last.0)) ⊎ ((has.last.1 ≢ []) × (new ≡ rolled has id))
