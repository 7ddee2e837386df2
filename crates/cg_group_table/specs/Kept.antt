-- Records of the durable state, and lists in ascending order.
use Rattle.std.specs.Prelude.{◌≡◌, ℕ, true, List, [], ◌∷◌, Option, IfSome, is_some}
use Rattle.std.specs.Ordering.{nat_cmp}
use Rattle.std.specs.FinMap as finmap
use Rattle.std.specs.Cmp.Lexicographic.{slice_cmp}
use Rattle.std.specs.declared.cmp.Ordering.TheVariants.{Less}
use Rattle.cg_fold.specs.declared.group_record.GroupRecord.{GroupRecord}
use Rattle.cg_fold.specs.Durable.{State}
use Rattle.cg_fold.specs.Key.{OffsetKey}
use Rattle.cg_fold.specs.Record.{roster_in}
use Rattle.cg_group_state.specs.Offsets.{OffsetMap}
use Rattle.cg_record.specs.Rosters.{IsRoster}

-- a fact about each element
abbrev pub Each : {X : Type 0} → (X → Type 0) → List X → Type 0
Each P [] = Unit {0}
Each P (x ∷ xs) = P x × Each P xs

-- the first comes before each of the others, by bytes
abbrev pub ComesBefore : List ℕ → List (List ℕ) → Type 0
ComesBefore x ys = Each (λ y. slice_cmp nat_cmp x y ≡ Less) ys

-- each of the others comes before the last, by bytes
abbrev pub ComeBefore : List (List ℕ) → List ℕ → Type 0
ComeBefore xs y = Each (λ x. slice_cmp nat_cmp x y ≡ Less) xs

-- names in ascending order of their bytes, each once
abbrev pub Ascending : List (List ℕ) → Type 0
Ascending [] = Unit {0}
Ascending (x ∷ xs) = ComesBefore x xs × Ascending xs

-- the record of each group
abbrev pub Kept : Type 0
Kept = List ℕ → Option GroupRecord

abbrev pub kept_in : State → Kept
kept_in state group = finmap.get state.records group

-- the group has a committed offset
pub record HasOffset (offsets : OffsetMap) (group : List ℕ) : Type 0 where
  pub key : OffsetKey
  pub own : key.group ≡ group
  pub stored : is_some (finmap.get offsets key) ≡ true

-- a record as commands make it: its members are lawful, and one of them leads
abbrev pub IsRecord : GroupRecord → Type 0
IsRecord r = IfSome (roster_in r.members) IsRoster

-- each record of the state is such a record
abbrev pub AreRecords : State → Type 0
AreRecords state = (group : List ℕ) → IfSome (kept_in state group) IsRecord
