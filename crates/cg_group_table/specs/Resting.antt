-- A moment before which no tick finds anything that expires.
use Rattle.std.specs.Prelude.{◌≡◌, ℕ, ◌+◌, ◌≤◌, List, [], ◌∷◌, Bool, true, false, Option, Some, None, is_some, unwrap_or}
use Rattle.std.specs.FinMap as finmap
use Rattle.cg_fold.specs.declared.stored_offset.StoredOffset.{StoredOffset}
use Rattle.cg_fold.specs.Key.{OffsetKey}
use Rattle.cg_group_state.specs.declared.group.Group.{Group}
use Rattle.cg_group_state.specs.Membership.{is_same}
use Rattle.cg_group_state.specs.Offsets.{OffsetMap}
use Rattle.cg_group_table.specs.declared.expiry.TheConstants.{RETENTION_MS}
use Rattle.cg_group_table.specs.Expiry.{is_idle}
use Rattle.cg_group_table.specs.GroupTable.{find_group}
use Rattle.cg_group_table.specs.Kept.{Each}
use Rattle.std.specs.Coded.{le_prop}
use mathlib.Core.Bool.{Bool-set}
use mathlib.Core.HLevel.{Unit-prop, Π_prop, →_prop, ×_prop}

-- what has this moment is not stale before then
abbrev pub IsFresh : ℕ → ℕ → Option ℕ → Type 0
IsFresh until loaded moment = until ≤ unwrap_or moment loaded + RETENTION_MS

-- an Empty group that has a type is not stale before then
abbrev pub Rests : ℕ → ℕ → Group → Type 0
Rests until loaded g = is_idle g.phase ≡ true → is_some g.kind ≡ true → IsFresh until loaded g.emptied

-- the offsets of a group that has no type are not stale before then
abbrev pub AreFresh : ℕ → ℕ → OffsetMap → Group → Type 0
AreFresh until loaded offsets g = is_some g.kind ≡ false → (key : OffsetKey) (stored : StoredOffset) → is_same g.id key.group ≡ true → finmap.get offsets key ≡ Some stored → IsFresh until loaded stored.moment

-- nothing expires before then
abbrev pub AreResting : ℕ → ℕ → OffsetMap → List Group → Type 0
AreResting until loaded offsets groups = Each (λ g. Rests until loaded g × AreFresh until loaded offsets g) groups

-- each group with an offset is loaded
abbrev pub Covered : OffsetMap → List Group → Type 0
Covered offsets groups = (key : OffsetKey) → is_some (finmap.get offsets key) ≡ true → is_some (find_group key.group groups) ≡ true

-- any two proofs of these are equal
pub Covered-prop : (offsets : OffsetMap) (groups : List Group) → IsProp (Covered offsets groups)
Covered-prop offsets groups = Π_prop (λ key. →_prop (Bool-set (is_some (find_group key.group groups)) true))

pub AreResting-prop : (until loaded : ℕ) (offsets : OffsetMap) (groups : List Group) → IsProp (AreResting until loaded offsets groups)
AreResting-prop until loaded offsets [] = Unit-prop
AreResting-prop until loaded offsets (g ∷ gs) =
    ×_prop (×_prop (→_prop (→_prop le_prop)) (→_prop (Π_prop (λ key. Π_prop (λ stored. →_prop (→_prop le_prop)))))) (AreResting-prop until loaded offsets gs)
