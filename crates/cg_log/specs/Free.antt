-- Free segments.
use Rattle.std.specs.Prelude.{◌≡◌, ◌<◌, ℕ, zero, suc, ◌+◌, List, Bool, true, false, nat_eq, if◌then◌else◌}
use Rattle.std.specs.List.{list_any}
use Rattle.cg_gate.specs.Layout.{segment_count}

-- this id is among these
abbrev pub is_among : ℕ → List ℕ → Bool
is_among id ids = list_any (nat_eq id) ids

-- how many of the ids below a number are none of these
unfoldable pub free_below : ℕ → List ℕ → ℕ
free_below zero ids = 0
free_below (suc n) ids = if is_among n ids then free_below n ids else free_below n ids + 1

-- how many segments of a disk are none of these
abbrev pub free_count_of : ℕ → List ℕ → ℕ
free_count_of sectors ids = free_below (segment_count sectors) ids

-- the segment of the least id that is none of these
pub record IsLeastFree (sectors : ℕ) (ids : List ℕ) (id : ℕ) : Type 0 where
  pub below : id < segment_count sectors
  pub free : is_among id ids ≡ false
  pub least : (k : ℕ) → k < id → is_among k ids ≡ true

-- each segment is among these
abbrev pub NoneIsFree : ℕ → List ℕ → Type 0
NoneIsFree sectors ids = (id : ℕ) → id < segment_count sectors → is_among id ids ≡ true
