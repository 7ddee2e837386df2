-- The shelves: the offsets of each group that has any.
use Rattle.std.specs.Prelude.{◌≡◌, ℕ, ◌<◌, List, [], ◌∷◌, length, map as each, filter, flat_map, Option, Some, None, IsTrue}
use Rattle.std.specs.List.{fold}
use Rattle.std.specs.Coded.{Coded, coded×, coded_list}
use Rattle.std.specs.FinMap.{find, is_sorted, put}
use Rattle.cg_record.specs.declared.topic_partition.TopicPartition.{TopicPartition}
use Rattle.cg_record.specs.Partitions.{partition_cmp}
use Rattle.cg_fold.specs.Key.{KeptOffset, KeptRow, in_group, name_cmp, partition_code, put_row, rows_beside, stored_code}
use Rattle.cg_fold.specs.Grouped.{OfGroup, is_another}

-- the offsets of a group, with the id of the group
abbrev pub KeptShelf : Type 0
KeptShelf = OfGroup (List KeptRow)

-- a list of rows has the code of its items
abbrev pub rows_code : Coded (List KeptRow)
rows_code = coded_list (coded× partition_code stored_code)

-- the rows of a shelf: at least one, sorted by topic and partition
pub record AreShelfRows (rows : List KeptRow) : Type 0 where
  pub some : 0 < length rows
  pub by_partition : IsTrue (is_sorted partition_cmp rows)

abbrev pub EachShelf : List KeptShelf → Type 0
EachShelf [] = Unit {0}
EachShelf (shelf ∷ shelves) = AreShelfRows shelf.1 × EachShelf shelves

-- the offsets of all shelves
abbrev pub stock : List KeptShelf → List KeptOffset
stock shelves = flat_map (λ shelf. each (in_group shelf.0) shelf.1) shelves

-- a shelf for each group, by the groups' ids, with `len` offsets in all
pub record AreShelves (len : ℕ) (shelves : List KeptShelf) : Type 0 where
  pub by_group : IsTrue (is_sorted name_cmp shelves)
  pub each : EachShelf shelves
  pub counted : len ≡ length (stock shelves)

-- the offsets on a shelf, or none
abbrev pub rows_on : Option (List KeptRow) → List KeptRow
rows_on None = []
rows_on (Some rows) = rows

-- the offsets of a group
abbrev pub rows_at : List ℕ → List KeptShelf → List KeptRow
rows_at group shelves = rows_on (find name_cmp group shelves)

-- the shelves with these offsets added to the group's
abbrev pub with_more : List ℕ → List KeptRow → List KeptShelf → List KeptShelf
with_more group new shelves = put name_cmp group (fold put_row (rows_at group shelves) new) shelves

-- the shelves with these rows for the group, which has no shelf if there are none
abbrev pub with_shelf : List ℕ → List KeptRow → List KeptShelf → List KeptShelf
with_shelf group [] shelves = filter (λ shelf. is_another group shelf.0) shelves
with_shelf group (row ∷ rows) shelves = put name_cmp group (row ∷ rows) shelves

-- the shelves without the offsets of these partitions of the group
abbrev pub with_fewer : List ℕ → List TopicPartition → List KeptShelf → List KeptShelf
with_fewer group partitions shelves = with_shelf group (rows_beside partitions (rows_at group shelves)) shelves
