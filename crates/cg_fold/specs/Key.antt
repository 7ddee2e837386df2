-- Committed offsets and their order.
use Rattle.std.specs.Prelude.{◌≡◌, ℕ, ◌<◌, Bool, not, List, length, map as each, filter, slice_index_or, Option, refl}
use Rattle.std.specs.List.{AllAdjacentBelow, list_any}
use Rattle.std.specs.declared.cmp.Ordering.{Ordering}
use Rattle.std.specs.declared.cmp.Ordering.TheVariants.{Less, Equal}
use Rattle.std.specs.Ordering.{nat_cmp, is_lt, on, then_cmp}
use Rattle.std.specs.Cmp.Lexicographic.{slice_cmp}
use Rattle.std.specs.Coded.{Coded, code_by, coded×, coded_list, coded_option, coded_ℕ}
use Rattle.std.specs.FinMap as map
use Rattle.std.specs.FinMap.{put}
use Rattle.cg_record.specs.declared.entry.Entry.{Entry}
use Rattle.cg_record.specs.declared.topic_partition.TopicPartition.{TopicPartition}
use Rattle.cg_record.specs.Partitions.{are_one, partition_cmp, topic_partition}
use Rattle.cg_fold.specs.declared.stored_offset.StoredOffset.{StoredOffset}

-- the order of names: by bytes
abbrev pub name_cmp : List ℕ → List ℕ → Ordering
name_cmp = slice_cmp nat_cmp

-- ---- the offsets of all groups

-- the key of a committed offset: one partition of one topic, for one group
pub record OffsetKey : Type 0 where
  pub group : List ℕ
  pub partition : TopicPartition

-- the key of this partition, for this group
abbrev pub key_of : List ℕ → TopicPartition → OffsetKey
key_of group partition = record { group = group; partition = partition }

-- the order of keys: by group, then by partition
abbrev pub key_cmp : OffsetKey → OffsetKey → Ordering
key_cmp = then_cmp (on (λ k. k.group) name_cmp) (on (λ k. k.partition) partition_cmp)

-- an offset with its key
abbrev pub KeptOffset : Type 0
KeptOffset = OffsetKey × StoredOffset

-- ---- the offsets of one group

-- an offset with its partition
abbrev pub KeptRow : Type 0
KeptRow = TopicPartition × StoredOffset

-- the row as an offset of this group
abbrev pub in_group : List ℕ → KeptRow → KeptOffset
in_group group row = (key_of group row.0, row.1)

-- the offset without its group
abbrev pub without_group_id : KeptOffset → KeptRow
without_group_id kept = (kept.0.partition, kept.1)

-- each of these partitions comes before the next
abbrev pub AreInOrder : List TopicPartition → Type 0
AreInOrder partitions = AllAdjacentBelow (λ a b. partition_cmp a b ≡ Less) partitions (length partitions)

-- the partition is one of these
abbrev pub is_among : List TopicPartition → TopicPartition → Bool
is_among partitions partition = list_any (are_one partition) partitions

-- the rows of other partitions than these
abbrev pub rows_beside : List TopicPartition → List KeptRow → List KeptRow
rows_beside partitions rows = filter (λ row. not (is_among partitions row.0)) rows

-- the row comes before the partition
abbrev pub is_below : TopicPartition → KeptRow → Bool
is_below key row = is_lt (partition_cmp row.0 key)

-- the row at this index has the partition
abbrev pub IsOwn : List KeptRow → ℕ → TopicPartition → Type 0
IsOwn rows at key = (at < length rows) × ((d : KeptRow) → partition_cmp (slice_index_or rows at d).0 key ≡ Equal)

-- no row at this index has the partition
abbrev pub IsOther : List KeptRow → ℕ → TopicPartition → Type 0
IsOther rows at key = (d : KeptRow) → at < length rows → partition_cmp (slice_index_or rows at d).0 key ≡ Equal → ⊥

-- the partition and the offset of one entry, committed at this moment
abbrev pub row_of : Option ℕ → Entry → KeptRow
row_of moment entry = (entry.key, record { offset = entry.offset; metadata = entry.metadata; moment = moment })

-- the partitions and offsets of entries, committed at this moment
abbrev pub rows_of : Option ℕ → List Entry → List KeptRow
rows_of moment entries = each (row_of moment) entries

-- the key and the offset of one entry, for the group that commits it at this moment
abbrev pub kept_of : List ℕ → Option ℕ → Entry → KeptOffset
kept_of group moment entry = in_group group (row_of moment entry)

-- the sorted rows with a new one, in the place of the one with its partition
abbrev pub put_row : List KeptRow → KeptRow → List KeptRow
put_row rows new = put partition_cmp new.0 new.1 rows

-- ---- codes

-- a partition, a key and a stored offset have the codes of their parts
abbrev pub partition_code : Coded TopicPartition
partition_code = code_by (List ℕ × ℕ) (coded× (coded_list coded_ℕ) coded_ℕ) (λ p. (p.topic, p.partition)) (λ p. topic_partition p.0 p.1) (λ _. refl)

abbrev pub key_code : Coded OffsetKey
key_code = code_by (List ℕ × TopicPartition) (coded× (coded_list coded_ℕ) partition_code) (λ k. (k.group, k.partition)) (λ p. key_of p.0 p.1) (λ _. refl)

abbrev pub stored_code : Coded StoredOffset
stored_code = code_by (ℕ × (List ℕ × Option ℕ)) (coded× coded_ℕ (coded× (coded_list coded_ℕ) (coded_option coded_ℕ))) (λ s. (s.offset, (s.metadata, s.moment))) (λ p. record { offset = p.0; metadata = p.1.0; moment = p.1.1 }) (λ _. refl)

-- a map of offsets has the code of its entries
abbrev pub offsets_code : Coded (map.FinMap key_cmp StoredOffset)
offsets_code = map.code key_code stored_code
