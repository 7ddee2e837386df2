-- Which entries a commit can have.
use Rattle.std.specs.Prelude.{ℕ, ◌-◌, ◌≤◌, min, Bool, List, length, sum_by}
use Rattle.std.specs.List.{IsDistinct}
use Rattle.cg_record.specs.declared.entries.TheConstants.{ENTRIES_MAX, COMMIT_METADATA_BYTES_MAX}
use Rattle.cg_record.specs.declared.metadata.TheConstants.{METADATA_BYTES_MAX}
use Rattle.cg_record.specs.declared.entry.Entry.{Entry}
use Rattle.cg_record.specs.declared.topic_partition.TopicPartition.{TopicPartition}
use Rattle.cg_record.specs.Distinct.{AreDistinct}
use Rattle.cg_record.specs.Partitions.{are_one}

-- the entry is for this partition
abbrev pub is_of : TopicPartition → Entry → Bool
is_of key entry = are_one entry.key key

-- both entries are for the same partition
abbrev pub have_one_key : Entry → Entry → Bool
have_one_key a b = is_of b.key a

-- no two entries are for the same partition
abbrev pub HasDistinctKeys : List Entry → Type 0
HasDistinctKeys entries = IsDistinct have_one_key entries

-- the bytes of metadata of all entries together
abbrev pub metadata_bytes : List Entry → ℕ
metadata_bytes entries = sum_by (λ e. length e.metadata) entries

-- how many bytes of metadata the next entry may have, after those in front
abbrev pub metadata_room : List Entry → ℕ
metadata_room front = min METADATA_BYTES_MAX (COMMIT_METADATA_BYTES_MAX - metadata_bytes front)

-- the entries of one commit
pub record AreEntries (entries : List Entry) : Type 0 where
  pub distinct : AreDistinct have_one_key 1 ENTRIES_MAX entries
  pub metadata : metadata_bytes entries ≤ COMMIT_METADATA_BYTES_MAX
