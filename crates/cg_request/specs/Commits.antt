-- Which entries a COMMIT can have, and what a command keeps of them.
use Rattle.std.specs.Prelude.{ℕ, ◌+◌, Bool, ◌||◌, nat_lt, List, [], ◌∷◌, length}
use Rattle.std.specs.List.{list_any}
use Rattle.cg_record.specs.declared.entries.TheConstants.{COMMIT_METADATA_BYTES_MAX, ENTRIES_MAX}
use Rattle.cg_record.specs.declared.entry.Entry.{Entry}
use Rattle.cg_record.specs.declared.metadata.TheConstants.{METADATA_BYTES_MAX}
use Rattle.cg_record.specs.Distinct.{AreDistinct}
use Rattle.cg_record.specs.Partitions.{are_one}
use Rattle.cg_request.specs.declared.commit_entry.CommitEntry.{CommitEntry}

-- the entry of the command
abbrev pub kept_entry : CommitEntry → Entry
kept_entry e = record { key = e.key; offset = e.offset; metadata = e.metadata }

-- both entries are for one partition of one topic
abbrev pub share_partition : CommitEntry → CommitEntry → Bool
share_partition a b = are_one a.key b.key

-- the entries of one COMMIT
abbrev pub AreCommits : List CommitEntry → Type 0
AreCommits entries = AreDistinct share_partition 1 ENTRIES_MAX entries

-- the metadata of the entry is longer than a command keeps
abbrev pub is_long : CommitEntry → Bool
is_long e = nat_lt METADATA_BYTES_MAX (length e.metadata)

-- the bytes of metadata in all entries together
abbrev pub metadata_bytes : List CommitEntry → ℕ
metadata_bytes [] = 0
metadata_bytes (e ∷ es) = length e.metadata + metadata_bytes es

-- the metadata of one entry is too long, or that of the whole commit (error 12)
abbrev pub is_too_large : List CommitEntry → Bool
is_too_large entries = list_any is_long entries || nat_lt COMMIT_METADATA_BYTES_MAX (metadata_bytes entries)
