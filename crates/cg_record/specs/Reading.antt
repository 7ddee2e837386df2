-- Decoding of commands from left to right, up to the first fault.
use Rattle.std.specs.Prelude.{◌≡◌, ℕ, zero, suc, Bool, not, ◌&&◌, ◌==◌, List, [], ◌∷◌, length, Some, Result, Ok, Err, IsOk, if◌then◌else◌}
use Rattle.std.specs.List.{list_any}
use Rattle.cg_names.specs.declared.name.TheConstants.{NAME_BYTES_MAX, MEMBER_ID_BYTES_MAX}
use Rattle.cg_names.specs.declared.generation.TheConstants.{GENERATION_MAX}
use Rattle.cg_record.specs.declared.partition.TheConstants.{PARTITION_MAX}
use Rattle.cg_record.specs.declared.offset.TheConstants.{OFFSET_MAX}
use Rattle.cg_record.specs.declared.roster.TheConstants.{MEMBERS_MAX}
use Rattle.cg_record.specs.declared.format.TheConstants.{VERSION_ONE, VERSION_TWO, VERSION_THREE, ASSIGNED_KIND, EMPTIED_KIND, REPLACED_KIND, COMMITTED_KIND, DELETED_KIND, EXPIRED_KIND, DROPPED_KIND}
use Rattle.cg_record.specs.declared.format.Version.{Version}
use Rattle.cg_record.specs.declared.format.Version.TheVariants.{One, Two, Three}
use Rattle.cg_record.specs.declared.fault.RecordFault.{RecordFault}
use Rattle.cg_record.specs.declared.fault.RecordFault.TheVariants.{Memory, BadKind, BadName, BadLength, Repeated}
use Rattle.cg_record.specs.declared.entry.Entry.{Entry}
use Rattle.cg_record.specs.declared.topic_partition.TopicPartition.{TopicPartition}
use Rattle.cg_record.specs.declared.member_record.MemberRecord.{MemberRecord}
use Rattle.cg_record.specs.declared.committed.Committed.{Committed}
use Rattle.cg_record.specs.declared.assigned.Assigned.{Assigned}
use Rattle.cg_record.specs.declared.emptied.Emptied.{Emptied}
use Rattle.cg_record.specs.declared.replaced.Replaced.{Replaced}
use Rattle.cg_record.specs.declared.deleted.Deleted.{Deleted}
use Rattle.cg_record.specs.declared.command.Command.{Command}
use Rattle.cg_record.specs.declared.command.Command.TheVariants as kinds
use Rattle.cg_record.specs.Keys.{is_of, metadata_room}
use Rattle.cg_record.specs.Partitions.{are_one, topic_partition}
use Rattle.cg_record.specs.Versions.{has_expired, has_dropped}
use Rattle.cg_record.specs.Moments.{moment_at}
use Rattle.cg_record.specs.Counts.{count_at}
use Rattle.cg_record.specs.Rosters.{RosterParts, roster_of, is_led_by}
use Rattle.cg_record.specs.Members.{member_of, profile_at, member_at}
pub use Rattle.cg_record.specs.Fields.{Read, ◌>>=◌, only, made, at_most, is_from_to, byte_at, bytes_at, number_at, four_at, eight_at, is_name, name_at, optional_name_at, text_at, many_at}

-- ---- a commit

-- a partition of a topic
unfoldable pub key_at : List ℕ → Read TopicPartition
key_at bytes = do
  topic ← name_at NAME_BYTES_MAX bytes
  partition ← only (at_most PARTITION_MAX) BadLength (four_at topic.1)
  Ok (topic_partition topic.0 partition.0, partition.1)

-- an offset and its metadata, of at most `max` bytes
unfoldable pub kept_at : ℕ → List ℕ → Read (ℕ × List ℕ)
kept_at max bytes = do
  offset ← only (at_most OFFSET_MAX) BadLength (eight_at bytes)
  metadata ← text_at max offset.1
  Ok ((offset.0, metadata.0), metadata.1)

-- none of the entries is for this partition
abbrev pub is_new : List Entry → TopicPartition → Bool
is_new front key = not (list_any (is_of key) front)

-- the next entry of a commit, after those in front
unfoldable pub entry_at : List Entry → List ℕ → Read Entry
entry_at front bytes = do
  key ← only (is_new front) Repeated (key_at bytes)
  kept ← kept_at (metadata_room front) key.1
  Ok (record { key = key.0; offset = kept.0.0; metadata = kept.0.1 }, kept.1)

-- n more entries of a commit, after those in front
abbrev pub entries_at : ℕ → List Entry → List ℕ → Read (List Entry)
entries_at n front bytes = many_at entry_at n front bytes

-- the number of entries, and the entries
unfoldable pub listed_entries_at : Version → List ℕ → Read (List Entry)
listed_entries_at version bytes = do
  count ← count_at version bytes
  entries_at count.0 [] count.1

unfoldable pub committed_at : Version → List ℕ → Read Committed
committed_at version bytes = do
  group ← name_at NAME_BYTES_MAX bytes
  moment ← moment_at version group.1
  entries ← listed_entries_at version moment.1
  Ok (record { group = group.0; moment = moment.0; entries = entries.0 }, entries.1)

-- ---- partitions

-- the partition is none of these
abbrev pub is_new_partition : List TopicPartition → TopicPartition → Bool
is_new_partition front key = not (list_any (λ other. are_one other key) front)

-- the next partition, after those in front
unfoldable pub partition_at : List TopicPartition → List ℕ → Read TopicPartition
partition_at front bytes = only (is_new_partition front) Repeated (key_at bytes)

-- n more partitions, after those in front
abbrev pub partitions_at : ℕ → List TopicPartition → List ℕ → Read (List TopicPartition)
partitions_at n front bytes = many_at partition_at n front bytes

-- the number of partitions, and the partitions
unfoldable pub listed_partitions_at : Version → List ℕ → Read (List TopicPartition)
listed_partitions_at version bytes = do
  count ← count_at version bytes
  partitions_at count.0 [] count.1

-- a group and partitions whose offsets are removed
unfoldable pub removal_at : Version → List ℕ → Read (List ℕ × List TopicPartition)
removal_at version bytes = do
  group ← name_at NAME_BYTES_MAX bytes
  partitions ← listed_partitions_at version group.1
  Ok ((group.0, partitions.0), partitions.1)

abbrev pub expired_of : List ℕ × List TopicPartition → Command
expired_of removal = kinds.Expired (record { group = removal.0; partitions = removal.1 })

abbrev pub dropped_of : List ℕ × List TopicPartition → Command
dropped_of removal = kinds.Dropped (record { group = removal.0; partitions = removal.1 })

-- ---- groups

-- n more members of a group, after those in front
abbrev pub members_at : ℕ → List MemberRecord → List ℕ → Read (List MemberRecord)
members_at n front bytes = many_at member_at n front bytes

-- the number of members, and the members
unfoldable pub listed_at : List ℕ → Read (List MemberRecord)
listed_at bytes = do
  count ← only (is_from_to 1 MEMBERS_MAX) BadLength (byte_at bytes)
  members_at count.0 [] count.1

-- a leader that is not a member is a fault only at the end of the members
unfoldable pub roster_at : List ℕ → Read RosterParts
roster_at bytes = do
  protocol ← name_at NAME_BYTES_MAX bytes
  leader ← name_at MEMBER_ID_BYTES_MAX protocol.1
  members ← only (is_led_by leader.0) BadName (listed_at leader.1)
  Ok (roster_of protocol.0 leader.0 members.0, members.1)

unfoldable pub assigned_at : List ℕ → Read Assigned
assigned_at bytes = do
  group ← name_at NAME_BYTES_MAX bytes
  generation ← only (is_from_to 1 GENERATION_MAX) BadLength (four_at group.1)
  kind ← name_at NAME_BYTES_MAX generation.1
  roster ← roster_at kind.1
  Ok (record { group = group.0; generation = generation.0; kind = kind.0; roster = roster.0 }, roster.1)

unfoldable pub emptied_at : Version → List ℕ → Read Emptied
emptied_at version bytes = do
  group ← name_at NAME_BYTES_MAX bytes
  generation ← only (is_from_to 1 GENERATION_MAX) BadLength (four_at group.1)
  kind ← name_at NAME_BYTES_MAX generation.1
  moment ← moment_at version kind.1
  Ok (record { group = group.0; generation = generation.0; kind = kind.0; moment = moment.0 }, moment.1)

-- the member of a `Replaced` has an instance
unfoldable pub replaced_at : List ℕ → Read Replaced
replaced_at bytes = do
  group ← name_at NAME_BYTES_MAX bytes
  id ← name_at MEMBER_ID_BYTES_MAX group.1
  instance ← made Some (name_at NAME_BYTES_MAX id.1)
  profile ← profile_at instance.1
  Ok (record { group = group.0; member = member_of id.0 instance.0 profile.0 }, profile.1)

unfoldable pub deleted_at : List ℕ → Read Deleted
deleted_at bytes = do
  group ← name_at NAME_BYTES_MAX bytes
  Ok (record { group = group.0 }, group.1)

-- ---- commands

-- the fields of a command of this kind
unfoldable pub body_at : Version → ℕ → List ℕ → Read Command
body_at version kind bytes =
    if kind == ASSIGNED_KIND then made kinds.Assigned (assigned_at bytes)
    else (if kind == EMPTIED_KIND then made kinds.Emptied (emptied_at version bytes)
    else (if kind == REPLACED_KIND then made kinds.Replaced (replaced_at bytes)
    else (if kind == COMMITTED_KIND then made kinds.Committed (committed_at version bytes)
    else (if kind == DELETED_KIND then made kinds.Deleted (deleted_at bytes)
    else (if kind == EXPIRED_KIND && has_expired version then made expired_of (removal_at version bytes)
    else (if kind == DROPPED_KIND && has_dropped version then made dropped_of (removal_at version bytes)
    else Err BadKind))))))

unfoldable pub command_at : Version → List ℕ → Read Command
command_at version bytes = do
  kind ← byte_at bytes
  body_at version kind.0 kind.1

-- commands up to the end of the bytes, of which there are at most `most`
unfoldable pub commands_to_end : Version → ℕ → List ℕ → Result (List Command) RecordFault
commands_to_end version zero bytes = Ok []
commands_to_end version (suc most) [] = Ok []
commands_to_end version (suc most) (b ∷ bytes) = do
  first ← command_at version (b ∷ bytes)
  others ← commands_to_end version most first.1
  Ok (first.0 ∷ others)

-- the version of a first byte
unfoldable pub version_of : ℕ → Result Version RecordFault
version_of b =
    if b == VERSION_ONE then Ok One
    else (if b == VERSION_TWO then Ok Two
    else (if b == VERSION_THREE then Ok Three
    else Err BadKind))

-- the commands of a payload, up to its end, or the first fault
unfoldable pub commands_of : List ℕ → Result (List Command) RecordFault
commands_of bytes = do
  first ← byte_at bytes
  version ← version_of first.0
  commands_to_end version (length first.1) first.1

-- ---- results of functions

-- the function's result, through this view, is that of the decoding
abbrev pub Gives : {X Y : Type 0} → (X → Y) → Result X RecordFault → Result Y RecordFault → Type 0
Gives view (Ok x) read = read ≡ Ok (view x)
Gives view (Err fault) read = read ≡ Err fault

-- the fault of the decoding, or an allocation failure
abbrev pub Fails : {Y : Type 0} → RecordFault → Result Y RecordFault → Type 0
Fails Memory read = Unit {0}
Fails fault read = read ≡ Err fault

-- the function's result, through this view, is that of the decoding, unless an allocation fails
abbrev pub Builds : {X Y : Type 0} → (X → Y) → Result X RecordFault → Result Y RecordFault → Type 0
Builds view (Ok x) read = read ≡ Ok (view x)
Builds view (Err fault) read = Fails fault read

-- the function returns the bytes after the decoded value, or the fault
abbrev pub Skips : {X Y : Type 0} → (X → List ℕ) → Result X RecordFault → Read Y → Type 0
Skips {Y = Y} rest (Ok x) read = (y : Y) × (read ≡ Ok (y, rest x))
Skips rest (Err fault) read = read ≡ Err fault

-- the function returns whether the decoding succeeds, or the fault
abbrev pub Checks : {X Y : Type 0} → Result X RecordFault → Result Y RecordFault → Type 0
Checks (Ok x) read = IsOk read
Checks (Err fault) read = read ≡ Err fault

-- the fault of the decoding; an allocation failure only if the decoding has no fault
abbrev pub Tells : {Y : Type 0} → RecordFault → Result Y RecordFault → Type 0
Tells Memory read = IsOk read
Tells fault read = read ≡ Err fault
