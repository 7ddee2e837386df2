-- Which values are commands: each field is in range. The types guarantee this for every value.
use Rattle.std.specs.Prelude.{ℕ, ◌≤◌, List, length, IsSome}
use Rattle.std.specs.List.{AllByRecursion}
use Rattle.cg_names.specs.Grammar.{IsName}
use Rattle.cg_names.specs.declared.name.TheConstants.{NAME_BYTES_MAX, MEMBER_ID_BYTES_MAX}
use Rattle.cg_record.specs.declared.partition.TheConstants.{PARTITION_MAX}
use Rattle.cg_record.specs.declared.offset.TheConstants.{OFFSET_MAX}
use Rattle.cg_record.specs.declared.metadata.TheConstants.{METADATA_BYTES_MAX}
use Rattle.cg_record.specs.declared.entry.Entry.{Entry}
use Rattle.cg_record.specs.declared.topic_partition.TopicPartition.{TopicPartition}
use Rattle.cg_record.specs.declared.committed.Committed.{Committed}
use Rattle.cg_names.specs.declared.generation.TheConstants.{GENERATION_MAX}
use Rattle.cg_record.specs.declared.assigned.Assigned.{Assigned}
use Rattle.cg_record.specs.declared.emptied.Emptied.{Emptied}
use Rattle.cg_record.specs.declared.replaced.Replaced.{Replaced}
use Rattle.cg_record.specs.declared.deleted.Deleted.{Deleted}
use Rattle.cg_record.specs.declared.command.Command.{Command}
use Rattle.cg_record.specs.declared.command.Command.TheVariants as kinds
use Rattle.cg_record.specs.Keys.{AreEntries}
use Rattle.cg_record.specs.Moments.{IsMoment}
use Rattle.cg_record.specs.Partitions.{ArePartitions}
use Rattle.cg_record.specs.Rosters.{RosterParts, IsRoster}
use Rattle.cg_record.specs.Members.{IsMember}

-- a partition of a topic
pub record IsKey (key : TopicPartition) : Type 0 where
  pub topic : IsName NAME_BYTES_MAX key.topic
  pub partition : key.partition ≤ PARTITION_MAX

-- an offset and its metadata
pub record IsKept (number : ℕ) (bytes : List ℕ) : Type 0 where
  pub offset : number ≤ OFFSET_MAX
  pub metadata : length bytes ≤ METADATA_BYTES_MAX

-- a committed offset of one partition
pub record IsEntry (entry : Entry) : Type 0 where
  pub key : IsKey entry.key
  pub kept : IsKept entry.offset entry.metadata

-- a commit of a group
pub record IsCommitted (committed : Committed) : Type 0 where
  pub group : IsName NAME_BYTES_MAX committed.group
  pub moment : IsMoment committed.moment
  pub entries : AreEntries committed.entries
  pub each : AllByRecursion IsEntry committed.entries

-- the members of a completed rebalance
pub record IsJoined (roster : RosterParts) : Type 0 where
  pub protocol : IsName NAME_BYTES_MAX roster.protocol
  pub leader : IsName MEMBER_ID_BYTES_MAX roster.leader
  pub together : IsRoster roster
  pub each : AllByRecursion IsMember roster.members

-- a group whose members have their assignments
pub record IsAssigned (assigned : Assigned) : Type 0 where
  pub group : IsName NAME_BYTES_MAX assigned.group
  pub started : 1 ≤ assigned.generation
  pub generation : assigned.generation ≤ GENERATION_MAX
  pub kind : IsName NAME_BYTES_MAX assigned.kind
  pub roster : IsJoined assigned.roster

-- a group that its last member left
pub record IsEmptied (emptied : Emptied) : Type 0 where
  pub group : IsName NAME_BYTES_MAX emptied.group
  pub started : 1 ≤ emptied.generation
  pub generation : emptied.generation ≤ GENERATION_MAX
  pub kind : IsName NAME_BYTES_MAX emptied.kind
  pub moment : IsMoment emptied.moment

-- a member that replaces the one with its instance
pub record IsReplaced (replaced : Replaced) : Type 0 where
  pub group : IsName NAME_BYTES_MAX replaced.group
  pub member : IsMember replaced.member
  pub instance : IsSome replaced.member.instance

-- a group that is deleted
pub record IsDeleted (deleted : Deleted) : Type 0 where
  pub group : IsName NAME_BYTES_MAX deleted.group

-- partitions of a group whose offsets are removed
pub record IsRemoval (id : List ℕ) (removed : List TopicPartition) : Type 0 where
  pub group : IsName NAME_BYTES_MAX id
  pub partitions : ArePartitions removed
  pub each : AllByRecursion IsKey removed

-- a change of the durable state
abbrev pub IsCommand : Command → Type 0
IsCommand (kinds.Assigned assigned) = IsAssigned assigned
IsCommand (kinds.Emptied emptied) = IsEmptied emptied
IsCommand (kinds.Replaced replaced) = IsReplaced replaced
IsCommand (kinds.Committed committed) = IsCommitted committed
IsCommand (kinds.Deleted deleted) = IsDeleted deleted
IsCommand (kinds.Expired expired) = IsRemoval expired.group expired.partitions
IsCommand (kinds.Dropped dropped) = IsRemoval dropped.group dropped.partitions

-- changes of the durable state, in their order
abbrev pub AreCommands : List Command → Type 0
AreCommands commands = AllByRecursion IsCommand commands
