-- The encoding of commands (docs/FORMATS.md). A list of commands has exactly one in each version that can say them.
use Rattle.std.specs.Prelude.{◌≡◌, ℕ, List, ◌∷◌, ◌++◌, length}
use Rattle.std.specs.List.{flat_map}
use Rattle.cg_record.specs.declared.entry.Entry.{Entry}
use Rattle.cg_record.specs.declared.topic_partition.TopicPartition.{TopicPartition}
use Rattle.cg_record.specs.declared.committed.Committed.{Committed}
use Rattle.cg_record.specs.declared.assigned.Assigned.{Assigned}
use Rattle.cg_record.specs.declared.emptied.Emptied.{Emptied}
use Rattle.cg_record.specs.declared.replaced.Replaced.{Replaced}
use Rattle.cg_record.specs.declared.deleted.Deleted.{Deleted}
use Rattle.cg_record.specs.declared.command.Command.{Command}
use Rattle.cg_record.specs.declared.command.Command.TheVariants as kinds
use Rattle.cg_record.specs.declared.format.Version.{Version}
use Rattle.cg_record.specs.declared.format.TheConstants.{ASSIGNED_KIND, EMPTIED_KIND, REPLACED_KIND, COMMITTED_KIND, DELETED_KIND, EXPIRED_KIND, DROPPED_KIND}
use Rattle.cg_record.specs.Rosters.{RosterParts}
use Rattle.cg_record.specs.Members.{member_text}
use Rattle.cg_record.specs.Versions.{byte_of, newest}
use Rattle.cg_record.specs.Moments.{moment_text}
use Rattle.cg_record.specs.Counts.{count_text}
use Rattle.cg_record.specs.Saying.{CanSayAll}
pub use Rattle.cg_record.specs.Texts.{number, two, four, eight, name_text, optional_text, bytes_text}

-- a roster: protocol, leader, one byte of count, members
unfoldable pub roster_text : RosterParts → List ℕ
roster_text r = name_text r.protocol ++ name_text r.leader ++ (length r.members ∷ flat_map member_text r.members)

-- an assigned group: group, generation, type, roster
unfoldable pub assigned_text : Assigned → List ℕ
assigned_text a = name_text a.group ++ four a.generation ++ name_text a.kind ++ roster_text a.roster

-- an emptied group: group, generation, type, moment
unfoldable pub emptied_text : Version → Emptied → List ℕ
emptied_text version e = name_text e.group ++ four e.generation ++ name_text e.kind ++ moment_text version e.moment

-- a replaced member: group, member
unfoldable pub replaced_text : Replaced → List ℕ
replaced_text r = name_text r.group ++ member_text r.member

-- a partition of a topic: topic, partition
abbrev pub key_text : TopicPartition → List ℕ
key_text key = name_text key.topic ++ four key.partition

-- a committed offset: its partition, offset, metadata
unfoldable pub entry_text : Entry → List ℕ
entry_text e = key_text e.key ++ eight e.offset ++ bytes_text e.metadata

-- a commit: group, moment, number of entries, entries
unfoldable pub committed_text : Version → Committed → List ℕ
committed_text version c = name_text c.group ++ moment_text version c.moment ++ (count_text version (length c.entries) ++ flat_map entry_text c.entries)

-- a deleted group: group
unfoldable pub deleted_text : Deleted → List ℕ
deleted_text d = name_text d.group

-- partitions whose offsets are removed: group, number of partitions, partitions
unfoldable pub removal_text : Version → List ℕ → List TopicPartition → List ℕ
removal_text version group partitions = name_text group ++ (count_text version (length partitions) ++ flat_map key_text partitions)

-- a command in a version: one byte of kind, and its fields
unfoldable pub command_bytes : Version → Command → List ℕ
command_bytes version (kinds.Assigned assigned) = ASSIGNED_KIND ∷ assigned_text assigned
command_bytes version (kinds.Emptied emptied) = EMPTIED_KIND ∷ emptied_text version emptied
command_bytes version (kinds.Replaced replaced) = REPLACED_KIND ∷ replaced_text replaced
command_bytes version (kinds.Committed committed) = COMMITTED_KIND ∷ committed_text version committed
command_bytes version (kinds.Deleted deleted) = DELETED_KIND ∷ deleted_text deleted
command_bytes version (kinds.Expired expired) = EXPIRED_KIND ∷ removal_text version expired.group expired.partitions
command_bytes version (kinds.Dropped dropped) = DROPPED_KIND ∷ removal_text version dropped.group dropped.partitions

-- a payload in a version: its byte, and the commands
abbrev pub payload : Version → List Command → List ℕ
payload version commands = byte_of version ∷ flat_map (command_bytes version) commands

-- the bytes are a payload of these commands, in some version that can say them
abbrev pub IsPayload : List Command → List ℕ → Type 0
IsPayload commands bytes = (version : Version) × CanSayAll version commands × (bytes ≡ payload version commands)

-- ---- what `write` encodes, in the newest version

abbrev pub command_text : Command → List ℕ
command_text = command_bytes newest

unfoldable pub spelling : List Command → List ℕ
spelling commands = payload newest commands
