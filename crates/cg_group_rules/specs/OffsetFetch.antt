-- FETCH (protocol guide, "OffsetFetch"): the committed offsets of a group.
use Rattle.std.specs.Prelude.{ℕ, List, map, Option, Some, None}
use Rattle.std.specs.FinMap as finmap
use Rattle.cg_names.specs.declared.code.Code.TheVariants.{InvalidGroupId}
use Rattle.cg_record.specs.declared.topic_partition.TopicPartition.{TopicPartition}
use Rattle.cg_fold.specs.Key.{key_of}
use Rattle.cg_group_state.specs.Offsets.{OffsetMap}
use Rattle.cg_group_state.specs.declared.reply.FetchedPartition.{FetchedPartition}
use Rattle.cg_group_state.specs.declared.reply.Reply.{Reply}
use Rattle.cg_group_state.specs.declared.reply.Reply.TheVariants.{Fetched, Refused}

-- a partition with its committed offset, if there is one
abbrev pub fetched_partition : OffsetMap → List ℕ → TopicPartition → FetchedPartition
fetched_partition offsets group p = record { key = p; stored = finmap.get offsets (key_of group p) }

-- the partitions in request order; a group that is not loaded has committed nothing
abbrev pub fetched : OffsetMap → Option (List ℕ) → List TopicPartition → Reply
fetched offsets None partitions = Refused InvalidGroupId
fetched offsets (Some group) partitions = Fetched (map (fetched_partition offsets group) partitions)
