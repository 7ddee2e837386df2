-- The durable state, and the effect of each command on it.
use Rattle.std.specs.Prelude.{◌≡◌, ℕ, ◌+◌, ◌^◌, ◌<◌, Bool, true, false, not, ◌||◌, List, length, Option, Some, None, is_some, bytes_eq, refl}
use Rattle.std.specs.List.{fold, list_all}
use Rattle.std.specs.FinMap as map
use Rattle.std.specs.Coded.{Coded, code_by, coded×, coded_list, coded_ℕ}
use Rattle.cg_record.specs.declared.command.Command.{Command}
use Rattle.cg_record.specs.declared.command.Command.TheVariants.{Assigned, Emptied, Replaced, Committed, Deleted, Expired, Dropped}
use Rattle.cg_record.specs.declared.committed.Committed as commits
use Rattle.cg_record.specs.declared.entry.Entry.{Entry}
use Rattle.cg_record.specs.declared.member_record.MemberRecord.{MemberRecord}
use Rattle.cg_record.specs.declared.topic_partition.TopicPartition.{TopicPartition}
use Rattle.cg_fold.specs.declared.stored_offset.StoredOffset.{StoredOffset}
use Rattle.cg_fold.specs.declared.group_record.GroupRecord.{GroupRecord}
use Rattle.cg_fold.specs.Key.{OffsetKey, is_among, key_cmp, key_of, name_cmp, kept_of, offsets_code}
use Rattle.cg_fold.specs.Record.{assigned_record, emptied_record, replaced_record, record_code}
use Rattle.cg_fold.specs.Grouped.{is_another}

-- the durable state: the record of each group, and the committed offset of each partition for each group
pub record State : Type 0 where
  pub records : map.FinMap name_cmp GroupRecord
  pub offsets : map.FinMap key_cmp StoredOffset

-- a state has the code of its maps
abbrev pub state_code : Coded State
state_code = code_by (map.FinMap name_cmp GroupRecord × map.FinMap key_cmp StoredOffset) (coded× (map.code (coded_list coded_ℕ) record_code) offsets_code) (λ s. (s.records, s.offsets)) (λ m. record { records = m.0; offsets = m.1 }) (λ _. refl)

-- the state before any command
abbrev pub empty : State
empty = record { records = map.empty; offsets = map.empty }

-- the state with this record of a group
abbrev pub with_record : State → List ℕ → GroupRecord → State
with_record state group new = record state { records = map.insert state.records group new }

-- the state with a replaced member in the record of a group, if it has one
abbrev pub with_member : State → List ℕ → MemberRecord → Option GroupRecord → State
with_member state group new None = state
with_member state group new (Some held) = with_record state group (replaced_record new held)

-- the offsets with that of one entry, for the group that commits it at this moment
abbrev pub with_entry : List ℕ → Option ℕ → map.FinMap key_cmp StoredOffset → Entry → map.FinMap key_cmp StoredOffset
with_entry group moment offsets entry = map.insert offsets (kept_of group moment entry).0 (kept_of group moment entry).1

-- the partition of the entry has an offset, for this group
abbrev pub has_offset : List ℕ → map.FinMap key_cmp StoredOffset → Entry → Bool
has_offset group offsets entry = is_some (map.get offsets (key_of group entry.key))

-- a commit all of whose partitions have an offset; the count of offsets, in 64 bits, could take its entries
pub record Renews (offsets : map.FinMap key_cmp StoredOffset) (commit : commits.Committed) : Type 0 where
  pub each : list_all (has_offset commit.group offsets) commit.entries ≡ true
  pub few : map.len offsets + length commit.entries < 2 ^ 64

-- the offset is one of another group
abbrev pub is_of_other : List ℕ → OffsetKey → Bool
is_of_other group key = not (bytes_eq key.group group)

-- the offset is one of another group, or of none of these partitions
abbrev pub is_beside : List ℕ → List TopicPartition → OffsetKey → Bool
is_beside group partitions key = is_of_other group key || not (is_among partitions key.partition)

-- the state without the offsets of these partitions of a group
abbrev pub without_offsets : State → List ℕ → List TopicPartition → State
without_offsets state group partitions = record state { offsets = map.retain_keys state.offsets (is_beside group partitions) }

-- the state without the record and the offsets of a group
abbrev pub without_group : State → List ℕ → State
without_group state group = record { records = map.retain_keys state.records (is_another group); offsets = map.retain_keys state.offsets (is_of_other group) }

-- the effect of one command
unfoldable pub effect : State → Command → State
effect state (Assigned assigned) = with_record state assigned.group (assigned_record assigned)
effect state (Emptied emptied) = with_record state emptied.group (emptied_record emptied)
effect state (Replaced replaced) = with_member state replaced.group replaced.member (map.get state.records replaced.group)
effect state (Committed commit) = record state { offsets = fold (with_entry commit.group commit.moment) state.offsets commit.entries }
effect state (Deleted deleted) = without_group state deleted.group
effect state (Expired expired) = without_offsets state expired.group expired.partitions
effect state (Dropped dropped) = without_offsets state dropped.group dropped.partitions

-- the command removes records or offsets, and sets none
abbrev pub takes_away : Command → Bool
takes_away (Assigned assigned) = false
takes_away (Emptied emptied) = false
takes_away (Replaced replaced) = false
takes_away (Committed commit) = false
takes_away (Deleted deleted) = true
takes_away (Expired expired) = true
takes_away (Dropped dropped) = true

-- the effect of commands, in order
abbrev pub after : State → List Command → State
after state commands = fold effect state commands

-- the state that commands build from the empty one
abbrev pub folded : List Command → State
folded commands = after empty commands

-- the number of group records and of offsets
abbrev pub counts_of : State → ℕ × ℕ
counts_of state = (map.len state.records, map.len state.offsets)
