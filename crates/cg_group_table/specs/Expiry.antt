-- Expiry of groups and offsets (KIP-211): what a tick takes from a group without members.
use Rattle.std.specs.Prelude.{ℕ, zero, suc, ◌+◌, Bool, true, false, not, ◌&&◌, nat_le, if◌then◌else◌, List, [], ◌∷◌, ◌++◌, filter, map, take, drop, Option, is_some, unwrap_or}
use Rattle.std.specs.List.{fold, list_all}
use Rattle.cg_fold.specs.Key.{KeptRow}
use Rattle.cg_fold.specs.Snapshot.{offsets_in}
use Rattle.cg_record.specs.declared.command.Command.{Command}
use Rattle.cg_record.specs.declared.command.Command.TheVariants.{Assigned, Committed, Deleted, Dropped, Emptied, Expired, Replaced}
use Rattle.cg_record.specs.declared.entries.TheConstants.{ENTRIES_MAX}
use Rattle.cg_record.specs.declared.topic_partition.TopicPartition.{TopicPartition}
use Rattle.cg_group_state.specs.declared.effects.Effects.{Effects}
use Rattle.cg_group_state.specs.declared.group.Group.{Group}
use Rattle.cg_group_state.specs.declared.group.Phase.{Phase}
use Rattle.cg_group_state.specs.declared.group.Phase.TheVariants.{Empty, Preparing, Completing, Stable}
use Rattle.cg_group_state.specs.declared.turn.Turn.{Turn}
use Rattle.cg_group_state.specs.Membership.{is_empty}
use Rattle.cg_group_state.specs.Offsets.{OffsetMap, offsets_after}
use Rattle.cg_group_rules.specs.Tick.{ticked}
use Rattle.cg_group_table.specs.declared.expiry.TheConstants.{EXPIRED_COMMANDS_MAX, RETENTION_MS}
use Rattle.cg_group_table.specs.GroupTable.{Machine, Outcome, effects_of, groups_after, without_group}

-- the retention time has passed since then; an unknown moment counts as that of loading
abbrev pub is_stale : ℕ → ℕ → Option ℕ → Bool
is_stale loaded now moment = nat_le (unwrap_or moment loaded + RETENTION_MS) now

abbrev pub is_stale_row : ℕ → ℕ → KeptRow → Bool
is_stale_row loaded now row = is_stale loaded now row.1.moment

-- the partitions of the stale offsets among these
abbrev pub stale_of : ℕ → ℕ → List KeptRow → List TopicPartition
stale_of loaded now rows = map (λ row. row.0) (filter (is_stale_row loaded now) rows)

-- the commands that take these partitions' offsets away: at most `most`, each for as many as one command names
unfoldable pub expiries : ℕ → List ℕ → List TopicPartition → List Command
expiries zero group partitions = []
expiries (suc most) group [] = []
expiries (suc most) group (p ∷ ps) = Expired (record { group = group; partitions = take ENTRIES_MAX (p ∷ ps) }) ∷ expiries most group (drop ENTRIES_MAX (p ∷ ps))

-- a group that has a record goes with it; in one that has none the offsets expire
unfoldable pub expiring_as : Bool → ℕ → ℕ → OffsetMap → Group → List Command
expiring_as true loaded now offsets g = if is_stale loaded now g.emptied then Deleted (record { group = g.id }) ∷ [] else []
expiring_as false loaded now offsets g = expiries EXPIRED_COMMANDS_MAX g.id (stale_of loaded now (offsets_in offsets g.id))

abbrev pub is_idle : Phase → Bool
is_idle Empty = true
is_idle Preparing = false
is_idle Completing = false
is_idle Stable = false

-- the group is Empty; then it has a type exactly if it has a record
abbrev pub is_vacant : Group → Bool
is_vacant g = is_idle g.phase && is_empty g.members

-- only in an Empty group something expires
unfoldable pub expiring_if : Bool → ℕ → ℕ → OffsetMap → Group → List Command
expiring_if true loaded now offsets g = expiring_as (is_some g.kind) loaded now offsets g
expiring_if false loaded now offsets g = []

-- the commands by which a tick takes from a group what is stale
abbrev pub expiring : ℕ → ℕ → OffsetMap → Group → List Command
expiring loaded now offsets g = expiring_if (is_vacant g) loaded now offsets g

abbrev pub is_nil : {X : Type 0} → List X → Bool
is_nil [] = true
is_nil (x ∷ xs) = false

-- the group has no offset
abbrev pub is_bare : OffsetMap → List ℕ → Bool
is_bare offsets id = is_nil (offsets_in offsets id)

-- something expires in the group
abbrev pub expires : ℕ → ℕ → OffsetMap → Group → Bool
expires loaded now offsets g = not (is_nil (expiring loaded now offsets g))

-- something expires in the group, and no offset of it is left in the later ones: nothing of it is left
abbrev pub goes : ℕ → ℕ → OffsetMap → OffsetMap → Group → Bool
goes loaded now offsets later g = expires loaded now offsets g && is_bare later g.id

-- a tick in one group: its timeouts, and then what expires. What expires depends on the group before the tick: of a group that
-- the tick itself empties nothing is stale yet.
abbrev pub swept : ℕ → ℕ → OffsetMap → Group → Turn
swept loaded now offsets g = record (ticked now g) { commands = (ticked now g).commands ++ expiring loaded now offsets g }

-- the groups of which something is left in the later offsets
abbrev pub lasting : ℕ → ℕ → OffsetMap → OffsetMap → List Group → List Group
lasting loaded now offsets later groups = filter (λ g. not (goes loaded now offsets later g)) groups

-- the effects of a tick in all groups, in their order
abbrev pub tick_effects : Machine → Effects
tick_effects s = effects_of (swept s.loaded s.last s.offsets) s.groups

-- a tick
unfoldable pub tick : Machine → Outcome
tick s = record {
  after = record s { groups = groups_after (ticked s.last) (lasting s.loaded s.last s.offsets (offsets_after s.offsets (tick_effects s).commands) s.groups) };
  effects = tick_effects s;
}

-- the command sets no offset
abbrev pub is_taking : Command → Bool
is_taking (Assigned a) = true
is_taking (Emptied e) = true
is_taking (Replaced r) = true
is_taking (Committed c) = false
is_taking (Deleted d) = true
is_taking (Expired e) = true
is_taking (Dropped d) = true

abbrev pub are_takings : List Command → Bool
are_takings commands = list_all is_taking commands

-- the groups without those of these that have no offset
abbrev pub without_bare : OffsetMap → List (List ℕ) → List Group → List Group
without_bare offsets ids groups = fold (λ left id. if is_bare offsets id then without_group id left else left) groups ids
