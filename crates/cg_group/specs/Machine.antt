-- The machine: the effect of an event on the loaded groups and the offsets. The moment of an event is its own or the
-- last one, whichever is later.
use Rattle.std.specs.Prelude.{◌≡◌, ◌≤◌, ◌+◌, ◌-◌, ◌^◌, not, ◌&&◌, ◌||◌, if◌then◌else◌, ℕ, Bool, min, max, fold, filter, List, [], ◌∷◌, map, length, Option, Some, None, Result, Ok, Err, true, is_ok, is_some, option_map, ok_or}
use Rattle.std.specs.List.{list_any}
use Rattle.cg_names.specs.declared.code.Code.{Code}
use Rattle.cg_names.specs.declared.code.Code.TheVariants.{GroupIdNotFound, InvalidGroupId, InvalidSessionTimeout, NonEmptyGroup, UnknownMemberId}
use Rattle.std.specs.FinMap as finmap
use Rattle.cg_record.specs.declared.command.Command.{Command}
use Rattle.cg_record.specs.declared.command.Command.TheVariants as command
use Rattle.cg_record.specs.declared.topic_partition.TopicPartition.{TopicPartition}
use Rattle.cg_fold.specs.Key.{key_of}
use Rattle.cg_group_state.specs.declared.effects.Effects.{Effects}
use Rattle.cg_request.specs.declared.event.Event.{Event}
use Rattle.cg_request.specs.declared.event.Event.TheVariants.{Join, Sync, Beat, Leave, Commit, Fetch, Delete, Drop, Describe, Gone, Tick}
use Rattle.cg_request.specs.declared.event.Event.TheVariants as event
use Rattle.cg_group_state.specs.declared.group.Group.{Group}
use Rattle.cg_group_state.specs.declared.reply.Reply.{Reply}
use Rattle.cg_group_state.specs.declared.reply.Reply.TheVariants as reply
use Rattle.cg_request.specs.declared.request_fields.BeatRequest.{BeatRequest}
use Rattle.cg_request.specs.declared.request_fields.CommitRequest.{CommitRequest}
use Rattle.cg_request.specs.declared.request_fields.JoinRequest.{JoinRequest}
use Rattle.cg_request.specs.declared.request_fields.LeaveRequest.{LeaveRequest}
use Rattle.cg_request.specs.declared.request_fields.SyncRequest.{SyncRequest}
use Rattle.cg_request.specs.declared.ticket.Ticket.{Ticket}
use Rattle.cg_group_state.specs.declared.turn.Turn.{Turn}
use Rattle.cg_group_rules.specs.JoinChecks.{join_held, join_unheld}
use Rattle.cg_group_rules.specs.Heartbeat.{beat_held}
use Rattle.cg_group_rules.specs.OffsetCommit.{commit_held, commit_unheld}
use Rattle.cg_group_rules.specs.TickDeadline.{gone_touches, tick_touches}
use Rattle.cg_group_table.specs.Describe.{description, listing}
use Rattle.cg_group_table.specs.Expiry.{expires, is_bare, is_nil, tick}
use Rattle.cg_group_rules.specs.OffsetFetch.{fetched}
use Rattle.cg_group_table.specs.GroupTable.{Machine, Outcome, find_group, with_group, without_group, everywhere}
use Rattle.cg_group_state.specs.JoinTerms.{is_session_refused}
use Rattle.cg_group_rules.specs.Leave.{gone_in, leave_held}
use Rattle.cg_group_state.specs.Membership.{is_empty}
use Rattle.cg_group_state.specs.Offsets.{OffsetMap, offsets_after}
use Rattle.cg_group_state.specs.Checks.{◌>>=◌, refused_if}
use Rattle.cg_group_rules.specs.Sync.{sync_held}

-- one reply, and no command
abbrev pub reply_alone : Ticket → Reply → Effects
reply_alone ticket reply = record { commands = []; replies = (ticket, reply) ∷ [] }

abbrev pub replying : Machine → Ticket → Reply → Outcome
replying s ticket reply = record { after = s; effects = reply_alone ticket reply }

-- a request is refused and changes nothing, or its step takes effect
unfoldable pub concluded : Machine → Ticket → Result Turn Code → Outcome
concluded s ticket (Err code) = replying s ticket (reply.Refused code)
concluded s ticket (Ok t) = record {
  after = record s { groups = with_group t.group s.groups };
  effects = record { commands = t.commands; replies = t.replies };
}

-- the group that a request names, if it is loaded
abbrev pub named_group : Option (List ℕ) → List Group → Result Group Code
named_group id groups = do
  i ← ok_or id InvalidGroupId
  ok_or (find_group i groups) UnknownMemberId

-- JOIN, by whether its group is loaded
abbrev pub join_in : ℕ → JoinRequest → List ℕ → Ticket → List Group → List ℕ → Option Group → Result Turn Code
join_in now r fresh ticket groups id None = join_unheld now r fresh ticket (length groups) id
join_in now r fresh ticket groups id (Some g) = join_held now r fresh ticket r.member g

-- JOIN
unfoldable pub join : ℕ → JoinRequest → List ℕ → Ticket → List Group → Result Turn Code
join now r fresh ticket groups = do
  id ← ok_or r.group InvalidGroupId
  _ ← refused_if (is_session_refused r) InvalidSessionTimeout
  join_in now r fresh ticket groups id (find_group id groups)

-- SYNC
unfoldable pub sync : ℕ → SyncRequest → Ticket → List Group → Result Turn Code
sync now r ticket groups = do
  g ← named_group r.group groups
  sync_held now r ticket g

-- BEAT
unfoldable pub beat : ℕ → BeatRequest → Ticket → List Group → Result Turn Code
beat now r ticket groups = do
  g ← named_group r.group groups
  beat_held now r ticket g

-- LEAVE
unfoldable pub leave : ℕ → LeaveRequest → Ticket → List Group → Result Turn Code
leave now r ticket groups = do
  g ← named_group r.group groups
  leave_held now r ticket g

-- COMMIT, by whether its group is loaded
abbrev pub commit_in : ℕ → CommitRequest → Ticket → List Group → List ℕ → Option Group → Result Turn Code
commit_in now r ticket groups id None = commit_unheld now r.generation r.entries ticket (length groups) id
commit_in now r ticket groups id (Some g) = commit_held now r.generation r.instance r.member r.entries ticket g

-- COMMIT
unfoldable pub commit : ℕ → CommitRequest → Ticket → List Group → Result Turn Code
commit now r ticket groups = do
  id ← ok_or r.group InvalidGroupId
  commit_in now r ticket groups id (find_group id groups)

-- DELETE and DROP: the group is loaded, and has no members
unfoldable pub memberless : Option (List ℕ) → List Group → Result (List ℕ) Code
memberless id groups = do
  i ← ok_or id InvalidGroupId
  g ← ok_or (find_group i groups) GroupIdNotFound
  _ ← refused_if (not (is_empty g.members)) NonEmptyGroup
  Ok i

-- the command that deletes a group, and its reply
abbrev pub deleted_alone : Ticket → List ℕ → Effects
deleted_alone ticket id = record { commands = command.Deleted (record { group = id }) ∷ []; replies = (ticket, reply.Done) ∷ [] }

-- the command of a DROP (KIP-496), where there is an offset to drop
abbrev pub drop_command : List ℕ → List TopicPartition → List Command
drop_command group [] = []
drop_command group (p ∷ ps) = command.Dropped (record { group = group; partitions = p ∷ ps }) ∷ []

-- those of the partitions that have an offset in the group, in their order
abbrev pub with_offset : OffsetMap → List ℕ → List TopicPartition → List TopicPartition
with_offset offsets group partitions = filter (λ p. is_some (finmap.get offsets (key_of group p))) partitions

-- the group has no type, and so no record
abbrev pub is_unrecorded : Option Group → Bool
is_unrecorded None = true
is_unrecorded (Some g) = not (is_some g.kind)

-- nothing of the group is left: it has no record and no offset
abbrev pub is_unfounded : OffsetMap → List Group → List ℕ → Bool
is_unfounded offsets groups id = is_bare offsets id && is_unrecorded (find_group id groups)

-- the groups after these commands on one of them, which goes if they leave nothing of it
abbrev pub founded_after : OffsetMap → List Command → List ℕ → List Group → List Group
founded_after offsets commands id groups =
    if not (is_nil commands) && is_unfounded (offsets_after offsets commands) groups id then without_group id groups else groups

-- the effect of a DROP: OK, and the command if any of the partitions has an offset
unfoldable pub dropped : Machine → Ticket → List TopicPartition → Result (List ℕ) Code → Outcome
dropped s ticket partitions (Err code) = replying s ticket (reply.Refused code)
dropped s ticket partitions (Ok id) =
    let commands : List Command = drop_command id (with_offset s.offsets id partitions) in
    record {
      after = record s { groups = founded_after s.offsets commands id s.groups };
      effects = record { commands = commands; replies = (ticket, reply.Done) ∷ [] };
    }

-- the effect of a DELETE
unfoldable pub deleted : Machine → Ticket → Result (List ℕ) Code → Outcome
deleted s ticket (Err code) = replying s ticket (reply.Refused code)
deleted s ticket (Ok id) = record {
  after = record s { groups = without_group id s.groups };
  effects = deleted_alone ticket id;
}

-- DESCRIBE; a group that is not loaded has no description, and a client sees it as Dead
unfoldable pub describe : Option (List ℕ) → List Group → Reply
describe None groups = reply.Refused InvalidGroupId
describe (Some id) groups = reply.Described (option_map description (find_group id groups))

-- an event at the last moment
unfoldable pub handled : Machine → Event → Outcome
handled s (Join ticket r fresh) = concluded s ticket (join s.last r fresh ticket s.groups)
handled s (Sync ticket r) = concluded s ticket (sync s.last r ticket s.groups)
handled s (Beat ticket r) = concluded s ticket (beat s.last r ticket s.groups)
handled s (Leave ticket r) = concluded s ticket (leave s.last r ticket s.groups)
handled s (Commit ticket r) = concluded s ticket (commit s.last r ticket s.groups)
handled s (Fetch ticket r) = replying s ticket (fetched s.offsets r.group r.partitions)
handled s (Delete ticket id) = deleted s ticket (memberless id s.groups)
handled s (Drop ticket r) = dropped s ticket r.partitions (memberless r.group s.groups)
handled s (Describe ticket id) = replying s ticket (describe id s.groups)
handled s (event.List ticket) = replying s ticket (reply.Groups (map listing s.groups))
handled s (Gone session) = everywhere (gone_in s.last session) s
handled s Tick = tick s

-- the event may need memory: a request only if it is not refused, and a BEAT never; a DROP only if it makes a command; a DESCRIBE
-- and a LIST only if there is a group to show, the end of a session only if a call of it is parked, and a tick only if it changes
-- a group
unfoldable pub MayNeedMemory : Machine → Event → Type 0
MayNeedMemory s (Join ticket r fresh) = is_ok (join s.last r fresh ticket s.groups) ≡ true
MayNeedMemory s (Sync ticket r) = is_ok (sync s.last r ticket s.groups) ≡ true
MayNeedMemory s (Beat ticket r) = ⊥
MayNeedMemory s (Leave ticket r) = is_ok (leave s.last r ticket s.groups) ≡ true
MayNeedMemory s (Commit ticket r) = is_ok (commit s.last r ticket s.groups) ≡ true
MayNeedMemory s (Fetch ticket r) = is_some r.group ≡ true
MayNeedMemory s (Delete ticket id) = is_ok (memberless id s.groups) ≡ true
MayNeedMemory s (Drop ticket r) = 1 ≤ length (dropped s ticket r.partitions (memberless r.group s.groups)).effects.commands
MayNeedMemory s (Describe ticket id) = is_ok (named_group id s.groups) ≡ true
MayNeedMemory s (event.List ticket) = 1 ≤ length s.groups
MayNeedMemory s (Gone session) = list_any (gone_touches session) s.groups ≡ true
MayNeedMemory s Tick = list_any (λ g. tick_touches s.last g || expires s.loaded s.last s.offsets g) s.groups ≡ true

-- the commands change the offsets
abbrev pub with_offsets : Outcome → Outcome
with_offsets o = record o { after = record o.after { offsets = offsets_after o.after.offsets o.effects.commands } }

-- the machine at the moment of an event; an earlier moment counts as the last one
abbrev pub at_event : Machine → ℕ → Machine
at_event s now = record s { last = max s.last now }

-- the step: an event at a moment
unfoldable pub step : Machine → Event → ℕ → Outcome
step s event now = with_offsets (handled (at_event s now) event)

-- the number of members of all groups, as far as 64 bits hold it
abbrev pub member_count : List Group → ℕ
member_count groups = fold (λ n g. min (n + length g.members) (2 ^ 64 - 1)) 0 groups
