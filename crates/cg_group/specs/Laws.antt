-- Laws of the machine, for every list of events after recovery from any durable state.
use Rattle.std.specs.Prelude.{◌≡◌, ◌⊎◌, ◌≤◌, ℕ, max, Bool, true, pos, List, [], ◌∷◌, ◌++◌, map, Option, Some, None, Ok, Contains, IfSome, is_some}
use Rattle.std.specs.List.{list_any, flat_map}
use Rattle.std.specs.Ordering.{int_eq}
use Rattle.std.specs.FinMap as finmap
use Rattle.cg_names.specs.declared.code.Code.{Code}
use Rattle.cg_record.specs.declared.command.Command.{Command}
use Rattle.cg_record.specs.declared.command.Command.TheVariants as command
use Rattle.cg_record.specs.declared.member_record.MemberRecord.{MemberRecord}
use Rattle.cg_record.specs.declared.replaced.Replaced.{Replaced}
use Rattle.cg_record.specs.Rosters.{RosterParts}
use Rattle.cg_fold.specs.declared.group_record.GroupRecord.{GroupRecord}
use Rattle.cg_fold.specs.declared.group_record.RecordedMembers.{RecordedMembers}
use Rattle.cg_fold.specs.declared.group_record.RecordedMembers.TheVariants as recorded
use Rattle.cg_fold.specs.Durable.{State, after}
use Rattle.cg_fold.specs.Key.{OffsetKey, key_of}
use Rattle.cg_fold.specs.declared.stored_offset.StoredOffset.{StoredOffset}
use Rattle.cg_record.specs.declared.topic_partition.TopicPartition.{TopicPartition}
use Rattle.cg_group_table.specs.Expiry.{is_stale}
use Rattle.cg_request.specs.declared.event.Event.{Event}
use Rattle.cg_request.specs.declared.event.Event.TheVariants as event
use Rattle.cg_group_state.specs.declared.group.Group.{Group}
use Rattle.cg_group_state.specs.declared.group.Phase.{Phase}
use Rattle.cg_group_state.specs.declared.group.Phase.TheVariants.{Empty, Preparing, Completing, Stable}
use Rattle.cg_group_state.specs.declared.member.Member.{Member}
use Rattle.cg_group_state.specs.declared.reply.Reply.{Reply}
use Rattle.cg_request.specs.declared.request_fields.CommitRequest.{CommitRequest}
use Rattle.cg_request.specs.declared.request_fields.SyncRequest.{SyncRequest}
use Rattle.cg_group_state.specs.declared.reply.Reply.TheVariants as reply
use Rattle.cg_request.specs.declared.ticket.Ticket.{Ticket}
use Rattle.cg_group_rules.specs.OffsetCommit.{is_negative}
use Rattle.cg_group_state.specs.MemberCheck.{fencing}
use Rattle.cg_group_table.specs.Kept.{AreRecords, Each, HasOffset, Kept, kept_in}
use Rattle.cg_group_rules.specs.Leave.{gone_in}
use Rattle.cg_group_state.specs.Members.{AreDistinct}
use Rattle.cg_group_state.specs.Offsets.{OffsetMap}
use Rattle.cg_group.specs.Machine.{at_event, handled, reply_alone, step}
use Rattle.cg_group_table.specs.GroupTable.{Machine, Outcome, find_group}
use Rattle.cg_group_state.specs.Membership.{find_member, has_instance}
use Rattle.cg_group_table.specs.Recovery.{revive}
use Rattle.cg_group_rules.specs.Sync.{kept_member}
use Rattle.cg_group_rules.specs.Tick.{ticked}

-- the state of the machine after these events, each at its moment
unfoldable pub after_all : List (Event × ℕ) → Machine → Machine
after_all [] s = s
after_all (e ∷ es) s = after_all es (step s e.0 e.1).after

-- the commands of these events, in their order
unfoldable pub commands_of : List (Event × ℕ) → Machine → List Command
commands_of [] s = []
commands_of (e ∷ es) s = (step s e.0 e.1).effects.commands ++ commands_of es (step s e.0 e.1).after

-- what the types of requests give: a JOIN lists a protocol, and a COMMIT has an entry
abbrev pub is_request : Event → Bool
is_request (event.Join ticket r fresh) = list_any (λ p. true) r.protocols
is_request (event.Commit ticket r) = list_any (λ e. true) r.entries
is_request (event.Sync ticket r) = true
is_request (event.Beat ticket r) = true
is_request (event.Leave ticket r) = true
is_request (event.Fetch ticket r) = true
is_request (event.Delete ticket id) = true
is_request (event.Drop ticket r) = true
is_request (event.Describe ticket id) = true
is_request (event.List ticket) = true
is_request (event.Gone session) = true
is_request event.Tick = true

abbrev pub AreRequests : List (Event × ℕ) → Type 0
AreRequests events = Each (λ e. is_request e.0 ≡ true) events

-- No two members of a group share an id or an instance.

abbrev pub MembersStayDistinct : Type 0
MembersStayDistinct =
    (state : State) (now : ℕ) (events : List (Event × ℕ)) → AreRecords state
    → Each (λ g. AreDistinct g.members) (after_all events (revive state now)).groups

-- All JOIN replies of one completed rebalance name the same leader, protocol and generation.

-- the replies of an event, group by group: a request has its replies in one group
unfoldable pub replies_by_group : Machine → Event → List (List (Ticket × Reply))
replies_by_group s (event.Gone session) = map (λ g. (gone_in s.last session g).replies) s.groups
replies_by_group s event.Tick = map (λ g. (ticked s.last g).replies) s.groups
replies_by_group s (event.Join ticket r fresh) = (handled s (event.Join ticket r fresh)).effects.replies ∷ []
replies_by_group s (event.Sync ticket r) = (handled s (event.Sync ticket r)).effects.replies ∷ []
replies_by_group s (event.Beat ticket r) = (handled s (event.Beat ticket r)).effects.replies ∷ []
replies_by_group s (event.Leave ticket r) = (handled s (event.Leave ticket r)).effects.replies ∷ []
replies_by_group s (event.Commit ticket r) = (handled s (event.Commit ticket r)).effects.replies ∷ []
replies_by_group s (event.Fetch ticket r) = (handled s (event.Fetch ticket r)).effects.replies ∷ []
replies_by_group s (event.Delete ticket id) = (handled s (event.Delete ticket id)).effects.replies ∷ []
replies_by_group s (event.Drop ticket r) = (handled s (event.Drop ticket r)).effects.replies ∷ []
replies_by_group s (event.Describe ticket id) = (handled s (event.Describe ticket id)).effects.replies ∷ []
replies_by_group s (event.List ticket) = (handled s (event.List ticket)).effects.replies ∷ []

-- a JOIN reply names this generation, protocol and leader; other replies name nothing
abbrev pub Names : ℕ → Option (List ℕ) → Option (List ℕ) → Reply → Type 0
Names generation protocol leader (reply.Joined j) = (j.generation ≡ generation) × (j.protocol ≡ protocol) × (j.leader ≡ leader)
Names generation protocol leader (reply.Synced bytes) = Unit {0}
Names generation protocol leader reply.Done = Unit {0}
Names generation protocol leader (reply.Fetched partitions) = Unit {0}
Names generation protocol leader (reply.Described d) = Unit {0}
Names generation protocol leader (reply.Groups groups) = Unit {0}
Names generation protocol leader (reply.Refused code) = Unit {0}

-- the JOIN replies in this list name the same generation, protocol and leader
pub record IsOneRound (replies : List (Ticket × Reply)) : Type 0 where
  pub generation : ℕ
  pub protocol : Option (List ℕ)
  pub leader : Option (List ℕ)
  pub each : Each (λ r. Names generation protocol leader r.1) replies

-- the replies of an event are those of its groups, in order, and those of each group name the same generation, protocol
-- and leader
pub record IsInRounds (s : Machine) (e : Event) : Type 0 where
  pub whole : (handled s e).effects.replies ≡ flat_map (λ replies. replies) (replies_by_group s e)
  pub rounds : Each IsOneRound (replies_by_group s e)

-- the same for each event of a list, in the state that the events before it left
abbrev pub AreInRounds : List (Event × ℕ) → Machine → Type 0
AreInRounds [] s = Unit {0}
AreInRounds (e ∷ es) s = IsInRounds (at_event s e.1) e.0 × AreInRounds es (step s e.0 e.1).after

-- from every state, and so from every recovered one
abbrev pub RoundsAreOne : Type 0
RoundsAreOne = (events : List (Event × ℕ)) (s : Machine) → AreInRounds events s

-- Machine and commands agree.

-- the record of a stable group
pub record IsAssignedAs (r : GroupRecord) (roster : RosterParts) (g : Group) : Type 0 where
  pub phase : g.phase ≡ Stable
  pub generation : r.generation ≡ g.generation
  pub kind : Some r.kind ≡ g.kind
  pub protocol : Some roster.protocol ≡ g.protocol
  pub leader : Some roster.leader ≡ g.leader
  pub members : roster.members ≡ map (kept_member g.protocol) g.members

-- the record of a group without members, with the moment at which it was emptied: it has no protocol and no leader either
pub record IsEmptiedAs (r : GroupRecord) (moment : Option ℕ) (g : Group) : Type 0 where
  pub phase : g.phase ≡ Empty
  pub generation : r.generation ≡ g.generation
  pub kind : Some r.kind ≡ g.kind
  pub protocol : g.protocol ≡ None
  pub leader : g.leader ≡ None
  pub members : g.members ≡ []
  pub emptied : g.emptied ≡ moment

-- a group of which only offsets are stored: it has nothing of a rebalance
pub record IsUnrecorded (g : Group) : Type 0 where
  pub phase : g.phase ≡ Empty
  pub generation : g.generation ≡ 0
  pub kind : g.kind ≡ None
  pub protocol : g.protocol ≡ None
  pub leader : g.leader ≡ None
  pub members : g.members ≡ []

-- the record has everything of the group, by its members
abbrev pub IsRecordedAs : GroupRecord → RecordedMembers → Group → Type 0
IsRecordedAs r (recorded.Roster roster) g = IsAssignedAs r roster g
IsRecordedAs r (recorded.Empty moment) g = IsEmptiedAs r moment g

-- the record has everything of the group, or the group needs none
abbrev pub TellsOf : Group → Option GroupRecord → Type 0
TellsOf g None = IsUnrecorded g
TellsOf g (Some r) = IsRecordedAs r r.members g

-- a stable or empty group equals its record; a group with a rebalance under way may differ
abbrev pub AgreesIn : Phase → Group → Option GroupRecord → Type 0
AgreesIn Stable g kept = TellsOf g kept
AgreesIn Empty g kept = TellsOf g kept
AgreesIn Preparing g kept = Unit {0}
AgreesIn Completing g kept = Unit {0}

-- a rebalance is under way
abbrev pub IsRebalancing : Phase → Type 0
IsRebalancing phase = (phase ≡ Preparing) ⊎ (phase ≡ Completing)

-- a group is loaded for a reason: it has a record or an offset, or a rebalance is under way in it
abbrev pub IsFounded : OffsetMap → Kept → Group → Type 0
IsFounded offsets kept g = kept g.id ≡ None → HasOffset offsets g.id ⊎ IsRebalancing g.phase

-- the offsets are those of the durable state; each group with a record or an offset is loaded; each group agrees with
-- its record; and no other group is loaded, unless a rebalance is under way in it
pub record Agrees (s : Machine) (state : State) : Type 0 where
  pub offsets : s.offsets ≡ state.offsets
  pub held : (id : List ℕ) → is_some (kept_in state id) ≡ true → is_some (find_group id s.groups) ≡ true
  pub read : (key : OffsetKey) → is_some (finmap.get state.offsets key) ≡ true → is_some (find_group key.group s.groups) ≡ true
  pub told : Each (λ g. AgreesIn g.phase g (kept_in state g.id)) s.groups
  pub founded : Each (IsFounded state.offsets (kept_in state)) s.groups

-- no record has generation 0
abbrev pub AreCompleted : State → Type 0
AreCompleted state = (group : List ℕ) → IfSome (kept_in state group) (λ r. 1 ≤ r.generation)

-- an Empty group of generation 0 has no record, and at least one offset
abbrev pub IsFresh : State → Group → Type 0
IsFresh state g = g.phase ≡ Empty → g.generation ≡ 0 → (kept_in state g.id ≡ None) × HasOffset state.offsets g.id

-- no record has generation 0, and so generation 0 tells that a group has none
pub record IsDated (s : Machine) (state : State) : Type 0 where
  pub completed : AreCompleted state
  pub fresh : Each (IsFresh state) s.groups

-- the durable state after these events
abbrev pub state_after : State → ℕ → List (Event × ℕ) → State
state_after state now events = after state (commands_of events (revive state now))

-- machine and commands agree; and if no recovered record has generation 0, none ever has
pub record AgreeAfter (events : List (Event × ℕ)) (state : State) (now : ℕ) : Type 0 where
  pub agrees : Agrees (after_all events (revive state now)) (state_after state now events)
  pub dated : AreCompleted state → IsDated (after_all events (revive state now)) (state_after state now events)

-- for the events of a list, after recovery from any durable state at any moment
abbrev pub MachineAndCommandsAgree : List (Event × ℕ) → Type 0
MachineAndCommandsAgree events = (state : State) (now : ℕ) → AgreeAfter events state now

-- A SYNC reply goes to a member that gave the group's generation, and has the assignment that is stored for it; a
-- replacement has the assignment of the replaced member.

-- an assignment that was earned: a SYNC with this ticket came from a member of a loaded group and gave the generation of
-- the group, and the record of the group has these bytes for the member
pub record IsEarnedAssignment (events : List (Event × ℕ)) (groups : List Group) (kept : Kept) (ticket : Ticket) (bytes : List ℕ) : Type 0 where
  pub group : Group
  pub loaded : Contains groups group
  pub member : Member
  pub joined : Contains group.members member
  pub request : SyncRequest
  pub moment : ℕ
  pub sent : Contains events (event.Sync ticket request, moment)
  pub addressed : request.group ≡ Some group.id
  pub given : request.member ≡ Some member.id
  pub dated : int_eq request.generation (pos group.generation) ≡ true
  pub entry : GroupRecord
  pub entry_is : kept group.id ≡ Some entry
  pub roster : RosterParts
  pub roster_is : entry.members ≡ recorded.Roster roster
  pub stored : MemberRecord
  pub listed : Contains roster.members stored
  pub own : stored.id ≡ member.id
  pub assigned : stored.assignment ≡ bytes

-- a replacement that has the assignment of the member that it replaces, as its group was before
pub record IsPassedOn (groups : List Group) (new : Replaced) : Type 0 where
  pub group : Group
  pub loaded : Contains groups group
  pub own : group.id ≡ new.group
  pub old : Member
  pub joined : Contains group.members old
  pub instance : has_instance new.member.instance old ≡ true
  pub assignment : old.assignment ≡ new.member.assignment

-- the law for one more event: each SYNC reply by the events so far and by the groups and records at its end; each
-- Replaced command by the groups before it
pub record IsEarned (events : List (Event × ℕ)) (before : Machine) (kept : Kept) (o : Outcome) : Type 0 where
  pub replies : Each (λ r. (bytes : List ℕ) → r.1 ≡ reply.Synced bytes → IsEarnedAssignment events o.after.groups kept r.0 bytes) o.effects.replies
  pub commands : Each (λ c. (new : Replaced) → c ≡ command.Replaced new → IsPassedOn before.groups new) o.effects.commands

-- for the events of a list and any one after them
abbrev pub AssignmentsAreEarned : List (Event × ℕ) → Type 0
AssignmentsAreEarned events =
    (state : State) (now : ℕ) (e : Event) (m : ℕ)
    → let before : Machine = after_all events (revive state now) in
    let o : Outcome = step before e m in
    IsEarned (events ++ (e, m) ∷ []) before (kept_in (after (state_after state now events) o.effects.commands)) o

-- A COMMIT that is not refused has a negative generation and a group without members, or comes from a member that is
-- not fenced, with the group's generation, in PreparingRebalance or Stable.

-- the members of a group, or none if it is not loaded
abbrev pub members_of : Option Group → List Member
members_of None = []
members_of (Some g) = g.members

-- a commit from a non-member: the group has no members, or is not loaded
pub record IsOfNobody (r : CommitRequest) (held : Option Group) : Type 0 where
  pub negative : is_negative r.generation ≡ true
  pub bare : members_of held ≡ []

-- a commit from a member that is not fenced
pub record IsOfMember (r : CommitRequest) (held : Option Group) : Type 0 where
  pub group : Group
  pub group_is : held ≡ Some group
  pub id : List ℕ
  pub given : r.member ≡ Some id
  pub member : is_some (find_member id group.members) ≡ true
  pub unfenced : fencing r.instance r.member group.members ≡ Ok tt
  pub generation : int_eq r.generation (pos group.generation) ≡ true
  pub phase : (group.phase ≡ Preparing) ⊎ (group.phase ≡ Stable)

-- a commit that may be taken, in the group that it names
pub record IsLawfulCommit (r : CommitRequest) (groups : List Group) : Type 0 where
  pub id : List ℕ
  pub named : r.group ≡ Some id
  pub sender : IsOfNobody r (find_group id groups) ⊎ IsOfMember r (find_group id groups)

-- the request gets one reply, an error code, and has no other effect
pub record IsRefused (ticket : Ticket) (before : Machine) (o : Outcome) : Type 0 where
  pub code : Code
  pub effects : o.effects ≡ reply_alone ticket (reply.Refused code)
  pub groups : o.after.groups ≡ before.groups
  pub offsets : o.after.offsets ≡ before.offsets

-- after the events of a list, a COMMIT is refused or lawful: one that gets OK, or that makes a command, is lawful
abbrev pub CommitsAreLawful : List (Event × ℕ) → Type 0
CommitsAreLawful events =
    (state : State) (now : ℕ) (ticket : Ticket) (r : CommitRequest) (m : ℕ)
    → let s : Machine = after_all events (revive state now) in
    IsRefused ticket s (step s (event.Commit ticket r) m) ⊎ IsLawfulCommit r s.groups

-- A tick makes Expired for an offset, and Deleted for a group, only where the retention time is over.

-- the offset of this partition is stale
pub record IsStaleOffset (state : State) (loaded now : ℕ) (group : List ℕ) (partition : TopicPartition) : Type 0 where
  pub stored : StoredOffset
  pub found : finmap.get state.offsets (key_of group partition) ≡ Some stored
  pub stale : is_stale loaded now stored.moment ≡ true

-- the record of the group has no members, and is stale
pub record IsStaleRecord (state : State) (loaded now : ℕ) (group : List ℕ) : Type 0 where
  pub entry : GroupRecord
  pub found : kept_in state group ≡ Some entry
  pub moment : Option ℕ
  pub empty : entry.members ≡ recorded.Empty moment
  pub stale : is_stale loaded now moment ≡ true

-- an offset expires only where its group has no record
abbrev pub IsDueIn : State → ℕ → ℕ → Command → Type 0
IsDueIn state loaded now (command.Expired e) = (kept_in state e.group ≡ None) × Each (IsStaleOffset state loaded now e.group) e.partitions
IsDueIn state loaded now (command.Deleted d) = IsStaleRecord state loaded now d.group
IsDueIn state loaded now (command.Dropped d) = Unit {0}
IsDueIn state loaded now (command.Assigned a) = Unit {0}
IsDueIn state loaded now (command.Emptied e) = Unit {0}
IsDueIn state loaded now (command.Replaced r) = Unit {0}
IsDueIn state loaded now (command.Committed c) = Unit {0}

-- for a tick after the events of a list
abbrev pub ExpiryIsLawful : List (Event × ℕ) → Type 0
ExpiryIsLawful events =
    (state : State) (now m : ℕ)
    → let s : Machine = after_all events (revive state now) in
    Each (IsDueIn (state_after state now events) now (max s.last m)) (step s event.Tick m).effects.commands
