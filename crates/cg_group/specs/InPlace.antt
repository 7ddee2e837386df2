-- Requests that change their group in place.
use Rattle.std.specs.Prelude.{◌≡◌, ◌⊎◌, ℕ, Bool, true, false, not, List, [], ◌∷◌, ◌++◌, Option, Some, None, option_map, Result, Ok, Err, is_ok, length}
use Rattle.std.specs.Option.{option_to_list}
use Rattle.cg_names.specs.declared.code.Code.{Code}
use Rattle.cg_names.specs.declared.code.Code.TheVariants.{RebalanceInProgress, UnknownMemberId}
use Rattle.cg_group_state.specs.declared.calls.Calls.TheVariants.{Any, OfSession}
use Rattle.cg_group_state.specs.declared.group.Group.{Group}
use Rattle.cg_group_state.specs.declared.member.Member.{Member}
use Rattle.cg_group_state.specs.declared.reply.Reply.{Reply}
use Rattle.cg_group_state.specs.declared.reply.Reply.TheVariants.{Done, Refused}
use Rattle.cg_request.specs.declared.request_fields.BeatRequest.{BeatRequest}
use Rattle.cg_request.specs.declared.request_fields.CommitRequest.{CommitRequest}
use Rattle.cg_request.specs.declared.request_fields.JoinRequest.{JoinRequest}
use Rattle.cg_request.specs.declared.request_fields.LeaveRequest.{LeaveRequest}
use Rattle.cg_request.specs.declared.request_fields.SyncRequest.{SyncRequest}
use Rattle.cg_request.specs.declared.ticket.Ticket.{Ticket}
use Rattle.cg_group_state.specs.declared.turn.Turn.{Turn}
use Rattle.cg_group_rules.specs.JoinChecks.{join_unheld}
use Rattle.cg_group_rules.specs.JoinWays.{ComesTo, IsCurrent, IsEntering, IsNew, IsParked}
use Rattle.cg_group_rules.specs.declared.join_way.JoinWay.{JoinWay}
use Rattle.cg_group_rules.specs.declared.join_way.JoinWay.TheVariants as way
use Rattle.cg_group_rules.specs.Heartbeat.{IsBeat}
use Rattle.cg_group_rules.specs.OffsetCommit.{IsCommit}
use Rattle.cg_group_rules.specs.SyncSteps.{IsSyncCase}
use Rattle.cg_group_rules.specs.declared.sync.SyncCase.{SyncCase}
use Rattle.cg_group.specs.Machine.{concluded, join}
use Rattle.cg_group_table.specs.GroupChanges.{IsChanged}
use Rattle.cg_group_table.specs.GroupTable.{InOrder, at_moment, find_group, outcome, with_group}
use Rattle.cg_group_table.specs.SessionIndex.{AreKnown, Known, is_parked}
use Rattle.cg_group_state.specs.declared.effects.Effects.{Effects}
use Rattle.cg_group_state.specs.JoinTerms.{is_session_refused}
use Rattle.cg_group_rules.specs.Join.{update_member_and_rebalance}
use Rattle.cg_group_rules.specs.Leave.{leave_held, left}
use Rattle.cg_group_state.specs.Membership.{find_member, has_id, hearing, keeping}
use Rattle.cg_group_rules.specs.Sync.{sync_held, sync_taken}
use Rattle.cg_group_state.specs.Waiting.{called, is_waiting}

-- the request names this group, and it is loaded
pub record IsNamed (given : Option (List ℕ)) (groups : List Group) (own : List ℕ) (group : Group) : Type 0 where
  pub named : given ≡ Some own
  pub found : find_group own groups ≡ Some group

-- the BEAT passes its checks, from this member, in a loaded group, where the member is heard, and gets this reply
pub record IsBeatIn (now : ℕ) (r : BeatRequest) (groups after : List Group) (id : List ℕ) (reply : Reply) : Type 0 where
  pub own : List ℕ
  pub group : Group
  pub named : IsNamed r.group groups own group
  pub beat : IsBeat r group id reply
  pub heard : after ≡ with_group (hearing now id group) groups

-- the COMMIT passes its checks in the loaded group with this id, where the committing member is heard; it was last heard `before`
pub record IsCommitIn (now : ℕ) (r : CommitRequest) (groups later : List Group) (own : List ℕ) (before : Option ℕ) : Type 0 where
  pub group : Group
  pub after : Group
  pub named : IsNamed r.group groups own group
  pub in_order : InOrder groups
  pub commit : IsCommit now r group after before
  pub put : later ≡ with_group after groups

-- the SYNC is not refused; it is of this member, in the group with this id, and processed in this way
pub record IsSync (r : SyncRequest) (groups : List Group) (own id : List ℕ) (which : SyncCase) : Type 0 where
  pub group : Group
  pub member : Member
  pub named : IsNamed r.group groups own group
  pub found : find_member id group.members ≡ Some member
  pub taken : (now : ℕ) (ticket : Ticket) → sync_held now r ticket group ≡ Ok (sync_taken now r id ticket member group group.phase)
  pub processed : IsSyncCase group member which

-- the JOIN is that of the loaded group with this id, of which this holds; its session timeout is within its limits
pub record IsJoinIn (r : JoinRequest) (groups : List Group) (own : List ℕ) (holds : Group → Type 0) : Type 0 where
  pub group : Group
  pub named : IsNamed r.group groups own group
  pub session : is_session_refused r ≡ false
  pub way : holds group

-- the JOIN of this member changes nothing and gets this reply at once
abbrev pub IsCurrentJoin : JoinRequest → List Group → List ℕ → List ℕ → Reply → Type 0
IsCurrentJoin r groups own id reply = IsJoinIn r groups own (λ g. IsCurrent r g id reply)

-- the JOIN is not refused, and makes the group with this id
pub record IsMaking (r : JoinRequest) (groups : List Group) (own : List ℕ) : Type 0 where
  pub absent : find_group own groups ≡ None
  pub taken : (now : ℕ) (fresh : List ℕ) (ticket : Ticket) (id : List ℕ) → is_ok (join_unheld now r fresh ticket (length groups) id) ≡ true

-- the JOIN takes this way, in the group with this id
abbrev pub IsWay : JoinRequest → List ℕ → List Group → List ℕ → JoinWay → Type 0
IsWay r fresh groups own (way.Refused code) = (now : ℕ) (ticket : Ticket) → join now r fresh ticket groups ≡ Err code
IsWay r fresh groups own way.Creates = IsMaking r groups own
IsWay r fresh groups own (way.Current id reply) = IsCurrentJoin r groups own id.now reply
IsWay r fresh groups own (way.Parks id older) = IsJoinIn r groups own (λ g. IsParked r g id.now older)
IsWay r fresh groups own (way.Rejoins id) = IsJoinIn r groups own (λ g. ComesTo r g (λ now ticket. update_member_and_rebalance now r id.now ticket g))
IsWay r fresh groups own way.Enters = IsJoinIn r groups own (IsEntering r fresh)
IsWay r fresh groups own way.Joins = IsJoinIn r groups own (IsNew r fresh)

-- this is the parked call of the member with this id, if it has one
pub record IsCallOf (call : Option Ticket) (id : List ℕ) (g : Group) : Type 0 where
  pub member : Member
  pub found : find_member id g.members ≡ Some member
  pub called : call ≡ called Any member.waits

-- the loaded group with this id is changed, and the change returns these effects
pub record IsStepped {E : Type 0} (becomes : Group → Group → Result Effects E → Type 0) (own : List ℕ) (groups later : List Group) (e : Effects) : Type 0 where
  pub group : Group
  pub found : find_group own groups ≡ Some group
  pub changed : IsChanged becomes groups later group (Ok e)

-- the LEAVE is not refused, in the group with this id
pub record IsLeaving (r : LeaveRequest) (groups : List Group) (own : List ℕ) : Type 0 where
  pub group : Group
  pub named : IsNamed r.group groups own group
  pub taken : (now : ℕ) (ticket : Ticket) → is_ok (leave_held now r ticket group) ≡ true

-- the LEAVE of this member, in the group with this id, only removes it: others have still to join. A session with a parked call
-- in the group has one afterwards, or the member's call came on it
pub record IsDeparture (r : LeaveRequest) (groups : List Group) (own id : List ℕ) (parked : Option Ticket) : Type 0 where
  pub group : Group
  pub member : Member
  pub named : IsNamed r.group groups own group
  pub its : id ≡ member.id
  pub taken : (now : ℕ) (ticket : Ticket) → leave_held now r ticket group ≡ Ok (left member.id ticket member group)
  pub others : (session : ℕ) → is_parked session (Some group) ≡ true → (is_parked session (Some (keeping (λ other. not (has_id member.id other)) group)) ≡ true) ⊎ (is_waiting (OfSession session) member ≡ true)
  pub called : parked ≡ called Any member.waits

-- the effects of such a LEAVE: 25 to the parked call of its member, and OK
abbrev pub departing_effects : Ticket → Option Ticket → Effects
departing_effects ticket parked = record { commands = []; replies = option_to_list (option_map (λ t. (t, Refused UnknownMemberId)) parked) ++ (ticket, Done) ∷ [] }

-- the effects of parking a call: no reply to it yet, and 27 to the older call of its member
abbrev pub parking_effects : Option Ticket → Effects
parking_effects older = record { commands = []; replies = option_to_list (option_map (λ t. (t, Refused RebalanceInProgress)) older) }

-- there is a call, and it came on this session
abbrev pub CameOn : Option Ticket → ℕ → Type 0
CameOn call session = option_map (λ (t : Ticket). t.session) call ≡ Some session

-- the change parks a call of the ticket's session; only the older call's session may lose its parked call; no other gets one
pub record Parks (ticket : Ticket) (older : Option Ticket) (g after : Group) : Type 0 where
  pub asked : is_parked ticket.session (Some after) ≡ true
  pub stays : (session : ℕ) → is_parked session (Some g) ≡ true → (is_parked session (Some after) ≡ true) ⊎ CameOn older session
  pub known : (sessions : ℕ → Bool) → sessions ticket.session ≡ true → Known sessions g → Known sessions after

-- the group whose step this is; a refusal is no step
abbrev pub group_of : Result Turn Code → Option (List ℕ)
group_of (Err code) = None
group_of (Ok t) = Some t.group.id

-- the groups after the step; a refusal is no step
abbrev pub groups_of : Result Turn Code → List Group → List Group
groups_of (Err code) groups = groups
groups_of (Ok t) groups = with_group t.group groups

-- the group that the step replaces
abbrev pub replaced_by : Result Turn Code → List Group → Option Group
replaced_by (Err code) groups = None
replaced_by (Ok t) groups = find_group t.group.id groups

-- if the index has the group of the step for the session of the request, it has every request that is parked after the step
abbrev pub ParksKnown : ℕ → List Group → Ticket → Result Turn Code → Type 0
ParksKnown now groups ticket o =
    (homes : ℕ → List ℕ → Bool) (after : List Group) (made : Effects) → ((x : List ℕ) → group_of o ≡ Some x → homes ticket.session x ≡ true)
    → concluded (at_moment now groups) ticket o ≡ outcome (at_moment now after) made → AreKnown homes groups → AreKnown homes after

-- if the index has the group of the step for the session of the request, it has every call that is parked after the step
abbrev pub StepParks : List Group → Ticket → Turn → Type 0
StepParks groups ticket t = (homes : ℕ → List ℕ → Bool) → homes ticket.session t.group.id ≡ true → AreKnown homes groups → AreKnown homes (with_group t.group groups)

-- the index has every call that is parked after the step: the step parks none
abbrev pub StepKnown : List Group → Turn → Type 0
StepKnown groups t = (homes : ℕ → List ℕ → Bool) → AreKnown homes groups → AreKnown homes (with_group t.group groups)
