-- JOIN (protocol guide, "JoinGroup"; KIP-62), of a new member and of a known one.
use Rattle.std.specs.Prelude.{ℕ, Bool, true, false, not, ◌&&◌, ◌||◌, List, [], ◌∷◌, ◌++◌, Option, Some, None, if◌then◌else◌}
use Rattle.std.specs.List.{list_any}
use Rattle.cg_names.specs.declared.code.Code.TheVariants.{RebalanceInProgress}
use Rattle.cg_group_state.specs.declared.calls.Calls.TheVariants.{Any}
use Rattle.cg_group_state.specs.declared.group.Group.{Group}
use Rattle.cg_group_state.specs.declared.group.Phase.{Phase}
use Rattle.cg_group_state.specs.declared.group.Phase.TheVariants.{Empty, Preparing, Completing, Stable}
use Rattle.cg_group_state.specs.declared.member.Member.{Member}
use Rattle.cg_group_state.specs.declared.member.Waits.{Waits}
use Rattle.cg_group_state.specs.declared.member.Waits.TheVariants.{Join}
use Rattle.cg_group_state.specs.declared.reply.Reply.{Reply}
use Rattle.cg_request.specs.declared.request_fields.JoinRequest.{JoinRequest}
use Rattle.cg_request.specs.declared.ticket.Ticket.{Ticket}
use Rattle.cg_group_state.specs.declared.turn.Turn.{Turn}
use Rattle.cg_group_state.specs.Membership.{is_named, find_member, with_member, hearing, leads, is_empty, is_preparing, are_same_protocols}
use Rattle.cg_group_rules.specs.Rebalance.{turn_of, prepare_rebalance, joined_reply, try_complete_join}
use Rattle.cg_group_state.specs.Vote.{is_common}
use Rattle.cg_group_state.specs.Waiting.{answer, refusing, waits_with}
use Rattle.cg_group_state.specs.JoinTerms.{updated}

-- a new group, without members
unfoldable pub new_group : List ℕ → Group
new_group id = record { id = id; phase = Empty; generation = 0; kind = None; protocol = None; leader = None; members = []; started = 0; emptied = None }

-- a new member with this id, assignment and parked call
unfoldable pub new_member : ℕ → JoinRequest → List ℕ → List ℕ → Waits → Member
new_member now r id assignment waits = record {
  id = id;
  instance = r.instance;
  client = r.client;
  session = r.session_ms;
  rebalance = r.rebalance;
  protocols = r.protocols;
  assignment = assignment;
  heard = now;
  waits = waits;
}

-- the member is appended; in a group without members it leads, and its type is the group's
unfoldable pub admitted : Member → List ℕ → Group → Group
admitted m kind g = record g {
  kind = if is_empty g.members then Some kind else g.kind;
  leader = if is_empty g.members then Some m.id else g.leader;
  members = g.members ++ m ∷ [];
}

-- a rebalance begins, unless one is under way
abbrev pub in_join_phase : ℕ → Turn → Turn
in_join_phase now t = if is_preparing t.group.phase then t else prepare_rebalance now t

-- JOIN of a new member
unfoldable pub add_member_and_rebalance : ℕ → JoinRequest → List ℕ → Ticket → Group → Turn
add_member_and_rebalance now r id ticket g = try_complete_join now (in_join_phase now (turn_of (admitted (new_member now r id [] (Join ticket)) r.kind g)))

-- the group with that member updated
unfoldable pub updating : JoinRequest → List ℕ → Group → Group
updating r id g = record g { members = with_member id (updated r) g.members }

-- the reply to an older parked call when a newer one parks
abbrev pub displaced : Option Member → List (Ticket × Reply)
displaced None = []
displaced (Some m) = answer Any (refusing RebalanceInProgress) m

-- the call of the member is parked; an older parked call gets 27
unfoldable pub waiting : ℕ → List ℕ → Waits → Turn → Turn
waiting now id waits t = record {
  group = record t.group { members = with_member id (waits_with now waits) t.group.members };
  replies = t.replies ++ displaced (find_member id t.group.members);
  commands = t.commands;
}

-- the known member joins the rebalance: it begins if needed, the JOIN is parked, and the rebalance completes if all
-- have joined
unfoldable pub rejoined : ℕ → List ℕ → Ticket → Turn → Turn
rejoined now id ticket t = try_complete_join now (waiting now id (Join ticket) (in_join_phase now t))

-- JOIN of a known member that changes something: the member is updated and joins the rebalance
unfoldable pub update_member_and_rebalance : ℕ → JoinRequest → List ℕ → Ticket → Group → Turn
update_member_and_rebalance now r id ticket g = rejoined now id ticket (turn_of (updating r id g))

-- JOIN of a known member that gets the current generation at once
unfoldable pub join_current : ℕ → List ℕ → Ticket → Member → Group → Turn
join_current now id ticket m g = record { group = hearing now id g; replies = (ticket, joined_reply g m) ∷ []; commands = [] }

-- the JOIN of a known member changes nothing: no rebalance is under way, its list is equal, and in a stable group it
-- does not lead
unfoldable pub is_current : JoinRequest → Member → Group → Phase → Bool
is_current r m g Preparing = false
is_current r m g Completing = are_same_protocols m.protocols r.protocols
is_current r m g Stable = not (leads g m) && are_same_protocols m.protocols r.protocols
is_current r m g Empty = true

-- JOIN of a known member
unfoldable pub join_known : ℕ → JoinRequest → List ℕ → Ticket → Member → Group → Turn
join_known now r id ticket m g = if is_current r m g g.phase then join_current now id ticket m g else update_member_and_rebalance now r id ticket g

-- the type is not the group's, or no listed protocol is supported by every member
unfoldable pub is_inconsistent : JoinRequest → Group → Bool
is_inconsistent r g =
    not (is_empty g.members) && (not (is_named g.kind r.kind) || not (list_any (λ p. is_common g.members p.name) r.protocols))
