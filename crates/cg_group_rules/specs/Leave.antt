-- LEAVE (protocol guide, "LeaveGroup"; KIP-345, removal by instance id), and closed sessions.
use Rattle.std.specs.Prelude.{ℕ, List, ok_or, Bool, true, false, not, [], ◌∷◌, ◌++◌, Option, Some, None, Result, Ok, if◌then◌else◌}
use Rattle.cg_names.specs.declared.code.Code.{Code}
use Rattle.cg_names.specs.declared.code.Code.TheVariants.{CoordinatorNotAvailable, FencedInstanceId, UnknownMemberId}
use Rattle.cg_group_state.specs.declared.calls.Calls.TheVariants.{Any, OfSession}
use Rattle.cg_group_state.specs.declared.group.Group.{Group}
use Rattle.cg_group_state.specs.declared.group.Phase.{Phase}
use Rattle.cg_group_state.specs.declared.group.Phase.TheVariants.{Empty, Preparing, Completing, Stable}
use Rattle.cg_group_state.specs.declared.member.Member.{Member}
use Rattle.cg_group_state.specs.declared.reply.Reply.TheVariants as reply
use Rattle.cg_request.specs.declared.request_fields.LeaveRequest.{LeaveRequest}
use Rattle.cg_request.specs.declared.ticket.Ticket.{Ticket}
use Rattle.cg_group_state.specs.declared.turn.Turn.{Turn}
use Rattle.cg_group_state.specs.Membership.{find_instance, find_member, has_id, is_same, keeping}
use Rattle.cg_group_rules.specs.Rebalance.{prepare_rebalance, try_complete_join}
use Rattle.cg_group_state.specs.Checks.{◌>>=◌, refused_if}
use Rattle.cg_group_state.specs.Waiting.{after_answers, answer, answers, refusing}

-- the removal of a member starts a rebalance: the group is in Completing or Stable
abbrev pub has_joined : Phase → Bool
has_joined Completing = true
has_joined Stable = true
has_joined Empty = false
has_joined Preparing = false

-- after a removal: a rebalance begins if the members had joined, and completes if all members have joined
unfoldable pub after_removal : ℕ → Turn → Turn
after_removal now t = try_complete_join now (if has_joined t.group.phase then prepare_rebalance now t else t)

-- the member is removed; its parked call gets 25, and the LEAVE gets OK
unfoldable pub left : List ℕ → Ticket → Member → Group → Turn
left id ticket m g = record {
  group = keeping (λ other. not (has_id id other)) g;
  replies = answer Any (refusing UnknownMemberId) m ++ (ticket, reply.Done) ∷ [];
  commands = [];
}

-- LEAVE that is not refused
unfoldable pub leave_taken : ℕ → List ℕ → Ticket → Member → Group → Turn
leave_taken now id ticket m g = after_removal now (left id ticket m g)

-- no id is given, or the given id is this one
abbrev pub may_be : Option (List ℕ) → List ℕ → Bool
may_be None id = true
may_be (Some given) id = is_same given id

-- the member that leaves: the one with the instance, or without an instance the one with the id
unfoldable pub leaver : Option (List ℕ) → Option (List ℕ) → List Member → Result Member Code
leaver None member members = do
  id ← ok_or member UnknownMemberId
  ok_or (find_member id members) UnknownMemberId
leaver (Some instance) member members = do
  m ← ok_or (find_instance (Some instance) members) UnknownMemberId
  _ ← refused_if (not (may_be member m.id)) FencedInstanceId
  Ok m

-- LEAVE in a loaded group
unfoldable pub leave_held : ℕ → LeaveRequest → Ticket → Group → Result Turn Code
leave_held now r ticket g = do
  m ← leaver r.instance r.member g.members
  Ok (leave_taken now m.id ticket m g)

-- a closed session in one group: each of its parked calls gets 15
unfoldable pub gone_in : ℕ → ℕ → Group → Turn
gone_in now session g = record {
  group = record g { members = after_answers (OfSession session) now g.members };
  replies = answers (OfSession session) (refusing CoordinatorNotAvailable) g.members;
  commands = [];
}
