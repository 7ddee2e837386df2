-- LEAVE: who leaves, its replies, and those with which a rebalance begins.
use Rattle.std.specs.Prelude.{◌≡◌, ℕ, Bool, not, List, [], ◌∷◌, ◌++◌, filter, Some, Ok, if◌then◌else◌}
use Rattle.cg_names.specs.declared.code.Code.TheVariants.{RebalanceInProgress, UnknownMemberId}
use Rattle.cg_group_state.specs.declared.calls.Calls.TheVariants.{Any, Syncs}
use Rattle.cg_group_state.specs.declared.effects.Effects.{Effects}
use Rattle.cg_group_state.specs.declared.group.Group.{Group}
use Rattle.cg_group_state.specs.declared.member.Member.{Member}
use Rattle.cg_group_state.specs.declared.reply.Reply.{Reply}
use Rattle.cg_group_state.specs.declared.reply.Reply.TheVariants as reply
use Rattle.cg_group_rules.specs.Leave.{leave_held, leave_taken}
use Rattle.cg_group_state.specs.Membership.{find_member, has_id}
use Rattle.cg_group_state.specs.Waiting.{answer, answers, refusing}
use Rattle.cg_request.specs.declared.request_fields.LeaveRequest.{LeaveRequest}
use Rattle.cg_request.specs.declared.ticket.Ticket.{Ticket}

-- the members but the one with this id
abbrev pub others_than : List ℕ → List Member → List Member
others_than id members = filter (λ other. not (has_id id other)) members

-- the group with them alone; its leader is still the one before
abbrev pub without : List ℕ → Group → Group
without id g = record g { members = others_than id g.members }

-- the parked call of the member that leaves gets 25, and the LEAVE gets OK
abbrev pub left_replies : Ticket → Member → List (Ticket × Reply)
left_replies ticket m = answer Any (refusing UnknownMemberId) m ++ (ticket, reply.Done) ∷ []

-- then, if a rebalance begins, every parked SYNC of the others gets 27
abbrev pub left_effects : Bool → Ticket → Member → List Member → Effects
left_effects begins ticket m others = record {
  commands = [];
  replies = if begins then left_replies ticket m ++ answers Syncs (refusing RebalanceInProgress) others else left_replies ticket m;
}

-- the LEAVE is not refused in the group, and this member leaves
pub record IsLeaver (r : LeaveRequest) (g : Group) (m : Member) : Type 0 where
  pub found : find_member m.id g.members ≡ Some m
  pub taken : (now : ℕ) (ticket : Ticket) → leave_held now r ticket g ≡ Ok (leave_taken now m.id ticket m g)
