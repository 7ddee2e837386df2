-- A new member that joins a rebalance under way.
use Rattle.std.specs.Prelude.{◌≡◌, ◌<◌, ℕ, false, List, [], ◌∷◌, ◌++◌, length, Option, Some, None, is_some, unwrap_or}
use Rattle.cg_record.specs.declared.roster.TheConstants.{MEMBERS_MAX}
use Rattle.cg_names.specs.declared.code.Code.TheVariants.{RebalanceInProgress}
use Rattle.cg_group_state.specs.declared.calls.Calls.{Calls}
use Rattle.cg_group_state.specs.declared.group.Group.{Group}
use Rattle.cg_group_state.specs.declared.member.Member.{Member}
use Rattle.cg_group_state.specs.declared.member.Waits.TheVariants.{Join}
use Rattle.cg_request.specs.declared.request_fields.JoinRequest.{JoinRequest}
use Rattle.cg_request.specs.declared.ticket.Ticket.{Ticket}
use Rattle.cg_group_rules.specs.Join.{new_member}
use Rattle.cg_group_state.specs.Membership.{find_instance, find_member, seating}
use Rattle.cg_group_state.specs.Waiting.{answer, refusing}
use Rattle.cg_group_state.specs.declared.reply.Reply.{Reply}
use Rattle.cg_group_rules.specs.declared.member_join.Header.{Header}
use Rattle.cg_group_rules.specs.declared.static_member.Predecessor.{Predecessor}

-- there is room for a new member, and none has this id or this instance
pub record HasPlace (id : List ℕ) (instance : Option (List ℕ)) (members : List Member) : Type 0 where
  pub room : length members < MEMBERS_MAX
  pub own_id : is_some (find_member id members) ≡ false
  pub own_instance : is_some (find_instance instance members) ≡ false

-- the group with the new member of this JOIN, under this id; the JOIN is parked
abbrev pub entered : ℕ → JoinRequest → List ℕ → Ticket → Group → Group
entered now r id ticket g = record g { members = g.members ++ new_member now r id [] (Join ticket) ∷ [] }

-- the group with this type and this leader, or as it is
abbrev pub with_header : Option Header → Group → Group
with_header None g = g
with_header (Some h) g = record g { kind = h.kind; leader = h.leader }

-- the group with what a replacement took from it: the member, and the lead if the member led
abbrev pub put_back : Predecessor → Group → Group
put_back old g = record g { members = seating old.seat.member g.members; leader = unwrap_or old.lead g.leader }

-- the refusal 27 of the member's parked call, if there is a member and its call is one of these
abbrev pub refused_call : Calls → Option Member → List (Ticket × Reply)
refused_call which None = []
refused_call which (Some m) = answer which (refusing RebalanceInProgress) m
