-- The ways that a JOIN takes in its loaded group (protocol guide, "JoinGroup"). `fresh` are the bytes of the UUID that was drawn.
use Rattle.std.specs.Prelude.{◌≡◌, ℕ, false, List, Option, Some, Ok, Err, is_some}
use Rattle.cg_group_state.specs.declared.calls.Calls.TheVariants.{Any}
use Rattle.cg_group_state.specs.declared.group.Group.{Group}
use Rattle.cg_group_state.specs.declared.member.Member.{Member}
use Rattle.cg_group_state.specs.declared.member.Waits.TheVariants.{Join}
use Rattle.cg_group_state.specs.declared.reply.Reply.{Reply}
use Rattle.cg_request.specs.declared.request_fields.JoinRequest.{JoinRequest}
use Rattle.cg_request.specs.declared.ticket.Ticket.{Ticket}
use Rattle.cg_group_state.specs.declared.turn.Turn.{Turn}
use Rattle.cg_group_state.specs.MemberId.{drawn, own_name}
use Rattle.cg_group_rules.specs.Join.{update_member_and_rebalance, join_current, updating, waiting}
use Rattle.cg_group_state.specs.Membership.{find_instance, find_member}
use Rattle.cg_group_rules.specs.Rebalance.{joined_reply, turn_of}
use Rattle.cg_group_state.specs.Waiting.{called}
use Rattle.cg_group_rules.specs.declared.join_way.JoinWay.{JoinWay}
use Rattle.cg_group_rules.specs.declared.join_way.JoinWay.TheVariants.{Refused, Creates, Current, Parks, Rejoins, Enters, Joins}
use Rattle.cg_group_rules.specs.JoinChecks.{is_full, join_held, join_placed}
use Rattle.cg_group_rules.specs.ParkedJoin.{HasPlace, entered}

-- the JOIN of a known member comes to this step, whatever UUID was drawn
abbrev pub ComesTo : JoinRequest → Group → (ℕ → Ticket → Turn) → Type 0
ComesTo r g step = (now : ℕ) (fresh : List ℕ) (ticket : Ticket) → join_held now r fresh ticket r.member g ≡ Ok (step now ticket)

-- the JOIN of this member changes nothing and gets this reply at once
pub record IsCurrent (r : JoinRequest) (g : Group) (id : List ℕ) (reply : Reply) : Type 0 where
  pub member : Member
  pub answered : reply ≡ joined_reply g member
  pub taken : ComesTo r g (λ now ticket. join_current now id ticket member g)

-- the JOIN of this member is only parked, in place of its older call: others have still to join
pub record IsParked (r : JoinRequest) (g : Group) (id : List ℕ) (older : Option Ticket) : Type 0 where
  pub member : Member
  pub found : find_member id g.members ≡ Some member
  pub called : older ≡ called Any member.waits
  pub taken : ComesTo r g (λ now ticket. waiting now id (Join ticket) (turn_of (updating r id g)))

-- the JOIN of a new member, under the id that was drawn, comes to this step
abbrev pub NewComesTo : JoinRequest → List ℕ → Group → (ℕ → Ticket → Turn) → Type 0
NewComesTo r fresh g step = (now : ℕ) (ticket : Ticket) → join_held now r fresh ticket r.member g ≡ Ok (step now ticket)

-- the JOIN of a new member is only parked: others have still to join
pub record IsEntering (r : JoinRequest) (fresh : List ℕ) (g : Group) : Type 0 where
  pub place : HasPlace (drawn (own_name r) fresh) r.instance g.members
  pub taken : NewComesTo r fresh g (λ now ticket. turn_of (entered now r (drawn (own_name r) fresh) ticket g))

-- there is room for a new member of this instance or for its replacement, and none has this id
pub record HasRoom (id : List ℕ) (instance : Option (List ℕ)) (g : Group) : Type 0 where
  pub room : is_full (find_instance instance g.members) g.members ≡ false
  pub own_id : is_some (find_member id g.members) ≡ false

-- a new member joins, or replaces the old one with its instance
pub record IsNew (r : JoinRequest) (fresh : List ℕ) (g : Group) : Type 0 where
  pub place : HasRoom (drawn (own_name r) fresh) r.instance g
  pub taken : NewComesTo r fresh g (λ now ticket. join_placed now r (drawn (own_name r) fresh) ticket g (find_instance r.instance g.members))

-- the JOIN takes this way in its loaded group
abbrev pub IsJoinWay : JoinRequest → List ℕ → Group → JoinWay → Type 0
IsJoinWay r fresh g (Refused code) = (now : ℕ) (ticket : Ticket) → join_held now r fresh ticket r.member g ≡ Err code
IsJoinWay r fresh g Creates = ⊥
IsJoinWay r fresh g (Current id reply) = IsCurrent r g id.now reply
IsJoinWay r fresh g (Parks id older) = IsParked r g id.now older
IsJoinWay r fresh g (Rejoins id) = ComesTo r g (λ now ticket. update_member_and_rebalance now r id.now ticket g)
IsJoinWay r fresh g Enters = IsEntering r fresh g
IsJoinWay r fresh g Joins = IsNew r fresh g
