-- JOIN (protocol guide, "JoinGroup"; KIP-345): its checks, in the order of the refusals. The name of its group
-- (24) and its session timeout (26) were checked before. `fresh` are the bytes of the UUID that was drawn, `loaded` is the
-- number of loaded groups.
use Rattle.std.specs.Prelude.{ℕ, Bool, false, nat_le, List, length, Option, Some, None, Result, Ok, is_some}
use Rattle.cg_names.specs.declared.code.Code.{Code}
use Rattle.cg_names.specs.declared.code.Code.TheVariants.{CoordinatorNotAvailable, InconsistentGroupProtocol, UnknownMemberId, GroupMaxSizeReached}
use Rattle.cg_record.specs.declared.roster.TheConstants.{MEMBERS_MAX}
use Rattle.cg_group_rules.specs.declared.group_limit.TheConstants.{GROUPS_MAX}
use Rattle.cg_group_state.specs.declared.group.Group.{Group}
use Rattle.cg_group_state.specs.declared.member.Member.{Member}
use Rattle.cg_request.specs.declared.request_fields.JoinRequest.{JoinRequest}
use Rattle.cg_request.specs.declared.ticket.Ticket.{Ticket}
use Rattle.cg_group_state.specs.declared.turn.Turn.{Turn}
use Rattle.cg_group_state.specs.MemberCheck.{validate_current_member}
use Rattle.cg_group_state.specs.MemberId.{drawn, own_name}
use Rattle.cg_group_rules.specs.Join.{is_inconsistent, join_known, add_member_and_rebalance, new_group}
use Rattle.cg_group_state.specs.Membership.{find_instance, find_member}
use Rattle.cg_group_state.specs.Checks.{◌>>=◌, refused_if}
use Rattle.cg_group_rules.specs.StaticMember.{replace_static_member}

-- a new member would exceed `MEMBERS_MAX`; a replacement needs no room
abbrev pub is_full : Option Member → List Member → Bool
is_full None members = nat_le MEMBERS_MAX (length members)
is_full (Some old) members = false

-- a new member joins, or replaces the old one with its instance
abbrev pub join_placed : ℕ → JoinRequest → List ℕ → Ticket → Group → Option Member → Turn
join_placed now r id ticket g None = add_member_and_rebalance now r id ticket g
join_placed now r id ticket g (Some old) = replace_static_member now r id ticket old g

-- JOIN under the id that was drawn
unfoldable pub join_drawn : ℕ → JoinRequest → List ℕ → Ticket → Group → Result Turn Code
join_drawn now r id ticket g = do
  _ ← refused_if (is_some (find_member id g.members)) CoordinatorNotAvailable
  Ok (join_placed now r id ticket g (find_instance r.instance g.members))

-- JOIN in a loaded group
unfoldable pub join_held : ℕ → JoinRequest → List ℕ → Ticket → Option (List ℕ) → Group → Result Turn Code
join_held now r fresh ticket None g = do
  _ ← refused_if (is_full (find_instance r.instance g.members) g.members) GroupMaxSizeReached
  _ ← refused_if (is_inconsistent r g) InconsistentGroupProtocol
  join_drawn now r (drawn (own_name r) fresh) ticket g
join_held now r fresh ticket (Some id) g = do
  who ← validate_current_member r.instance (Some id) g.members
  _ ← refused_if (is_inconsistent r g) InconsistentGroupProtocol
  Ok (join_known now r who.0 ticket who.1 g)

-- JOIN in a group that is not loaded
unfoldable pub join_unheld : ℕ → JoinRequest → List ℕ → Ticket → ℕ → List ℕ → Result Turn Code
join_unheld now r fresh ticket loaded id = do
  _ ← refused_if (is_some r.member) UnknownMemberId
  _ ← refused_if (nat_le GROUPS_MAX loaded) CoordinatorNotAvailable
  Ok (add_member_and_rebalance now r (drawn (own_name r) fresh) ticket (new_group id))
