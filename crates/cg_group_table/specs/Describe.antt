-- DESCRIBE and LIST (protocol guide, "DescribeGroups", "ListGroups").
use Rattle.std.specs.Prelude.{ℕ, List, [], map, Option, None, if◌then◌else◌}
use Rattle.cg_group_state.specs.declared.group.Group.{Group}
use Rattle.cg_group_state.specs.declared.member.Member.{Member}
use Rattle.cg_group_state.specs.declared.reply.Described.{Described}
use Rattle.cg_group_state.specs.declared.reply.DescribedMember.{DescribedMember}
use Rattle.cg_group_state.specs.declared.reply.Listing.{Listing}
use Rattle.cg_group_state.specs.Membership.{is_stable}
use Rattle.cg_group_rules.specs.Rebalance.{subscription_for}

-- the protocol, if the group is stable
abbrev pub shown_protocol : Group → Option (List ℕ)
shown_protocol g = if is_stable g.phase then g.protocol else None

-- a member; its subscription and assignment are shown if the group is stable
unfoldable pub shown_member : Group → Member → DescribedMember
shown_member g m = record {
  id = m.id;
  instance = m.instance;
  client = m.client;
  subscription = if is_stable g.phase then subscription_for g.protocol m.protocols else [];
  assignment = if is_stable g.phase then m.assignment else [];
}

-- the description of a loaded group
unfoldable pub description : Group → Described
description g = record {
  phase = g.phase;
  generation = g.generation;
  kind = g.kind;
  protocol = shown_protocol g;
  members = map (shown_member g) g.members;
}

-- the entry of a group in the list of groups
abbrev pub listing : Group → Listing
listing g = record { id = g.id; kind = g.kind; phase = g.phase }
