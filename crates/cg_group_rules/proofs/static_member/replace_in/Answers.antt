use Rattle.std.proofs.Common.{refl}
use Rattle.cg_group_state.specs.Membership.{seating}
use Rattle.cg_group_state.proofs.Seats.{after_seating}
use Rattle.cg_group_rules.proofs.static_member.replace_in.Goals as goal

pub replace-requires : goal.replace-requires
replace-requires c = after_seating c.args.new c.args.group.now.members (seating c.args.new c.args.group.now.members) refl c.requires.own_id c.as_slice-members.ensures.lawful
