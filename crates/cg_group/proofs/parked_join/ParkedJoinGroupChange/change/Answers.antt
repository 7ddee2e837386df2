use Rattle.std.proofs.Common.{ap, ◌∙◌}
use Rattle.cg_group_state.specs.Waiting.{waits_with}
use Rattle.cg_group_state.specs.Membership.{with_member}
use Rattle.cg_group_state.specs.declared.member.Waits.TheVariants.{Join}
use Rattle.cg_group.proofs.Displacing.{parked_join}
use Rattle.cg_group.proofs.parked_join.ParkedJoinGroupChange.change.Goals as goal

pub returns : goal.returns
returns c =
    let p = c.args.self in
    parked_join p.context.now p.request p.id p.context.ticket p.older c.args.group.now c.requires c.wait.new.self
    (c.wait.ensures ∙ ap (with_member p.id (waits_with p.context.now (Join p.context.ticket))) c.exchange_terms-before.ensures.given) c.parking_effects.result c.parking_effects.ensures
