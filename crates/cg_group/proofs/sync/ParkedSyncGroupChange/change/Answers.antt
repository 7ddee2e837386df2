use Rattle.std.proofs.Common.{ap, ◌∙◌}
use Rattle.cg_group_state.specs.Waiting.{waits_with}
use Rattle.cg_group_state.specs.Membership.{with_member}
use Rattle.cg_group_state.specs.declared.member.Waits.TheVariants.{Sync}
use Rattle.cg_group.proofs.Displacing.{parked_sync}
use Rattle.cg_group.proofs.sync.ParkedSyncGroupChange.change.Goals as goal

pub returns : goal.returns
returns c =
    let p = c.args.self in
    parked_sync p.context.now p.id.now p.context.ticket p.older c.args.group.now c.requires c.wait.new.self
    (c.wait.ensures ∙ ap (with_member p.id.now (waits_with p.context.now (Sync p.context.ticket))) c.hear-before.ensures.heard) c.parking_effects.result c.parking_effects.ensures
