use Rattle.std.proofs.Common.{List, sym, ap, ◌∙◌}
use Rattle.cg_group_state.specs.declared.group.Group.{Group}
use Rattle.cg_group.specs.Machine.{beat}
use Rattle.cg_group.proofs.InPlace.{beat_in_place, concluded_refused}
use Rattle.cg_group_table.specs.GroupTable.{at_moment, outcome}
use Rattle.cg_group_table.proofs.Tight.{stay_heard}
use Rattle.cg_group.proofs.heartbeat.handle_beat.Goals as goal

pub returns-in-Err-clause-met : goal.returns-in-Err-clause-met
returns-in-Err-clause-met c =
    let refused = c.in-Err.ensures in
    concluded_refused c.args.now c.args.held.now c.args.ticket (beat c.args.now c.args.r.now c.args.ticket c.args.held.now) c.in-Err.code c.reply_alone.result (refused.0 c.args.now c.args.ticket) c.reply_alone.ensures
    ∙ ap (λ (gs : List Group). outcome (at_moment c.args.now gs) c.reply_alone.result) (sym refused.1)

pub returns-in-Ok-clause-met : goal.returns-in-Ok-clause-met
returns-in-Ok-clause-met c =
    beat_in_place c.args.now c.args.r.now c.args.ticket c.args.held.now c.beat_named.new.held c.in-Ok.field-0-0.now c.in-Ok.reply c.reply_alone-in-Ok.result c.in-Ok.ensures c.reply_alone-in-Ok.ensures

pub returns-in-Ok-clause-parked : goal.returns-in-Ok-clause-parked
returns-in-Ok-clause-parked c =
    let at = c.in-Ok.ensures in
    stay_heard c.args.now c.in-Ok.field-0-0.now at.own c.args.held.now c.beat_named.new.held at.group at.named.found at.heard
