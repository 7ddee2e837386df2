use Rattle.cg_names.specs.declared.code.Code.TheVariants.{InvalidGroupId, InvalidSessionTimeout}
use Rattle.cg_group.specs.Machine.{join}
use Rattle.cg_group.proofs.InPlace.{concluded_refused, join_unnamed, join_untimely}
use Rattle.cg_group.proofs.join.handle_join.Goals as goal

pub returns-then-is_none-clause-ok : goal.returns-then-is_none-clause-ok
returns-then-is_none-clause-ok c =
    concluded_refused c.args.now c.args.held.now c.args.ticket (join c.args.now c.args.r c.args.fresh c.args.ticket c.args.held.now) InvalidGroupId c.reply_alone.result
    (join_unnamed c.args.now c.args.r c.args.fresh c.args.ticket c.args.held.now c.if-is_none.ensures) c.reply_alone.ensures

pub returns-in-None-clause-ok : goal.returns-in-None-clause-ok
returns-in-None-clause-ok c =
    concluded_refused c.args.now c.args.held.now c.args.ticket (join c.args.now c.args.r c.args.fresh c.args.ticket c.args.held.now) InvalidSessionTimeout c.reply_alone-in-None.result
    (join_untimely c.args.now c.args.r c.args.fresh c.args.ticket c.args.held.now c.if-is_none.ensures c.in-None.ensures) c.reply_alone-in-None.ensures
