use Rattle.std.proofs.Common.{◌∙◌, arith}
use Rattle.cg_group.proofs.Dropping.{taken_deleted, taken_dropped, taken_expired, taken_quiet, takes_quietly}
use Rattle.cg_group.proofs.tick.take_away.Goals.{in-Expired, in-Dropped, in-Deleted, in_default}
use Rattle.cg_group.proofs.tick.take_away.Goals as goal

pub loop-command-preserved : goal.loop-command-preserved
loop-command-preserved c =
    let l = c.loop-command in
    let commands = c.args.commands.now in
    let command = c.command-item.result in
    elim c.match-command.branch [
      | in-Expired w ↦ taken_expired c.args.offsets.now l.offsets c.match-command.offsets commands l.command-index command w.in-Expired.expired w.as_slice.result.now (omega arith) c.command-item.is l.invariant w.in-Expired.is w.as_slice.ensures.value (w.offsets-is ∙ w.forget_partitions.ensures)
      | in-Dropped w ↦ taken_dropped c.args.offsets.now l.offsets c.match-command.offsets commands l.command-index command w.in-Dropped.dropped w.as_slice-in-Dropped.result.now (omega arith) c.command-item.is l.invariant w.in-Dropped.is w.as_slice-in-Dropped.ensures.value (w.offsets-is ∙ w.forget_partitions-in-Dropped.ensures)
      | in-Deleted w ↦ taken_deleted c.args.offsets.now l.offsets c.match-command.offsets commands l.command-index command w.in-Deleted.deleted (omega arith) c.command-item.is l.invariant w.in-Deleted.is (w.offsets-is ∙ w.forget.ensures)
      | in_default w ↦ taken_quiet c.args.offsets.now c.match-command.offsets commands l.command-index command (omega arith) c.command-item.is (w.offsets-is ∙ l.invariant) (takes_quietly commands l.command-index command (omega arith) c.command-item.is c.requires w.in_default.not-Deleted w.in_default.not-Expired w.in_default.not-Dropped)
    ]
