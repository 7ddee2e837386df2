use Rattle.std.proofs.Common.{◌-◌, subst, sym}
use Rattle.cg_fold.specs.Durable.{State}
use Rattle.cg_store.proofs.Reading.{HasApplied, applied-more}
use Rattle.cg_store.proofs.recovery.add_commands.Goals as goal

pub loop-command-preserved : goal.loop-command-preserved
loop-command-preserved c =
    let next = rw c.in-Ok-Some.field-0-is at c.in-Ok-Some.ensures.ok in
    let more = applied-more c.args.payload.now c.args.count c.loop-command.left c.args.durable.now c.loop-command.durable c.loop-command.decoder c.next_in.new.self c.in-Ok-Some.command
    c.loop-command.invariant c.if-left-gt0.true next.0 next.1 in
    subst (λ (s : State). HasApplied c.args.payload.now c.args.count (c.loop-command.left - 1) c.args.durable.now s c.next_in.new.self) (sym c.in_ok-apply_owned_in-in-Ok-Some.ensures.ok) more
