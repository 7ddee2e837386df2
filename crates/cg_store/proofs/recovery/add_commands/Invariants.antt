use Rattle.cg_store.proofs.Reading.{HasApplied}
use Rattle.cg_store.proofs.recovery.add_commands.Given as goal

abbrev pub invariant-loop-command : goal.invariant-loop-command
invariant-loop-command l = HasApplied l.payload l.count l.left l.initial.durable l.durable l.decoder

abbrev pub decreases-loop-command : goal.decreases-loop-command
decreases-loop-command l = l.left
