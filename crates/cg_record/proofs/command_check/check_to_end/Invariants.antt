use Rattle.std.proofs.Common.{length}
use Rattle.cg_record.proofs.Again.{IsPassed}
use Rattle.cg_record.proofs.command_check.check_to_end.Given as goal

abbrev pub invariant-loop-rest : goal.invariant-loop-rest
invariant-loop-rest l = IsPassed l.version l.bytes l.rest

abbrev pub decreases-loop-rest : goal.decreases-loop-rest
decreases-loop-rest l = length l.rest
