use Rattle.std.proofs.Common.{◌↔◌, length}
use Rattle.cg_engine.specs.BorneOut.{AreAllIn}
use Rattle.cg_engine.proofs.finish.are_in.Given as goal

abbrev pub invariant-loop-rest : goal.invariant-loop-rest
invariant-loop-rest g l = AreAllIn l.rest l.fn.trail ↔ AreAllIn l.fn.passes l.fn.trail

abbrev pub decreases-loop-rest : goal.decreases-loop-rest
decreases-loop-rest g l = length l.rest
