use Rattle.std.proofs.Common.{◌≡◌, ◌+◌, length}
use Rattle.cg_engine.specs.BorneOut.{units_with}
use Rattle.cg_engine.proofs.finish.without_passes.Given as goal

abbrev pub invariant-loop-rest : goal.invariant-loop-rest
invariant-loop-rest g l = l.left + units_with l.fn.passes ≡ l.fn.units + units_with l.rest

abbrev pub decreases-loop-rest : goal.decreases-loop-rest
decreases-loop-rest g l = length l.rest
