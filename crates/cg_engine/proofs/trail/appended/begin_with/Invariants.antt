use Rattle.std.proofs.Common.{◌↔◌, length}
use Rattle.cg_store.specs.Carried.{joined}
use Rattle.cg_trail.specs.Trails.{BeginsWith}
use Rattle.cg_engine.proofs.trail.appended.begin_with.Given as goal

abbrev pub invariant-loop-rest : goal.invariant-loop-rest
invariant-loop-rest l = BeginsWith l.left (joined l.rest) ↔ BeginsWith l.fn.made (joined l.fn.batches)

abbrev pub decreases-loop-rest : goal.decreases-loop-rest
decreases-loop-rest l = length l.rest
