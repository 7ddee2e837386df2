use Rattle.std.proofs.Common.{length}
use Rattle.cg_engine.specs.Requests.{waiting_in}
use Rattle.cg_engine.proofs.engine.Engine.hand_over.Given as goal

abbrev pub decreases-loop-has_pending : goal.decreases-loop-has_pending
decreases-loop-has_pending g l = length (waiting_in l.requests)
