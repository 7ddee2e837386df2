use Rattle.std.proofs.Common.{arith}
use Rattle.cg_engine.specs.Requests.{waiting_in}
use Rattle.cg_engine.proofs.Served.{fewer}
use Rattle.cg_engine.proofs.engine.Engine.hand_over.Goals as goal

pub loop-has_pending-smaller : goal.loop-has_pending-smaller
loop-has_pending-smaller g c =
    fewer (waiting_in c.loop-has_pending.requests) (waiting_in c.hand_over_some-has_pending.new.requests) 32 (omega arith) c.hand_over_some-has_pending.ensures (λ none. let empty = c.is_empty.ensures.1 none in cc)
