use Rattle.std.proofs.Common.{arith}
use Rattle.cg_gate.specs.Layout.{segment_count}
use Rattle.cg_log.proofs.free.segments_of.Goals as goal

pub overflow_cast-result : goal.overflow_cast-result
unfolding segment_count
overflow_cast-result c = omega arith
