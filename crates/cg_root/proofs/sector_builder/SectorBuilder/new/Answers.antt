use Rattle.std.proofs.Common.{arith}
use Rattle.cg_gate.proofs.Gates.{IsClosedGate-zeros}
use Rattle.cg_root.proofs.sector_builder.SectorBuilder.new.Goals as goal

pub invariant_of-result : goal.invariant_of-result
invariant_of-result c = record { long = IsClosedGate-zeros.long; fits = omega arith; zeros = λ i le. IsClosedGate-zeros.zeros i }
