use Rattle.cg_gate.proofs.Gates.{IsClosedGate-zeros}
use Rattle.cg_log.proofs.new_log.closed_gate.Goals as goal

pub returns : goal.returns
returns c = IsClosedGate-zeros
