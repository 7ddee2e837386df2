use Rattle.cg_gate.proofs.Gates.{IsOpenGate-set}
use Rattle.cg_gate.proofs.gate.open_gate.Goals as goal

pub returns : goal.returns
returns c = IsOpenGate-set
