use Rattle.cg_desk.proofs.Weights.{tickets_are_kept}
use Rattle.cg_desk.proofs.laws.tickets_are_kept.Goals as goal

pub returns : goal.returns
returns c = tickets_are_kept
