use Rattle.cg_desk.proofs.Balanced.{desks_stay_balanced}
use Rattle.cg_desk.proofs.laws.desks_stay_balanced.Goals as goal

pub returns : goal.returns
returns c = desks_stay_balanced
