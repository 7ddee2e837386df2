use Rattle.cg_world.proofs.Recorded.{loadings_are_lawful}
use Rattle.cg_world.proofs.laws.loadings_are_lawful.Goals as goal

pub returns : goal.returns
returns c = loadings_are_lawful
