use Rattle.cg_world.proofs.Histories.{runs_make_histories}
use Rattle.cg_world.proofs.laws.runs_make_histories.Goals as goal

pub returns : goal.returns
returns c = runs_make_histories
