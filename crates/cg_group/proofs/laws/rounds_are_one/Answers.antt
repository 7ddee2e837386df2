use Rattle.cg_group.proofs.Rounds.{rounds_are_one}
use Rattle.cg_group.proofs.laws.rounds_are_one.Goals as goal

pub returns : goal.returns
returns c = rounds_are_one
