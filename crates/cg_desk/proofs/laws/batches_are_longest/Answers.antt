use Rattle.cg_desk.proofs.FrontLaws.{batches_are_longest}
use Rattle.cg_desk.proofs.laws.batches_are_longest.Goals as goal

pub returns : goal.returns
returns c = batches_are_longest
