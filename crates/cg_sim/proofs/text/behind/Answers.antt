use Rattle.cg_sim.proofs.Front.{stripped}
use Rattle.cg_sim.proofs.text.behind.Goals as goal

pub returns : goal.returns
returns c = stripped c.args.front.now c.args.text.now c.strip_prefix.result c.strip_prefix.ensures.cases
