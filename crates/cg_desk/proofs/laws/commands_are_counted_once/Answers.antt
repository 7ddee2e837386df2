use Rattle.cg_desk.proofs.Counted.{commands_are_counted_once}
use Rattle.cg_desk.proofs.laws.commands_are_counted_once.Goals as goal

pub returns : goal.returns
returns c = commands_are_counted_once
