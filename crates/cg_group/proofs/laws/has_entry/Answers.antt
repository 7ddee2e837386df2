use Rattle.cg_group.proofs.AgreeingMachine.{some_listed}
use Rattle.cg_group.proofs.laws.has_entry.Goals as goal

pub returns : goal.returns
returns c = some_listed c.args.entries.now c.as_slice-entries.ensures.lawful.some
