use Rattle.cg_group.proofs.AgreeingMachine.{some_listed}
use Rattle.cg_group.proofs.laws.has_protocol.Goals as goal

pub returns : goal.returns
returns c = some_listed c.args.protocols.now c.as_slice-protocols.ensures.lawful.some
