use Rattle.cg_group.proofs.AgreeingMachine.{machine_and_commands_agree}
use Rattle.cg_group.proofs.laws.machine_and_commands_agree.Goals as goal

pub returns : goal.returns
returns c = machine_and_commands_agree c.args.events.now c.events_are_requests.ensures
