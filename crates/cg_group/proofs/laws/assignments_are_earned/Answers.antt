use Rattle.cg_group.proofs.Passing.{assignments_are_earned}
use Rattle.cg_group.proofs.laws.assignments_are_earned.Goals as goal

pub returns : goal.returns
returns c = assignments_are_earned c.args.events.now c.events_are_requests.ensures
