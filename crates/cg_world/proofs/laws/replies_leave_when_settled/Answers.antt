use Rattle.cg_world.proofs.Leaving.{replies_leave_when_settled}
use Rattle.cg_world.proofs.laws.replies_leave_when_settled.Goals as goal

pub returns : goal.returns
returns c = replies_leave_when_settled
