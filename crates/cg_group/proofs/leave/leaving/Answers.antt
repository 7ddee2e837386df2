use Rattle.cg_group.proofs.LeaveSteps.{leave_refused, leave_unnamed}
use Rattle.cg_group.proofs.leave.leaving.Goals as goal

pub returns-in-Err : goal.returns-in-Err
returns-in-Err c = leave_unnamed c.args.r.now c.args.groups.now c.in-Err.code c.in-Err.ensures.named

pub returns-in-Some : goal.returns-in-Some
returns-in-Some c = leave_refused c.args.r.now c.args.groups.now c.in-Ok.own.now c.in-Ok.group.now c.in-Some.code c.in-Ok.ensures.named c.in-Some.ensures

pub returns-in-None : goal.returns-in-None
returns-in-None c = record { group = c.in-Ok.group.now; named = c.in-Ok.ensures.named; taken = c.in-None.ensures }
