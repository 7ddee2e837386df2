use Rattle.std.proofs.Common.{rules}
use Rattle.cg_group_rules.proofs.Leavers.{leave_refused, leaves_by}
use Rattle.cg_group_rules.proofs.leave.leaving.Goals as goal

pub returns-in-Err : goal.returns-in-Err
returns-in-Err c = leave_refused c.args.r.now c.args.group.now c.in-Err.code c.in-Err.ensures

pub returns-in-Ok : goal.returns-in-Ok
returns-in-Ok c = leaves_by c.args.r.now c.args.group.now c.in-Ok.member.now (search rules) c.in-Ok.ensures
