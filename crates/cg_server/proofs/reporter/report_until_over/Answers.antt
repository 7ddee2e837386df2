use Rattle.std.proofs.Common.{inr}
use Rattle.cg_server.proofs.Accounts.{alarm_then}
use Rattle.cg_server.proofs.reporter.report_until_over.Goals as goal

pub returns-then-server : goal.returns-then-server
returns-then-server g c =
    let before = c.in_ok-watched-2.ensures in
    let after = c.in_ok-failed.ensures in
    alarm_then _ _ _ before.0 after.0 before.1 before.2 after.1 after.2

pub returns-else-server : goal.returns-else-server
returns-else-server g c =
    let before = c.in_ok-watched-2.ensures in
    let after = c.in_ok-failed.ensures in
    let alarm = alarm_then _ _ _ before.0 after.0 before.1 before.2 after.1 after.2 in
    (alarm.0, inr alarm.1, alarm.2)
