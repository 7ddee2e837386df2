use Rattle.cg_server.proofs.Accounts.{report_then}
use Rattle.cg_server.proofs.reporter.run_reports.Goals as goal

pub returns : goal.returns
returns g c =
    let loaded = c.in_ok-load_or_close.ensures.loads in
    let alarm = c.in_ok-end.ensures in
    report_then _ _ _ loaded.0 c.in_ok-end.end alarm.0 loaded.1 alarm.1 alarm.2
