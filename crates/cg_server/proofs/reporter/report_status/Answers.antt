use Rattle.cg_server.proofs.Accounts.{tells_one}
use Rattle.cg_server.proofs.reporter.report_status.Goals as goal

pub returns : goal.returns
returns g c = tells_one _ _ _ c.in_ok-print_status.ensures
