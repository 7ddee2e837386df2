use Rattle.std.proofs.Common.{sym}
use Rattle.cg_server.proofs.Accounts.{tells_then}
use Rattle.cg_server.proofs.reporter.watch.Goals as goal

pub loop-preserved-then-is_ok : goal.loop-preserved-then-is_ok
loop-preserved-then-is_ok g c = tells_then _ _ _ c.loop.printed c.report_status-printed.result (sym c.if-is_ok.ensures.value) c.loop.invariant c.report_status-printed.ensures
