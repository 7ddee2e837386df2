use Rattle.cg_server.proofs.Accounts.{account_then, broke_then}
use Rattle.cg_server.proofs.serve.serve_connections.Goals as goal

pub returns-in-Ok : goal.returns-in-Ok
returns-in-Ok g c = let ran = c.in-Ok.ensures in account_then _ _ _ _ c.in-Ok.end ran.0 c.in_ok-address.ensures.ok ran.1 ran.2

pub returns-in-Err : goal.returns-in-Err
returns-in-Err g c = broke_then _ _ _ _ _ c.in_ok-address.ensures.ok c.in-Err.ensures
