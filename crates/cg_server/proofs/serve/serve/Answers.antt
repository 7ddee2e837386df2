use Rattle.cg_server.proofs.Accounts.{ends_early}
use Rattle.cg_server.proofs.serve.serve.Goals as goal

pub returns-in-Err : goal.returns-in-Err
returns-in-Err g c = ends_early _ _ _ _ _ _ c.in-Err.ensures c.refuse.ensures
