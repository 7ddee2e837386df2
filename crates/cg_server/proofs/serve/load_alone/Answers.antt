use Rattle.cg_server.proofs.Accounts.{account_alone}
use Rattle.cg_server.proofs.serve.load_alone.Goals as goal

pub returns : goal.returns
returns g c = let loaded = c.in_ok-loaded.ensures.loads in account_alone _ _ loaded.0 loaded.1
