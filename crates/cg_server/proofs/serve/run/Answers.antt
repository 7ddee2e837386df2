use Rattle.cg_server.proofs.Accounts.{closes_failed, closes_over}
use Rattle.cg_server.proofs.serve.run.Goals as goal

pub returns-in_ok-print_closed-in-Over : goal.returns-in_ok-print_closed-in-Over
returns-in_ok-print_closed-in-Over g c = closes_over _ _ _ _ _ c.in_ok-front.front c.in-Over.is c.in_ok-front.ensures c.in_ok-print_closed-in-Over.ensures

pub returns-in-Failed : goal.returns-in-Failed
returns-in-Failed g c = closes_failed _ _ _ _ c.in-Failed.is c.in_ok-front.ensures
