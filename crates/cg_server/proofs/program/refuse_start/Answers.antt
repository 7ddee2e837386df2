use Rattle.cg_server.proofs.Accounts.{refused_somehow}
use Rattle.cg_server.proofs.program.refuse_start.Goals as goal

pub returns : goal.returns
returns g c = refused_somehow _ _ _ _ c.refuse.ensures
