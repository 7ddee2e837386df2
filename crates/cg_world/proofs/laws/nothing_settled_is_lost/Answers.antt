use Rattle.cg_world.proofs.Lives.{nothing_settled_is_lost}
use Rattle.cg_world.proofs.laws.nothing_settled_is_lost.Goals as goal

pub returns : goal.returns
returns g c = nothing_settled_is_lost g.D.SectorDisk.is_honest g.D.SectorDisk.history c.args._world.now
