use Rattle.std.proofs.Math.Logic.{∥∥₁_map}
use Rattle.cg_engine.proofs.BorneOut.{forgot}
use Rattle.cg_engine.proofs.engine.Engine.abandon.Goals as goal

pub returns-clause-left : goal.returns-clause-left
returns-clause-left g c = ∥∥₁_map c.closed-front.ensures.left (forgot g.D.SectorDisk.is_honest g.D.SectorDisk.history g.D.SectorDisk.size _ _ _)
