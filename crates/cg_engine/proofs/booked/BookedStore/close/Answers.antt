use Rattle.std.proofs.Math.Logic.{∥∥₁_map}
use Rattle.cg_engine.proofs.Kept.{left-of}
use Rattle.cg_engine.proofs.booked.BookedStore.close.Goals as goal

pub returns-clause-left : goal.returns-clause-left
returns-clause-left g c = ∥∥₁_map c.args.self.kept (left-of g.D.SectorDisk.is_honest g.D.SectorDisk.history g.D.SectorDisk.size c.args.self.store _ _ c.args.self.appended c.args.self.store.size c.front-front.ensures c.into_disk.ensures)
