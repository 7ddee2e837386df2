use Rattle.std.proofs.Math.Logic.{∥∥₁_map}
use Rattle.cg_engine.specs.Sides.{noted_by, opening_by, recorder_of, since_by, unpaid_in}
use Rattle.cg_engine.proofs.BorneOut.{borne-out, forgot}
use Rattle.cg_engine.proofs.engine.Engine.finish.Goals as goal

pub returns-in-Ok-clause-left : goal.returns-in-Ok-clause-left
returns-in-Ok-clause-left g c = ∥∥₁_map c.closed.ensures.left (forgot g.D.SectorDisk.is_honest g.D.SectorDisk.history g.D.SectorDisk.size _ _ _)

pub returns-in-Ok-clause-trail : goal.returns-in-Ok-clause-trail
returns-in-Ok-clause-trail g c =
    borne-out g.D.SectorDisk.is_honest g.D.SectorDisk.history g.D.SectorDisk.size (noted_by c.into_inner-store.result) c.args.passes.items (opening_by c.into_inner-store.result) (since_by c.into_inner-store.result)
    (unpaid_in c.into_inner-desk.result) (recorder_of c.into_inner-desk.result) c.closed.result.trail c.closed.result.disk c.closed.result.front c.closed.ensures.trail c.closed.ensures.front c.closed.ensures.counted
    (rw c.as_slice.ensures.value at c.in-Ok.ensures.ok) c.closed.ensures.left
