use Rattle.std.proofs.Common.{◌≡◌, arith}
use Rattle.cg_disk.specs.Disk.{present, sector_count}
use Rattle.cg_disk.proofs.Moments.{LeavesOnly-changes}
use Rattle.cg_gate.proofs.Gates.{IsClosed-written, IsClosedGate-written}
use Rattle.cg_gate.proofs.guarded.close_gate.Goals as goal

pub returns-in_err-write_synced-clause-any_moment : goal.returns-in_err-write_synced-clause-any_moment
returns-in_err-write_synced-clause-any_moment g c honest =
    let one : sector_count c.closed_gate.result ≡ 1 = omega (arith, c.closed_gate.ensures.long) in
    LeavesOnly-changes _ 1 _ _ (rw one at (c.write_synced.ensures.time honest))

pub returns-clause-any_moment : goal.returns-clause-any_moment
returns-clause-any_moment g c honest =
    let one : sector_count c.closed_gate.result ≡ 1 = omega (arith, c.closed_gate.ensures.long) in
    LeavesOnly-changes _ 1 _ _ (rw one at (c.write_synced.ensures.time honest))

pub returns-clause-closed : goal.returns-clause-closed
returns-clause-closed g c honest =
    let one : sector_count c.closed_gate.result ≡ 1 = omega (arith, c.closed_gate.ensures.long) in
    IsClosed-written _ _ _ c.closed_gate.result (c.in_ok-write_synced.ensures.durable honest) (c.in_ok-write_synced.ensures.bytes honest) (omega arith) c.closed_gate.ensures

pub returns-clause-gate : goal.returns-clause-gate
returns-clause-gate g c honest =
    let one : sector_count c.closed_gate.result ≡ 1 = omega (arith, c.closed_gate.ensures.long) in
    IsClosedGate-written (present (g.D.SectorDisk.history c.write_synced.new.disk)).content c.args.gate c.closed_gate.result (rw one at (c.in_ok-write_synced.ensures.bytes honest)) c.closed_gate.ensures
