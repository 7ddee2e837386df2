use Rattle.std.proofs.Common.{◌≡◌, ℕ, ◌+◌, List, get_or, ap, ◌∙◌, arith}
use Rattle.cg_disk.specs.Disk.{present, sector_count}
use Rattle.cg_disk.proofs.Moments.{LeavesOnly-weaker, LeavesOnly-present, IsImage-content}
use Rattle.cg_gate.proofs.Gates.{one_sector}
use Rattle.cg_root.specs.Slots.{gate_of}
use Rattle.cg_root.specs.Roots.{Published}
use Rattle.cg_root.proofs.Bodies.{length-lawful}
use Rattle.cg_root.proofs.Stored.{Published-guarded, RootAt-guarded, CountingRoot-published, IsOldOrNew-published}
use Rattle.cg_root.proofs.root_writer.publish.Goals as goal

pub body_of-requires : goal.body_of-requires
body_of-requires g c = omega (arith, length-lawful _ c.args.next.now c.requires.lawful)

pub returns-in_err-write_guarded-clause-any_moment : goal.returns-in_err-write_guarded-clause-any_moment
returns-in_err-write_guarded-clause-any_moment g c honest =
    let one : sector_count c.body_of.result ≡ 1 = omega (arith, c.body_of.ensures.long) in
    LeavesOnly-weaker _ _ _ _ (λ image write. Published-guarded (present (g.D.SectorDisk.history c.args.disk.now)) (g.D.SectorDisk.size c.args.disk.now) c.args.next.now c.body_of.result image c.body_of.ensures.long c.body_of.ensures.begins c.requires.lawful write) (rw (c.gate.ensures, one) at (c.write_guarded.ensures.any_moment honest))

pub returns-in_err-write_guarded-clause-root : goal.returns-in_err-write_guarded-clause-root
returns-in_err-write_guarded-clause-root g c honest old keeps =
    let one : sector_count c.body_of.result ≡ 1 = omega (arith, c.body_of.ensures.long) in
    LeavesOnly-weaker _ _ _ _ (λ image published. IsOldOrNew-published (present (g.D.SectorDisk.history c.args.disk.now)) (g.D.SectorDisk.size c.args.disk.now) old c.args.next.now image c.requires.room (c.requires.closed honest) (c.requires.newest honest) keeps published)
    (LeavesOnly-weaker _ _ _ _ (λ image write. Published-guarded (present (g.D.SectorDisk.history c.args.disk.now)) (g.D.SectorDisk.size c.args.disk.now) c.args.next.now c.body_of.result image c.body_of.ensures.long c.body_of.ensures.begins c.requires.lawful write) (rw (c.gate.ensures, one) at (c.write_guarded.ensures.any_moment honest)))

pub returns-clause-any_moment : goal.returns-clause-any_moment
returns-clause-any_moment g c honest =
    let one : sector_count c.body_of.result ≡ 1 = omega (arith, c.body_of.ensures.long) in
    LeavesOnly-weaker _ _ _ _ (λ image write. Published-guarded (present (g.D.SectorDisk.history c.args.disk.now)) (g.D.SectorDisk.size c.args.disk.now) c.args.next.now c.body_of.result image c.body_of.ensures.long c.body_of.ensures.begins c.requires.lawful write) (rw (c.gate.ensures, one) at (c.write_guarded.ensures.any_moment honest))

pub returns-clause-root : goal.returns-clause-root
returns-clause-root g c honest old keeps =
    let one : sector_count c.body_of.result ≡ 1 = omega (arith, c.body_of.ensures.long) in
    LeavesOnly-weaker _ _ _ _ (λ image published. IsOldOrNew-published (present (g.D.SectorDisk.history c.args.disk.now)) (g.D.SectorDisk.size c.args.disk.now) old c.args.next.now image c.requires.room (c.requires.closed honest) (c.requires.newest honest) keeps published)
    (LeavesOnly-weaker _ _ _ _ (λ image write. Published-guarded (present (g.D.SectorDisk.history c.args.disk.now)) (g.D.SectorDisk.size c.args.disk.now) c.args.next.now c.body_of.result image c.body_of.ensures.long c.body_of.ensures.begins c.requires.lawful write) (rw (c.gate.ensures, one) at (c.write_guarded.ensures.any_moment honest)))

pub returns-clause-published : goal.returns-clause-published
returns-clause-published g c honest image is =
    let one : sector_count c.body_of.result ≡ 1 = omega (arith, c.body_of.ensures.long) in
    let published : Published (present (g.D.SectorDisk.history c.args.disk.now)) (g.D.SectorDisk.size c.args.disk.now) c.args.next.now image = LeavesOnly-present _ _ _ (LeavesOnly-weaker _ _ _ _ (λ image write. Published-guarded (present (g.D.SectorDisk.history c.args.disk.now)) (g.D.SectorDisk.size c.args.disk.now) c.args.next.now c.body_of.result image c.body_of.ensures.long c.body_of.ensures.begins c.requires.lawful write) (rw (c.gate.ensures, one) at (c.write_guarded.ensures.any_moment honest))) image is in
    CountingRoot-published (present (g.D.SectorDisk.history c.args.disk.now)) (g.D.SectorDisk.size c.args.disk.now) c.args.next.now image c.requires.room (c.requires.newest honest) published.elsewhere
    (RootAt-guarded (g.D.SectorDisk.size c.args.disk.now) c.args.next.now c.body_of.result image c.body_of.ensures.long c.body_of.ensures.begins c.requires.lawful (rw (c.gate.ensures, one) at (c.in_ok-write_guarded.ensures.guarded honest image is)))

pub returns-clause-zeros : goal.returns-clause-zeros
returns-clause-zeros g c honest i past =
    let one : sector_count c.body_of.result ≡ 1 = omega (arith, c.body_of.ensures.long) in
    let content = (present (g.D.SectorDisk.history c.write_guarded.new.disk)).content in
    let guarded = rw (c.gate.ensures, one) at (c.in_ok-write_guarded.ensures.guarded honest content (IsImage-content _)) in
    let stored : content (gate_of c.args.next.now.slot + 1) ≡ c.body_of.result = one_sector content (gate_of c.args.next.now.slot + 1) c.body_of.result guarded.holds c.body_of.ensures.long in
    ap (λ (l : List ℕ). get_or l i 0) stored ∙ c.body_of.ensures.zeros i past
