use Rattle.std.proofs.Common.{◌≡◌}
use Rattle.cg_disk.specs.Disk.{present}
use Rattle.cg_disk.proofs.Moments.{LeavesOnly-weaker}
use Rattle.cg_root.specs.Slots.{gate_of, other_slot}
use Rattle.cg_root.proofs.Stored.{CountingRoot-closing}
use Rattle.cg_root.proofs.root_writer.close_other.Goals as goal

pub returns-in_err-close_gate-clause-any_moment : goal.returns-in_err-close_gate-clause-any_moment
returns-in_err-close_gate-clause-any_moment g c honest =
    let gate : c.gate.result ≡ gate_of (other_slot c.args.current.now.slot) = rw c.other.ensures at c.gate.ensures in
    LeavesOnly-weaker _ _ _ _ (λ image but. CountingRoot-closing (present (g.D.SectorDisk.history c.args.disk.now)) (g.D.SectorDisk.size c.args.disk.now) c.args.current.now image (c.requires.root honest) but (c.requires.opened honest)) (rw gate at (c.close_gate.ensures.any_moment honest))

pub returns-clause-any_moment : goal.returns-clause-any_moment
returns-clause-any_moment g c honest =
    let gate : c.gate.result ≡ gate_of (other_slot c.args.current.now.slot) = rw c.other.ensures at c.gate.ensures in
    LeavesOnly-weaker _ _ _ _ (λ image but. CountingRoot-closing (present (g.D.SectorDisk.history c.args.disk.now)) (g.D.SectorDisk.size c.args.disk.now) c.args.current.now image (c.requires.root honest) but (c.requires.opened honest)) (rw gate at (c.close_gate.ensures.any_moment honest))
