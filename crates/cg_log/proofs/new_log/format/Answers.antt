use Rattle.std.proofs.Common.{◌≡◌, ◌∙◌, ◌<◌, sym, subst, arith}
use Rattle.cg_disk.specs.Disk.{Changes, present}
use Rattle.cg_gate.specs.Layout.{segment_count}
use Rattle.cg_root.specs.Roots.{IsLawful, KeepsRoot}
use Rattle.cg_root.specs.Slots.{gate_of}
use Rattle.cg_root.specs.declared.root.Root.{Root}
use Rattle.cg_log.proofs.Moves.{IsLawful-first, KeepsLog-formatted, AllCarry-formatted}
use Rattle.cg_log.proofs.new_log.format.Goals as goal

pub publish-requires-clause-lawful : goal.publish-requires-clause-lawful
publish-requires-clause-lawful g c =
    let size = g.D.SectorDisk.size c.args.disk.now in
    let count : c.segment_count.result ≡ segment_count size = rw c.sectors.ensures at c.segment_count.ensures in
    let some : 0 < segment_count size = omega (arith, count, c.if-segment_count-eq0.false) in
    subst (λ (r : Root). IsLawful (g.D.SectorDisk.size c.close_gates.new.disk) r) (sym c.in_ok-root.ensures) (rw c.close_gates.ensures.same_size (IsLawful-first size some))

pub returns-clause-formatted : goal.returns-clause-formatted
returns-clause-formatted g c honest =
    let h1 = g.D.SectorDisk.history c.close_gates.new.disk in
    let h2 = g.D.SectorDisk.history c.publish.new.disk in
    let honest1 = c.close_gates.ensures.same_honesty ∙ honest in
    let change = subst (λ (r : Root). Changes (gate_of r.slot) 2 h1 h2) c.in_ok-root.ensures (c.publish.ensures.time honest1) in
    let published = rw c.close_gates.ensures.same_size at (subst (λ (r : Root). KeepsRoot (present h2) (g.D.SectorDisk.size c.close_gates.new.disk) r) c.in_ok-root.ensures (c.in_ok-publish.ensures.published honest1)) in
    KeepsLog-formatted h1 h2 (g.D.SectorDisk.size c.args.disk.now) change published (c.in_ok-close_gates.ensures.first honest)

pub returns-clause-empty : goal.returns-clause-empty
returns-clause-empty g c honest =
    let h1 = g.D.SectorDisk.history c.close_gates.new.disk in
    let h2 = g.D.SectorDisk.history c.publish.new.disk in
    let honest1 = c.close_gates.ensures.same_honesty ∙ honest in
    let change = subst (λ (r : Root). Changes (gate_of r.slot) 2 h1 h2) c.in_ok-root.ensures (c.publish.ensures.time honest1) in
    let published = rw c.close_gates.ensures.same_size at (subst (λ (r : Root). KeepsRoot (present h2) (g.D.SectorDisk.size c.close_gates.new.disk) r) c.in_ok-root.ensures (c.in_ok-publish.ensures.published honest1)) in
    AllCarry-formatted (present h2) (g.D.SectorDisk.size c.args.disk.now) (KeepsLog-formatted h1 h2 (g.D.SectorDisk.size c.args.disk.now) change published (c.in_ok-close_gates.ensures.first honest))
