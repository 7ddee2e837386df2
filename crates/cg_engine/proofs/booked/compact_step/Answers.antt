use Rattle.std.proofs.Common.{◌∙◌, sym}
use Rattle.cg_store.specs.Store.{phase_of}
use Rattle.cg_store.specs.declared.phase.Phase.TheVariants.{Idle, Reading, Writing, Ready}
use Rattle.cg_engine.proofs.Stored.{compacted}
use Rattle.cg_engine.proofs.booked.compact_step.Goals as goal

pub returns-in-Idle-clause-kept : goal.returns-in-Idle-clause-kept
returns-in-Idle-clause-kept g c = λ state stored now.
    let e = c.compact_start.ensures in
    compacted g.D.SectorDisk.is_honest g.D.SectorDisk.history _ _ Idle (phase_of c.args.store.now) state c.compact_start.result
    (record { stands = e.stands; images = e.images; told = e.told; unchanged = e.unchanged; failed = e.failed; front = e.same_front; sectors = e.same_sectors })
    (stored (sym e.same_honesty ∙ now))

pub returns-in-Reading-clause-kept : goal.returns-in-Reading-clause-kept
returns-in-Reading-clause-kept g c = λ state stored now.
    let e = c.compact_read.ensures in
    compacted g.D.SectorDisk.is_honest g.D.SectorDisk.history _ _ Reading (phase_of c.args.store.now) state c.compact_read.result
    (record { stands = e.stands; images = e.images; told = e.told; unchanged = e.unchanged; failed = e.failed; front = e.same_front; sectors = e.same_sectors })
    (stored (sym e.same_honesty ∙ now))

pub returns-in-Writing-clause-kept : goal.returns-in-Writing-clause-kept
returns-in-Writing-clause-kept g c = λ state stored now.
    let e = c.compact_write.ensures in
    compacted g.D.SectorDisk.is_honest g.D.SectorDisk.history _ _ Writing (phase_of c.args.store.now) state c.compact_write.result
    (record { stands = e.stands; images = e.images; told = e.told; unchanged = e.unchanged; failed = e.failed; front = e.same_front; sectors = e.same_sectors })
    (stored (sym e.same_honesty ∙ now))

pub returns-in-Ready-clause-kept : goal.returns-in-Ready-clause-kept
returns-in-Ready-clause-kept g c = λ state stored now.
    let e = c.compact_switch.ensures in
    compacted g.D.SectorDisk.is_honest g.D.SectorDisk.history _ _ Ready (phase_of c.args.store.now) state c.compact_switch.result
    (record { stands = e.stands; images = e.images; told = e.told; unchanged = e.unchanged; failed = e.failed; front = e.same_front; sectors = e.same_sectors })
    (stored (sym e.same_honesty ∙ now))
