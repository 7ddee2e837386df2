use Rattle.std.proofs.Common.{◌≡◌, ◌∙◌, ◌++◌, sym, subst, ap, take}
use Rattle.cg_disk.specs.Disk.{present}
use Rattle.cg_log.specs.Carried.{segments_of}
use Rattle.cg_log.specs.Cursors.{Reads}
use Rattle.cg_log.specs.Segments.{ids_of}
use Rattle.cg_log.proofs.Reading.{HoldsContent-stays, IsReady-stays, all-ids, all-stored, limit-is}
use Rattle.cg_log.proofs.Kept.{KeepsFresh-stays}
use Rattle.cg_log.proofs.log.Log.sealed_read.Goals as goal

pub invariant_of-self-clause-ready : goal.invariant_of-self-clause-ready
invariant_of-self-clause-ready g c serves honest =
    let self = c.args.self.now in
    let honest0 = sym c.read_from-outcome.ensures.same_honesty ∙ honest in
    rw c.read_from-outcome.ensures.same_size (IsReady-stays (g.D.SectorDisk.history self.disk) (g.D.SectorDisk.history c.read_from-outcome.new.disk) (g.D.SectorDisk.size self.disk) self.root self.end self.is_other_open (c.read_from-outcome.ensures.time honest0) (self.ready c.if-self.false honest0))

pub returns-clause-reads : goal.returns-clause-reads
returns-clause-reads g c has read log start =
    let self = c.args.self.now in
    let m = present (g.D.SectorDisk.history self.disk) in
    let size = g.D.SectorDisk.size self.disk in
    let ids : c.as_slice-base.result.now ++ c.as_slice-tail.result.now ≡ ids_of (segments_of has) = rw (c.as_slice-base.ensures, c.as_slice-tail.ensures) (all-ids m size self.root has log.holds.keeps) in
    let stored = all-stored m size self.root has log.holds.keeps in
    let limit = ap (λ n. take n (segments_of has)) c.limit_of-end.ensures.limit ∙ limit-is m size self.root has log.holds.keeps c.args.until in
    subst (λ l. Reads (segments_of has) l read c.read_from-outcome.result) limit (c.read_from-outcome.ensures.reads log.is_honest (segments_of has) read ids stored start)

pub returns-clause-stored : goal.returns-clause-stored
returns-clause-stored g c has log =
    let self = c.args.self.now in
    record {
      is_honest = c.read_from-outcome.ensures.same_honesty ∙ log.is_honest;
      holds = rw c.read_from-outcome.ensures.same_size (HoldsContent-stays (g.D.SectorDisk.history self.disk) (g.D.SectorDisk.history c.read_from-outcome.new.disk) (g.D.SectorDisk.size self.disk) self.root self.end self.number has (c.read_from-outcome.ensures.time log.is_honest) log.holds);
    }

pub returns-clause-good : goal.returns-clause-good
returns-clause-good g c has read log start =
    let self = c.args.self.now in
    let m = present (g.D.SectorDisk.history self.disk) in
    let size = g.D.SectorDisk.size self.disk in
    let ids : c.as_slice-base.result.now ++ c.as_slice-tail.result.now ≡ ids_of (segments_of has) = rw (c.as_slice-base.ensures, c.as_slice-tail.ensures) (all-ids m size self.root has log.holds.keeps) in
    let stored = all-stored m size self.root has log.holds.keeps in
    c.read_from-outcome.ensures.good log.is_honest (segments_of has) read ids stored start

pub invariant_of-self-clause-fresh_ready : goal.invariant_of-self-clause-fresh_ready
invariant_of-self-clause-fresh_ready g c serves honest =
    let self = c.args.self.now in
    let honest0 = sym c.read_from-outcome.ensures.same_honesty ∙ honest in
    (KeepsFresh-stays (g.D.SectorDisk.history self.disk) (g.D.SectorDisk.history c.read_from-outcome.new.disk) self.fresh.items (c.read_from-outcome.ensures.time honest0)).ready self.fresh_end self.fresh_inside (self.fresh_ready c.if-self.false honest0)
