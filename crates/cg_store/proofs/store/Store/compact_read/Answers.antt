use Rattle.std.proofs.Common.{◌∙◌, ap, sym, arith, rules}
use Rattle.cg_log.specs.Free.{is_among}
use Rattle.cg_root.specs.declared.root.Root.{Root}
use Rattle.cg_store.specs.Store.{front_of}
use Rattle.cg_store.proofs.Cuts.{cut-kept}
use Rattle.cg_store.proofs.Standing.{LogHas-stands, StandsAt-read, images-same, images-stay}
use Rattle.cg_store.proofs.store.Store.compact_read.Goals as goal

pub invariant_of-self : goal.invariant_of-self
invariant_of-self g c =
    let self = c.args.self.now in
    let said = c.read.ensures in
    record {
      size = self.size ∙ sym said.same_size;
      cut = cut-kept c.read.result self.compaction c.read.new.compaction _ _ said.cut said.over
          (λ cut was. (ap (λ (r : Root). is_among cut.id r.tail) said.same_root ∙ was.0, omega (arith, was.1, said.same_number))) self.cut;
      idle = λ is. said.fresh;
      reading = λ is. said.fresh;
    }

pub returns-in_err-check_phase-clause-images : goal.returns-in_err-check_phase-clause-images
returns-in_err-check_phase-clause-images g c n state stands =
    let disk = g.D.SectorDisk in
    let self = c.args.self.now in
    images-same disk.is_honest disk.history disk.size self self.size n state stands

pub returns-in_err-progress-clause-images : goal.returns-in_err-progress-clause-images
returns-in_err-progress-clause-images g c n state stands =
    let disk = g.D.SectorDisk in
    let self = c.args.self.now in
    images-stay disk.is_honest disk.history disk.size self self.size n state stands _ (c.read.ensures.time stands.is_honest)

pub returns-in_err-progress-clause-honest : goal.returns-in_err-progress-clause-honest
returns-in_err-progress-clause-honest g c n state stands bad =
    let disk = g.D.SectorDisk in
    let self = c.args.self.now in
    c.in_err-progress.ensures.honest stands.has (front_of self) stands.left state (LogHas-stands disk.is_honest disk.history disk.size self n state self.size stands) stands.spelled stands.compacts (search rules)

pub returns-clause-images : goal.returns-clause-images
returns-clause-images g c n state stands =
    let disk = g.D.SectorDisk in
    let self = c.args.self.now in
    images-stay disk.is_honest disk.history disk.size self self.size n state stands _ (c.read.ensures.time stands.is_honest)

pub returns-clause-read : goal.returns-clause-read
returns-clause-read g c n state stands =
    let disk = g.D.SectorDisk in
    let self = c.args.self.now in
    let said = c.read.ensures in
    let had = LogHas-stands disk.is_honest disk.history disk.size self n state self.size stands in
    let found = c.in_ok-progress.ensures.read stands.has (front_of self) stands.left state had stands.spelled stands.compacts in
    StandsAt-read disk.is_honest disk.history disk.size self _ n state (self.size ∙ sym said.same_size) said.same_number stands (said.stored stands.has had) c.in_ok-progress.progress found.0 found.1.0 found.1.1

pub returns-clause-stands : goal.returns-clause-stands
returns-clause-stands g c n state stands = (returns-clause-read g c n state stands).0
