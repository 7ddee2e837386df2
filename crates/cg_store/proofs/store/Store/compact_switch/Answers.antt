use Rattle.std.proofs.Common.{◌∙◌, sym}
use Rattle.cg_store.proofs.Standing.{LogHas-stands, StandsAt-over, images-as, images-same}
use Rattle.cg_store.proofs.store.Store.compact_switch.Goals as goal

pub returns-in_err-check_phase-clause-images : goal.returns-in_err-check_phase-clause-images
returns-in_err-check_phase-clause-images g c n state stands =
    let disk = g.D.SectorDisk in
    let self = c.args.self.now in
    images-same disk.is_honest disk.history disk.size self self.size n state stands

pub returns-in_err-switch-clause-images : goal.returns-in_err-switch-clause-images
returns-in_err-switch-clause-images g c n state stands =
    let disk = g.D.SectorDisk in
    let self = c.args.self.now in
    let had = LogHas-stands disk.is_honest disk.history disk.size self n state self.size stands in
    images-as disk.is_honest disk.history disk.size self self.size n state stands _ (c.switch.ensures.images stands.has stands.left state had stands.spelled stands.compacts)

pub returns-clause-images : goal.returns-clause-images
returns-clause-images g c n state stands =
    let disk = g.D.SectorDisk in
    let self = c.args.self.now in
    let had = LogHas-stands disk.is_honest disk.history disk.size self n state self.size stands in
    images-as disk.is_honest disk.history disk.size self self.size n state stands _ (c.switch.ensures.images stands.has stands.left state had stands.spelled stands.compacts)

pub returns-clause-stands : goal.returns-clause-stands
returns-clause-stands g c n state stands =
    let disk = g.D.SectorDisk in
    let self = c.args.self.now in
    let said = c.switch.ensures in
    let had = LogHas-stands disk.is_honest disk.history disk.size self n state self.size stands in
    let new = c.in_ok-switch.ensures.stored stands.has stands.left state had stands.spelled stands.compacts in
    StandsAt-over disk.is_honest disk.history disk.size self _ n state (self.size ∙ sym said.same_size) said.same_number stands new.0 new.1.0 new.1.1 said.over
