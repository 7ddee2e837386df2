use Rattle.std.proofs.Common.{◌≡◌, ◌≢◌, ◌++◌, ◌∙◌, sym, true, rules}
use Rattle.cg_log.specs.Log as log_model
use Rattle.cg_root.specs.Roots.{root_ids}
use Rattle.cg_store.specs.Phases.{can_begin}
use Rattle.cg_store.specs.Store.{disk_of, room_of}
use Rattle.cg_store.specs.declared.fault.CompactFault.TheVariants as compact_fault
use Rattle.cg_store.proofs.Cuts.{cut-begun}
use Rattle.cg_store.proofs.Rooms.{clear-begin, full-begin, room-begun}
use Rattle.cg_store.proofs.Standing.{LogHas-stands, StandsAt-begun, images-kept, images-same}
use Rattle.cg_store.proofs.store.Store.compact_start.Goals as goal

pub invariant_of-self : goal.invariant_of-self
invariant_of-self g c =
    let self = c.args.self.now in
    let said = c.start.ensures in
    let idle = c.in_ok-check_phase.ensures.phase in
    record {
      size = self.size ∙ sym said.same_size;
      cut = cut-begun c.start.result self.compaction c.start.new.compaction _ said.cut said.same idle;
      idle = λ is. said.same_fresh ∙ self.idle idle;
      reading = λ is. said.same_fresh ∙ self.idle idle;
    }

pub returns-in_err-check_phase-clause-images : goal.returns-in_err-check_phase-clause-images
returns-in_err-check_phase-clause-images g c n state stands =
    let disk = g.D.SectorDisk in
    let self = c.args.self.now in
    images-same disk.is_honest disk.history disk.size self self.size n state stands

pub returns-in_err-start-clause-images : goal.returns-in_err-start-clause-images
returns-in_err-start-clause-images g c n state stands =
    let disk = g.D.SectorDisk in
    let self = c.args.self.now in
    images-kept disk.is_honest disk.history disk.size self self.size n state stands _ c.start.ensures.images

pub returns-in_err-start-clause-no_room : goal.returns-in_err-start-clause-no_room
returns-in_err-start-clause-no_room g c is =
    let self = c.args.self.now in
    let full = c.in_err-start.ensures.full (search rules) in
    full-begin self.sectors (g.D.SectorDisk.size (disk_of self)) self.size (log_model.taken_of self.log) (log_model.root_of self.log) (log_model.end_of self.log) full.0 full.1

pub returns-in_err-start-clause-clear : goal.returns-in_err-start-clause-clear
returns-in_err-start-clause-clear g c =
    let self = c.args.self.now in
    let fault = c.in_err-start.field-0.0 in
    let begins : fault ≢ compact_fault.NoRoom → can_begin (room_of self) ≡ true = λ other.
    clear-begin self.sectors (g.D.SectorDisk.size (disk_of self)) self.size (log_model.taken_of self.log) (log_model.root_of self.log) (log_model.end_of self.log) (λ some. c.in_err-start.ensures.clear other) in
    search rules

pub returns-clause-images : goal.returns-clause-images
returns-clause-images g c n state stands =
    let disk = g.D.SectorDisk in
    let self = c.args.self.now in
    images-kept disk.is_honest disk.history disk.size self self.size n state stands _ c.start.ensures.images

pub returns-clause-begun : goal.returns-clause-begun
returns-clause-begun g c n state stands =
    let disk = g.D.SectorDisk in
    let self = c.args.self.now in
    let begun = c.in_ok-start.ensures.begun stands.has (LogHas-stands disk.is_honest disk.history disk.size self n state self.size stands) in
    StandsAt-begun disk.is_honest disk.history disk.size self _ n state (self.size ∙ sym c.start.ensures.same_size) c.start.ensures.same_number stands begun.0 begun.1.0 begun.1.1 begun.1.2

pub returns-clause-stands : goal.returns-clause-stands
returns-clause-stands g c n state stands = (returns-clause-begun g c n state stands).0

pub returns-clause-clear : goal.returns-clause-clear
returns-clause-clear g c =
    let self = c.args.self.now in
    clear-begin self.sectors (g.D.SectorDisk.size (disk_of self)) self.size (log_model.taken_of self.log) (log_model.root_of self.log) (log_model.end_of self.log) c.in_ok-start.ensures.clear

pub returns-clause-room : goal.returns-clause-room
returns-clause-room g c =
    let self = c.args.self.now in
    let log = c.start.new.log in
    let size = g.D.SectorDisk.size in
    room-begun self.sectors (size (disk_of self)) self.size (log_model.taken_of self.log) (log_model.root_of self.log) (log_model.end_of self.log)
    (size (log_model.disk_of log)) (log_model.taken_of log) (log_model.root_of log) (log_model.end_of log) c.start.ensures.same_size
    (λ none. let same = c.start.ensures.empty_stays none in ((λ i. root_ids (same.root i) ++ same.fresh i), same.root, same.end))
    c.in_ok-start.ensures.room
