use Rattle.std.proofs.Common.{◌≡◌, ◌∙◌, ap, sym, subst, ℕ, ◌+◌, ◌++◌, ◌⊎◌, arith, rules}
use Rattle.cg_log.specs.Free.{is_among, free_count_of}
use Rattle.cg_log.specs.Log as log_model
use Rattle.cg_root.specs.declared.root.Root.{Root}
use Rattle.cg_root.specs.Roots.{root_ids}
use Rattle.cg_store.specs.Compacting.{IsTakenFrom}
use Rattle.cg_store.specs.Store.{disk_of, fresh_of, front_of}
use Rattle.cg_store.proofs.Cuts.{cut-kept, write-idle, write-reading}
use Rattle.cg_store.proofs.Rooms.{free-taken, none-free}
use Rattle.cg_store.proofs.Standing.{LogHas-stands, StandsAt-on, images-kept, images-same}
use Rattle.cg_store.proofs.store.Store.compact_write.Goals as goal

pub invariant_of-self : goal.invariant_of-self
invariant_of-self g c =
    let self = c.args.self.now in
    let said = c.write.ensures in
    record {
      size = self.size ∙ sym said.same_size;
      cut = cut-kept c.write.result self.compaction c.write.new.compaction _ _ said.cut said.over
          (λ cut was. (ap (λ (r : Root). is_among cut.id r.tail) said.same_root ∙ was.0, omega (arith, was.1, said.same_number))) self.cut;
      idle = write-idle c.write.result _ _ said.phase said.freed;
      reading = write-reading c.write.result _ _ said.phase said.freed;
    }

pub returns-in_err-check_phase-clause-images : goal.returns-in_err-check_phase-clause-images
returns-in_err-check_phase-clause-images g c n state stands =
    let disk = g.D.SectorDisk in
    let self = c.args.self.now in
    images-same disk.is_honest disk.history disk.size self self.size n state stands

pub returns-in_err-progress-clause-images : goal.returns-in_err-progress-clause-images
returns-in_err-progress-clause-images g c n state stands =
    let disk = g.D.SectorDisk in
    let self = c.args.self.now in
    images-kept disk.is_honest disk.history disk.size self self.size n state stands _ c.write.ensures.images

pub returns-in_err-progress-clause-no_room : goal.returns-in_err-progress-clause-no_room
returns-in_err-progress-clause-no_room g c is =
    let self = c.args.self.now in
    none-free self.sectors (g.D.SectorDisk.size (disk_of self)) (log_model.taken_of self.log) self.size (c.in_err-progress.ensures.full (search rules))

pub returns-clause-images : goal.returns-clause-images
returns-clause-images g c n state stands =
    let disk = g.D.SectorDisk in
    let self = c.args.self.now in
    images-kept disk.is_honest disk.history disk.size self self.size n state stands _ c.write.ensures.images

pub returns-clause-stands : goal.returns-clause-stands
returns-clause-stands g c n state stands =
    let disk = g.D.SectorDisk in
    let self = c.args.self.now in
    let said = c.write.ensures in
    let had = LogHas-stands disk.is_honest disk.history disk.size self n state self.size stands in
    StandsAt-on disk.is_honest disk.history disk.size self _ n state (self.size ∙ sym said.same_size) said.same_number stands (said.stored stands.has had) stands.left
    (c.in_ok-progress.ensures.compacts stands.has (front_of self) stands.left stands.compacts)

pub returns-clause-room : goal.returns-clause-room
returns-clause-room g c =
    let self = c.args.self.now in
    let log = c.write.new.log in
    let old = fresh_of self in
    let new = log_model.fresh_of log in
    let taken = subst (λ (s : ℕ). IsTakenFrom s (log_model.taken_of self.log) old new) (sym self.size) c.in_ok-progress.ensures.taken in
    subst (λ (r : Root). (free_count_of self.sectors (root_ids r ++ new) ≡ free_count_of self.sectors (log_model.taken_of self.log)) ⊎ (free_count_of self.sectors (root_ids r ++ new) + 1 ≡ free_count_of self.sectors (log_model.taken_of self.log)))
    (sym c.write.ensures.same_root) (free-taken self.sectors (root_ids (log_model.root_of self.log)) old new taken)
