use Rattle.std.proofs.Common.{◌≡◌, ◌≢◌, inl, inr, ℕ, ◌+◌, ◌≤◌, ◌∷◌, [], ◌++◌, ◌∙◌, ap, sym, subst, refl, true, false, Option, Err, arith}
use Rattle.cg_disk.specs.Disk.{present}
use Rattle.cg_log.specs.Carried.{tails, AllCarry as AllCarryLog}
use Rattle.cg_log.specs.Log as log_model
use Rattle.cg_log.specs.Segments.{frames_of}
use Rattle.cg_log.specs.declared.fault.LogFault.TheVariants as log_fault
use Rattle.cg_store.specs.Faults.{IsToldOf}
use Rattle.cg_store.specs.Store.{disk_of, front_of, has_failed, room_of}
use Rattle.cg_store.specs.declared.fault.StoreFault.{StoreFault}
use Rattle.cg_store.specs.declared.fault.StoreFault.TheVariants as store_fault
use Rattle.cg_store.proofs.Growing.{not-fewer}
use Rattle.cg_store.proofs.Refused.{has-no-room, has-room, refused-failed, refused-full, refused-not, refused-order}
use Rattle.cg_store.proofs.Standing.{StandsAt-appended, images-appended, images-still}
use Rattle.cg_store.proofs.store.Store.put.Goals as goal

pub invariant_of-self : goal.invariant_of-self
invariant_of-self g c =
    let self = c.args.self.now in
    let said = c.append.ensures in
    let old = front_of self in
    let new = log_model.number_of c.append.new.self in
    let more : old ≤ new = not-fewer c.append.result old new c.frame.result.now.0 said.number said.same_number in
    record {
      size = self.size ∙ sym said.same_size;
      cut = λ cut is. (said.same_tails cut.id (self.cut cut is).0, omega (arith, (self.cut cut is).1, more));
      idle = λ is. said.same_fresh ∙ self.idle is;
      reading = λ is. said.same_fresh ∙ self.reading is;
    }

pub returns-then-has_failed-clause-images : goal.returns-then-has_failed-clause-images
returns-then-has_failed-clause-images g c n state stands = images-still g.D.SectorDisk.is_honest g.D.SectorDisk.history c.args.self.now n state c.args.batch.now.commands stands

pub returns-then-batch-number-clause-images : goal.returns-then-batch-number-clause-images
returns-then-batch-number-clause-images g c n state stands = images-still g.D.SectorDisk.is_honest g.D.SectorDisk.history c.args.self.now n state c.args.batch.now.commands stands

pub returns-in-Ok-clause-images : goal.returns-in-Ok-clause-images
returns-in-Ok-clause-images g c n state stands =
    let self = c.args.self.now in
    images-appended g.D.SectorDisk.is_honest g.D.SectorDisk.history g.D.SectorDisk.size self self.size c.args.batch.now.commands c.frame.result.now.1 c.frame.result.now.0 c.frame.ensures.decoded c.frame.ensures.lawful c.frame.ensures.count n state stands _ c.append.ensures.images

pub returns-in-Err-Memory-clause-images : goal.returns-in-Err-Memory-clause-images
returns-in-Err-Memory-clause-images g c n state stands =
    let self = c.args.self.now in
    images-appended g.D.SectorDisk.is_honest g.D.SectorDisk.history g.D.SectorDisk.size self self.size c.args.batch.now.commands c.frame.result.now.1 c.frame.result.now.0 c.frame.ensures.decoded c.frame.ensures.lawful c.frame.ensures.count n state stands _ c.append.ensures.images

pub returns-in-Err-Device-clause-images : goal.returns-in-Err-Device-clause-images
returns-in-Err-Device-clause-images g c n state stands =
    let self = c.args.self.now in
    images-appended g.D.SectorDisk.is_honest g.D.SectorDisk.history g.D.SectorDisk.size self self.size c.args.batch.now.commands c.frame.result.now.1 c.frame.result.now.0 c.frame.ensures.decoded c.frame.ensures.lawful c.frame.ensures.count n state stands _ c.append.ensures.images

pub returns-in-Err-Full-clause-images : goal.returns-in-Err-Full-clause-images
returns-in-Err-Full-clause-images g c n state stands =
    let self = c.args.self.now in
    images-appended g.D.SectorDisk.is_honest g.D.SectorDisk.history g.D.SectorDisk.size self self.size c.args.batch.now.commands c.frame.result.now.1 c.frame.result.now.0 c.frame.ensures.decoded c.frame.ensures.lawful c.frame.ensures.count n state stands _ c.append.ensures.images

pub returns-in-Ok-clause-ok : goal.returns-in-Ok-clause-ok
returns-in-Ok-clause-ok g c n state stands =
    let disk = g.D.SectorDisk in
    let self = c.args.self.now in
    let commands = c.args.batch.now.commands in
    let payload = c.frame.result.now.1 in
    let count = c.frame.result.now.0 in
    let old_size : self.sectors ≡ disk.size (disk_of self) = self.size in
    let log = c.append.new.self in
    let same : disk.size (log_model.disk_of log) ≡ disk.size (disk_of self) = c.append.ensures.same_size in
    StandsAt-appended disk.is_honest disk.history disk.size self old_size commands payload count c.frame.ensures.decoded c.frame.ensures.lawful c.frame.ensures.count n state stands _ (old_size ∙ sym same) c.in-Ok.ensures.number c.in-Ok.ensures.stored
    (λ has had. subst (λ (s : ℕ). AllCarryLog (present (disk.history (log_model.disk_of log))) s (front_of self + count) (frames_of has.base) (frames_of (tails has) ++ (count, payload) ∷ [])) (sym same) (c.in-Ok.ensures.after has had)) refl c.in-Ok.ensures.fresh

-- ---- the refusal

pub returns-then-has_failed-clause-told : goal.returns-then-has_failed-clause-told
returns-then-has_failed-clause-told g c =
    let self = c.args.self.now in
    let batch = c.args.batch.now in
    let failed : has_failed self ≡ true = sym c.has_failed.ensures ∙ c.if-has_failed.true in
    subst (λ (o : Option StoreFault). IsToldOf o store_fault.Failed) (sym (refused-failed (has_failed self) (room_of self) (front_of self) batch.first batch.commands failed)) refl

pub returns-then-batch-number-clause-told : goal.returns-then-batch-number-clause-told
returns-then-batch-number-clause-told g c =
    let self = c.args.self.now in
    let batch = c.args.batch.now in
    let serves : has_failed self ≡ false = sym c.has_failed.ensures ∙ c.if-has_failed.false in
    let other : batch.first ≢ front_of self + 1 = omega (arith, c.number.ensures.number) in
    subst (λ (o : Option StoreFault). IsToldOf o store_fault.OutOfOrder) (sym (refused-order (has_failed self) (room_of self) (front_of self) batch.first batch.commands serves other)) refl

pub returns-in-Ok-clause-told : goal.returns-in-Ok-clause-told
returns-in-Ok-clause-told g c =
    let self = c.args.self.now in
    let batch = c.args.batch.now in
    let size = g.D.SectorDisk.size (disk_of self) in
    let serves : has_failed self ≡ false = sym c.has_failed.ensures ∙ c.if-has_failed.false in
    let next : batch.first ≡ front_of self + 1 = omega (arith, c.number.ensures.number) in
    let room = has-room self.sectors size self.size (log_model.taken_of self.log) (log_model.root_of self.log) (log_model.end_of self.log) (front_of self) c.frame.result.now.0 batch.commands c.frame.result.now.1 c.frame.ensures.spelled c.frame.ensures.count c.in-Ok.ensures.clear c.in-Ok.ensures.few in
    refused-not (has_failed self) (room_of self) (front_of self) batch.first batch.commands serves next room

pub returns-in-Err-Memory-clause-told : goal.returns-in-Err-Memory-clause-told
returns-in-Err-Memory-clause-told g c =
    let self = c.args.self.now in
    let batch = c.args.batch.now in
    let size = g.D.SectorDisk.size (disk_of self) in
    let serves : has_failed self ≡ false = sym c.has_failed.ensures ∙ c.if-has_failed.false in
    let next : batch.first ≡ front_of self + 1 = omega (arith, c.number.ensures.number) in
    let fault = c.in-Err-Memory.field-0 in
    let not_failed : fault ≢ log_fault.Failed = λ e. (cc (c.in-Err-Memory.field-0-is, e)) in
    let not_full : fault ≢ log_fault.Full = λ e. (cc (c.in-Err-Memory.field-0-is, e)) in
    let room = has-room self.sectors size self.size (log_model.taken_of self.log) (log_model.root_of self.log) (log_model.end_of self.log) (front_of self) c.frame.result.now.0 batch.commands c.frame.result.now.1 c.frame.ensures.spelled c.frame.ensures.count (c.in-Err-Memory.ensures.clear not_failed not_full) (c.in-Err-Memory.ensures.few not_failed not_full) in
    subst (λ (o : Option StoreFault). IsToldOf o store_fault.Memory) (sym (refused-not (has_failed self) (room_of self) (front_of self) batch.first batch.commands serves next room)) (inl refl)

pub returns-in-Err-Device-clause-told : goal.returns-in-Err-Device-clause-told
returns-in-Err-Device-clause-told g c =
    let self = c.args.self.now in
    let batch = c.args.batch.now in
    let size = g.D.SectorDisk.size (disk_of self) in
    let serves : has_failed self ≡ false = sym c.has_failed.ensures ∙ c.if-has_failed.false in
    let next : batch.first ≡ front_of self + 1 = omega (arith, c.number.ensures.number) in
    let fault = c.in-Err-Device.field-0 in
    let not_failed : fault ≢ log_fault.Failed = λ e. (cc (c.in-Err-Device.field-0-is, e)) in
    let not_full : fault ≢ log_fault.Full = λ e. (cc (c.in-Err-Device.field-0-is, e)) in
    let room = has-room self.sectors size self.size (log_model.taken_of self.log) (log_model.root_of self.log) (log_model.end_of self.log) (front_of self) c.frame.result.now.0 batch.commands c.frame.result.now.1 c.frame.ensures.spelled c.frame.ensures.count (c.in-Err-Device.ensures.clear not_failed not_full) (c.in-Err-Device.ensures.few not_failed not_full) in
    subst (λ (o : Option StoreFault). IsToldOf o store_fault.Device) (sym (refused-not (has_failed self) (room_of self) (front_of self) batch.first batch.commands serves next room)) (inr refl)

pub returns-in-Err-Full-clause-told : goal.returns-in-Err-Full-clause-told
returns-in-Err-Full-clause-told g c =
    let self = c.args.self.now in
    let batch = c.args.batch.now in
    let size = g.D.SectorDisk.size (disk_of self) in
    let serves : has_failed self ≡ false = sym c.has_failed.ensures ∙ c.if-has_failed.false in
    let next : batch.first ≡ front_of self + 1 = omega (arith, c.number.ensures.number) in
    let none = has-no-room self.sectors size self.size (log_model.taken_of self.log) (log_model.root_of self.log) (log_model.end_of self.log) (front_of self) c.frame.result.now.0 batch.commands c.frame.result.now.1 c.frame.ensures.spelled c.frame.ensures.count (c.in-Err-Full.ensures.full (ap Err c.in-Err-Full.field-0-is)) in
    subst (λ (o : Option StoreFault). IsToldOf o store_fault.Full) (sym (refused-full (has_failed self) (room_of self) (front_of self) batch.first batch.commands serves next none)) refl
