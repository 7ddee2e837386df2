use Rattle.std.proofs.Common.{◌∙◌, Bool, ap, sym, rules}
use Rattle.std.proofs.Math.Logic.{∥∥₁_map}
use Rattle.cg_store.specs.Store.{front_of, has_failed, room_of}
use Rattle.cg_store.proofs.Standing.{images-still}
use Rattle.cg_desk.specs.Desks.{state_of}
use Rattle.cg_world.specs.Sights.{room_left}
use Rattle.cg_world.specs.Transits.{is_appended}
use Rattle.cg_world.specs.Turns.{in_flight}
use Rattle.cg_world.proofs.Leaving.{returned-kept}
use Rattle.cg_world.proofs.Moving.{appended-room, batch-out, done-for, failed-turn, full-for, it-was-taken, its-commands, never-failed, never-out-of-order, room-for}
use Rattle.cg_world.proofs.world.World.append.Goals as goal

pub unreachable-requires-in-Err-OutOfOrder-default : goal.unreachable-requires-in-Err-OutOfOrder-default
unreachable-requires-in-Err-OutOfOrder-default g c = never-out-of-order (state_of c.args.self.now.desk) c.args.self.now.transit c.in-Some.batch (room_of c.args.self.now.store) (front_of c.args.self.now.store) (has_failed c.args.self.now.store) (sym c.take_batch.ensures.value ∙ c.in-Some.is) c.args.self.now.agree c.in-Err-OutOfOrder-default.field-0-0 c.in-Err-OutOfOrder-default.field-0-0-is c.in-Err-OutOfOrder-default.ensures.told

pub unreachable-requires-in-Err-Failed-default : goal.unreachable-requires-in-Err-Failed-default
unreachable-requires-in-Err-Failed-default g c = never-failed (state_of c.args.self.now.desk) c.args.self.now.transit c.in-Some.batch (room_of c.args.self.now.store) (front_of c.args.self.now.store) (has_failed c.args.self.now.store) (sym c.take_batch.ensures.value ∙ c.in-Some.is) c.args.self.now.agree c.in-Err-Failed-default.field-0-0 c.in-Err-Failed-default.field-0-0-is c.in-Err-Failed-default.ensures.told

pub returns-in_default-clause-images : goal.returns-in_default-clause-images
returns-in_default-clause-images g c = λ n state stands. images-still g.D.SectorDisk.is_honest g.D.SectorDisk.history c.args.self.now.store n state (in_flight (state_of c.args.self.now.desk)) stands

pub returns-in-Ok-clause-images : goal.returns-in-Ok-clause-images
returns-in-Ok-clause-images g c = λ n state stands. rw (sym (its-commands (state_of c.args.self.now.desk) c.args.self.now.transit c.in-Some.batch (room_of c.args.self.now.store) (front_of c.args.self.now.store) (has_failed c.args.self.now.store) (sym c.take_batch.ensures.value ∙ c.in-Some.is) c.args.self.now.agree)) at c.append.ensures.images n state stands

pub returns-in-Err-Memory-default-clause-images : goal.returns-in-Err-Memory-default-clause-images
returns-in-Err-Memory-default-clause-images g c = λ n state stands. rw (sym (its-commands (state_of c.args.self.now.desk) c.args.self.now.transit c.in-Some.batch (room_of c.args.self.now.store) (front_of c.args.self.now.store) (has_failed c.args.self.now.store) (sym c.take_batch.ensures.value ∙ c.in-Some.is) c.args.self.now.agree)) at c.append.ensures.images n state stands

pub returns-in-Ok-give_back-clause-images : goal.returns-in-Ok-give_back-clause-images
returns-in-Ok-give_back-clause-images g c = λ n state stands. rw (sym (its-commands (state_of c.args.self.now.desk) c.args.self.now.transit c.in-Some.batch (room_of c.args.self.now.store) (front_of c.args.self.now.store) (has_failed c.args.self.now.store) (sym c.take_batch.ensures.value ∙ c.in-Some.is) c.args.self.now.agree)) at c.append.ensures.images n state stands

pub returns-in-Err-Device-default-clause-images : goal.returns-in-Err-Device-default-clause-images
returns-in-Err-Device-default-clause-images g c = λ n state stands. rw (sym (its-commands (state_of c.args.self.now.desk) c.args.self.now.transit c.in-Some.batch (room_of c.args.self.now.store) (front_of c.args.self.now.store) (has_failed c.args.self.now.store) (sym c.take_batch.ensures.value ∙ c.in-Some.is) c.args.self.now.agree)) at c.append.ensures.images n state stands

pub returns-in-Ok-give_back-clause-note : goal.returns-in-Ok-give_back-clause-note
returns-in-Ok-give_back-clause-note g c = it-was-taken (state_of c.args.self.now.desk) c.args.self.now.transit c.in-Some.batch (room_of c.args.self.now.store) (front_of c.args.self.now.store) (has_failed c.args.self.now.store) (sym c.take_batch.ensures.value ∙ c.in-Some.is) c.args.self.now.agree

pub returns-in-Ok-give_back-clause-fits : goal.returns-in-Ok-give_back-clause-fits
returns-in-Ok-give_back-clause-fits g c = full-for (state_of c.args.self.now.desk) c.args.self.now.transit c.in-Some.batch (room_of c.args.self.now.store) (front_of c.args.self.now.store) (has_failed c.args.self.now.store) (sym c.take_batch.ensures.value ∙ c.in-Some.is) c.args.self.now.agree c.in-Err-Full-default.field-0-0 c.in-Err-Full-default.field-0-0-is c.in-Err-Full-default.ensures.told

pub returns-in-Err-Device-default-clause-note : goal.returns-in-Err-Device-default-clause-note
returns-in-Err-Device-default-clause-note g c = it-was-taken (state_of c.args.self.now.desk) c.args.self.now.transit c.in-Some.batch (room_of c.args.self.now.store) (front_of c.args.self.now.store) (has_failed c.args.self.now.store) (sym c.take_batch.ensures.value ∙ c.in-Some.is) c.args.self.now.agree

pub returns-in-Err-Device-default-clause-fits : goal.returns-in-Err-Device-default-clause-fits
returns-in-Err-Device-default-clause-fits g c = room-for (state_of c.args.self.now.desk) c.args.self.now.transit c.in-Some.batch (room_of c.args.self.now.store) (front_of c.args.self.now.store) (has_failed c.args.self.now.store) (sym c.take_batch.ensures.value ∙ c.in-Some.is) c.args.self.now.agree c.in-Err-Device-default.field-0-0 c.in-Err-Device-default.field-0-0-is c.in-Err-Device-default.ensures.told

pub returns-in-Err-Device-default-clause-after : goal.returns-in-Err-Device-default-clause-after
returns-in-Err-Device-default-clause-after g c =
    failed-turn (state_of c.args.self.now.desk) (state_of c.fail.new.self) (is_appended c.args.self.now.transit) c.take_batch.new.self c.fail.result.items
    (batch-out c.args.self.now.transit c.take_batch.new.self c.in-Some.batch (sym c.take_batch.ensures.value ∙ c.in-Some.is) c.take_batch.ensures.rest) c.fail.ensures.state c.fail.ensures.order

pub returns-in-Err-Device-default-clause-room : goal.returns-in-Err-Device-default-clause-room
returns-in-Err-Device-default-clause-room g c = ap (λ (b : Bool). room_left b (room_of c.append.new.self)) (c.in-Err-Device-default.ensures.failed c.in-Err-Device-default.field-0-0-is)

pub invariant_of-self-in-Err-Full-default : goal.invariant_of-self-in-Err-Full-default
invariant_of-self-in-Err-Full-default g c = record {
  orderly = ∥∥₁_map c.args.self.now.orderly (returned-kept c.give_back.result (state_of c.args.self.now.desk) (state_of c.give_back.new.self) c.give_back.ensures.state c.give_back.ensures.unchanged);
  agree = search rules;
}

pub returns-in-Ok-clause-note : goal.returns-in-Ok-clause-note
returns-in-Ok-clause-note g c = it-was-taken (state_of c.args.self.now.desk) c.args.self.now.transit c.in-Some.batch (room_of c.args.self.now.store) (front_of c.args.self.now.store) (has_failed c.args.self.now.store) (sym c.take_batch.ensures.value ∙ c.in-Some.is) c.args.self.now.agree

pub returns-in-Ok-clause-fits : goal.returns-in-Ok-clause-fits
returns-in-Ok-clause-fits g c = done-for (state_of c.args.self.now.desk) c.args.self.now.transit c.in-Some.batch (room_of c.args.self.now.store) (front_of c.args.self.now.store) (has_failed c.args.self.now.store) (sym c.take_batch.ensures.value ∙ c.in-Some.is) c.args.self.now.agree c.in-Ok.ensures.told

pub returns-in-Ok-clause-room : goal.returns-in-Ok-clause-room
returns-in-Ok-clause-room g c = appended-room (state_of c.args.self.now.desk) c.args.self.now.transit c.in-Some.batch (room_of c.args.self.now.store) (front_of c.args.self.now.store) (has_failed c.args.self.now.store) (sym c.take_batch.ensures.value ∙ c.in-Some.is) c.args.self.now.agree (has_failed c.append.new.self) (room_of c.append.new.self) c.in-Ok.ensures.serves c.in-Ok.ensures.room
