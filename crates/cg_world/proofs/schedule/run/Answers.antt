use Rattle.std.proofs.Common.{rules, ◌≡◌, ap, sym, refl, [], ◌∷◌, length, arith}
use Rattle.std.specs.Vec.Iter.{into_iter_items}
use Rattle.cg_world.proofs.Going.{none-left}
use Rattle.cg_world.proofs.Runs.{begins, breaks, goes-on, run-done, run-none, run-wanting}
use Rattle.cg_world.proofs.schedule.run.Goals as goal

pub returns-then-is_empty-clause-run : goal.returns-then-is_empty-clause-run
returns-then-is_empty-clause-run g c =
    let few : length c.args.steps.items ≡ 0 = search rules in
    let none : c.args.steps.items ≡ [] = none-left c.args.steps.items few in
    run-done g.D.SectorDisk.is_honest g.D.SectorDisk.history c.args.steps.items [] [] c.args.world c.args.world c.of_none.result
    (begins g.D.SectorDisk.is_honest g.D.SectorDisk.history c.args.steps.items [] [] [] c.args.world (sym none) refl refl) c.of_none.ensures

pub returns-in-Err-clause-run : goal.returns-in-Err-clause-run
returns-in-Err-clause-run g c =
    run-none g.D.SectorDisk.is_honest g.D.SectorDisk.history c.args.steps.items c.args.world c.refused_first-last.result c.of_none-in-Err.result (search rules) (search rules) c.of_none-in-Err.ensures

pub loop-step-init : goal.loop-step-init
loop-step-init g c = (
  begins g.D.SectorDisk.is_honest g.D.SectorDisk.history c.args.steps.items (into_iter_items c.into_iter-step-iterator.result) c.in-Ok.recording.notes.items c.in-Ok.recording.out.items c.args.world
      (search rules) c.in-Ok.ensures.notes.0 c.in-Ok.ensures.out.0,
  search rules,
  search rules,
  search rules,
  search rules,
  search rules,
  search rules,
  search rules,
)

pub returns-then-put-clause-run : goal.returns-then-put-clause-run
returns-then-put-clause-run g c =
    let next : into_iter_items c.loop-step.step-iterator ≡ c.in-Some.step ∷ into_iter_items c.next.new.self = search rules in
    breaks g.D.SectorDisk.is_honest g.D.SectorDisk.history c.args.steps.items (into_iter_items c.loop-step.step-iterator) (into_iter_items c.next.new.self) c.in-Some.step
    c.loop-step.recording.notes.items c.put.new.self.notes.items c.loop-step.recording.out.items c.put.new.self.out.items c.args.world c.loop-step.world c.take_step.new.self c.in-Ok-take_step.taken.note c.in-Ok-take_step.taken.out c.ended.result
    next c.put.ensures.notes c.put.ensures.out c.loop-step.invariant.0 c.in-Ok-take_step.ensures.ok c.take_step.ensures.rests (search rules) c.ended.ensures

pub loop-step-preserved : goal.loop-step-preserved
loop-step-preserved g c =
    let next : into_iter_items c.loop-step.step-iterator ≡ c.in-Some.step ∷ into_iter_items c.next.new.self = search rules in (
      goes-on g.D.SectorDisk.is_honest g.D.SectorDisk.history c.args.steps.items (into_iter_items c.loop-step.step-iterator) (into_iter_items c.next.new.self) c.in-Some.step
          c.loop-step.recording.notes.items c.put.new.self.notes.items c.loop-step.recording.out.items c.put.new.self.out.items c.args.world c.loop-step.world c.take_step.new.self c.in-Ok-take_step.taken.note c.in-Ok-take_step.taken.out
          next c.put.ensures.notes c.put.ensures.out c.loop-step.invariant.0 c.in-Ok-take_step.ensures.ok c.take_step.ensures.rests (search rules),
      omega (arith, ap length next, c.put.ensures.room.0, c.put.ensures.room.1, c.loop-step.invariant.1),
      omega (arith, ap length next, c.put.ensures.room_for_notes.0, c.put.ensures.room_for_notes.1, c.loop-step.invariant.2),
      search rules,
      search rules,
      search rules,
      search rules,
      search rules,
    )

pub returns-in-Err-take_step-clause-run : goal.returns-in-Err-take_step-clause-run
returns-in-Err-take_step-clause-run g c =
    let next : into_iter_items c.loop-step.step-iterator ≡ c.in-Some.step ∷ into_iter_items c.next.new.self = search rules in
    run-wanting g.D.SectorDisk.is_honest g.D.SectorDisk.history c.args.steps.items (into_iter_items c.next.new.self) c.in-Some.step c.loop-step.recording.notes.items c.loop-step.recording.out.items c.args.world c.loop-step.world c.take_step.new.self
    c.in-Err-take_step.wanting.last c.ended-in-Err-take_step.result (rw next at c.loop-step.invariant.0) c.in-Err-take_step.ensures.err c.take_step.ensures.rests
    c.in-Err-take_step.ensures.last c.ended-in-Err-take_step.ensures

pub returns-clause-run : goal.returns-clause-run
returns-clause-run g c =
    let few : length (into_iter_items c.loop-step.step-iterator) ≡ 0 = search rules in
    let none : into_iter_items c.loop-step.step-iterator ≡ [] = none-left (into_iter_items c.loop-step.step-iterator) few in
    run-done g.D.SectorDisk.is_honest g.D.SectorDisk.history c.args.steps.items c.loop-step.recording.notes.items c.loop-step.recording.out.items c.args.world c.loop-step.world c.ended-2.result (rw none at c.loop-step.invariant.0) c.ended-2.ensures
