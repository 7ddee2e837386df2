use Rattle.std.proofs.Math.Logic.{∥∥₁_map}
use Rattle.cg_store.specs.Store.{front_of, has_failed}
use Rattle.cg_desk.specs.Desks.{state_of}
use Rattle.cg_world.proofs.Moving.{took}
use Rattle.cg_world.proofs.Leaving.{take-orderly}
use Rattle.cg_world.proofs.world.World.take.Goals as goal

pub invariant_of-self : goal.invariant_of-self
invariant_of-self g c = record {
  orderly = ∥∥₁_map c.args.self.now.orderly (λ h. take-orderly (state_of c.args.self.now.desk) (state_of c.take_batch.new.self) c.in-Ok-Some.field-0 c.in-Ok-Some.ensures.ok h);
  agree = (took (state_of c.args.self.now.desk) (state_of c.take_batch.new.self) c.args.self.now.transit c.in-Ok-Some.batch (front_of c.args.self.now.store) (has_failed c.args.self.now.store)
      c.in-Ok-Some.field-0 c.in-Ok-Some.field-0-is (λ out. cc (c.in-Ok-Some.ensures.in_flight out)) c.in-Ok-Some.ensures.ok c.args.self.now.agree).agree;
}
