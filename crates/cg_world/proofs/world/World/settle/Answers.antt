use Rattle.std.proofs.Math.Logic.{∥∥₁_map}
use Rattle.std.proofs.Common.{◌∙◌, sym, length}
use Rattle.cg_store.specs.Receipts.{batch_of}
use Rattle.cg_store.specs.Store.{front_of, has_failed}
use Rattle.cg_desk.specs.Desks.{state_of}
use Rattle.cg_world.proofs.Moving.{settled-world}
use Rattle.cg_world.proofs.Leaving.{settle-kept}
use Rattle.cg_world.proofs.world.World.settle.Goals as goal

pub invariant_of-self-in-Ok-1 : goal.invariant_of-self-in-Ok-1
invariant_of-self-in-Ok-1 g c = record {
  orderly = ∥∥₁_map c.args.self.now.orderly (λ h. settle-kept (state_of c.args.self.now.desk) (state_of c.settle.new.self) (length (batch_of c.in-Some.receipt).commands) c.in-Ok.out.items h c.in-Ok.ensures.out);
  agree = settled-world (state_of c.args.self.now.desk) (state_of c.settle.new.self) c.in-Ok.out.items c.args.self.now.transit c.take_receipt.new.self c.in-Some.receipt (front_of c.args.self.now.store) (has_failed c.args.self.now.store)
      (sym c.take_receipt.ensures.value ∙ c.in-Some.is) c.take_receipt.ensures.rest c.args.self.now.agree c.in-Ok.ensures.out;
}
