use Rattle.std.proofs.Math.Logic.{∥∥₁_map}
use Rattle.cg_store.specs.Store.{front_of, has_failed}
use Rattle.cg_desk.specs.Desks.{state_of}
use Rattle.cg_world.proofs.Agreeing.{tick-kept}
use Rattle.cg_world.proofs.Leaving.{tick-kept as orderly-ticked}
use Rattle.cg_world.proofs.world.World.tick.Goals as goal

pub invariant_of-self : goal.invariant_of-self
invariant_of-self g c = record {
  orderly = ∥∥₁_map c.args.self.now.orderly (λ h. orderly-ticked (λ v. v.items) (state_of c.args.self.now.desk) (state_of c.tick.new.self) c.tick.result h c.args.now c.tick.ensures.ok c.tick.ensures.err);
  agree = tick-kept c.args.self.now.transit (front_of c.args.self.now.store) (has_failed c.args.self.now.store) (λ v. v.items) (state_of c.args.self.now.desk) (state_of c.tick.new.self) c.tick.result c.args.now c.tick.ensures.ok c.tick.ensures.err c.args.self.now.agree;
}
