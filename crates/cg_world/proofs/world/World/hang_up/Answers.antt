use Rattle.std.proofs.Math.Logic.{∥∥₁_map}
use Rattle.cg_store.specs.Store.{front_of, has_failed}
use Rattle.cg_desk.specs.Desks.{state_of}
use Rattle.cg_world.proofs.Agreeing.{gone-kept}
use Rattle.cg_world.proofs.Leaving.{gone-kept as orderly-gone}
use Rattle.cg_world.proofs.world.World.hang_up.Goals as goal

pub invariant_of-self : goal.invariant_of-self
invariant_of-self g c = record {
  orderly = ∥∥₁_map c.args.self.now.orderly (λ h. orderly-gone (λ v. v.items) (state_of c.args.self.now.desk) (state_of c.gone.new.self) c.gone.result h c.args.session c.args.now c.gone.ensures.ok c.gone.ensures.err);
  agree = gone-kept c.args.self.now.transit (front_of c.args.self.now.store) (has_failed c.args.self.now.store) (λ v. v.items) (state_of c.args.self.now.desk) (state_of c.gone.new.self) c.gone.result c.args.session c.args.now c.gone.ensures.ok c.gone.ensures.err c.args.self.now.agree;
}
