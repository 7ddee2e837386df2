use Rattle.std.proofs.Math.Logic.{∥∥₁_map}
use Rattle.cg_request.specs.Request.{asked}
use Rattle.cg_store.specs.Store.{front_of, has_failed}
use Rattle.cg_desk.specs.Desks.{state_of}
use Rattle.cg_desk.specs.Tokens.{call_of}
use Rattle.cg_world.proofs.Agreeing.{request-kept}
use Rattle.cg_world.proofs.Leaving.{request-kept as orderly-asked}
use Rattle.cg_world.proofs.world.World.ask.Goals as goal

pub invariant_of-self : goal.invariant_of-self
invariant_of-self g c = record {
  orderly = ∥∥₁_map c.args.self.now.orderly (λ h. orderly-asked (λ v. v.items) (state_of c.args.self.now.desk) (state_of c.request.new.self) c.request.result h c.new-token.result c.args.request c.args.fresh c.args.now c.request.ensures.ok c.request.ensures.err);
  agree = request-kept c.args.self.now.transit (front_of c.args.self.now.store) (has_failed c.args.self.now.store) (λ v. v.items) (state_of c.args.self.now.desk) (state_of c.request.new.self) c.request.result c.new-token.result (asked c.args.request (call_of c.new-token.result) c.args.fresh) c.args.now c.request.ensures.ok c.request.ensures.err c.args.self.now.agree;
}
