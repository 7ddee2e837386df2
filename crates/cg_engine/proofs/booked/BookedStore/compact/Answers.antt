use Rattle.std.proofs.Common.{◌∙◌, sym}
use Rattle.std.proofs.Math.Logic.{∥∥₁_map}
use Rattle.cg_engine.proofs.booked.BookedStore.compact.Goals as goal

pub invariant_of-self : goal.invariant_of-self
invariant_of-self g c = record {
  booked = c.args.self.now.booked ∙ sym c.compact_step.ensures.number;
  counted = c.args.self.now.counted;
  kept = ∥∥₁_map c.args.self.now.kept (λ k. record { state = k.state; known = k.known; stored = c.compact_step.ensures.kept k.state k.stored });
}
