use Rattle.std.proofs.Math.Logic.{∥∥₁_map}
use Rattle.cg_engine.proofs.Kept.{booked-still, counted-none, counted-some, counted-still, kept-none, kept-some}
use Rattle.cg_engine.proofs.booked.BookedStore.append.Goals as goal

pub invariant_of-self : goal.invariant_of-self
invariant_of-self g c = record {
  booked = booked-still c.append_to.result c.args.self.now.opening _ _ _ _ _ c.args.self.now.booked c.append_to.ensures.booked;
  counted = rw c.in-None.is (counted-none _);
  kept = ∥∥₁_map c.args.self.now.kept (λ k. rw c.in-None.is (kept-none g.D.SectorDisk.is_honest g.D.SectorDisk.history c.append_to.result c.args.self.now.store c.append_to.new.store c.args.batch.commands c.append_to.ensures.ok c.append_to.ensures.err (rw c.in-None.is at k)));
}

pub invariant_of-self-in-Some : goal.invariant_of-self-in-Some
invariant_of-self-in-Some g c = record {
  booked = booked-still c.append_noted.result c.args.self.now.opening _ _ _ _ _ c.args.self.now.booked c.append_noted.ensures.booked;
  counted = counted-some c.append_noted.new.appended _ (counted-still c.append_noted.result _ _ _ _ _ _ _ c.append_noted.ensures.booked c.append_noted.ensures.counted (c.args.self.now.counted c.before.in-Some.appended c.in-Some.is));
  kept = ∥∥₁_map c.args.self.now.kept (λ k. kept-some g.D.SectorDisk.is_honest g.D.SectorDisk.history c.append_noted.result c.args.self.now.store c.append_noted.new.store c.args.batch.commands _ _ c.append_noted.ensures.noted c.append_noted.ensures.ok c.append_noted.ensures.err (rw c.in-Some.is at k));
}
