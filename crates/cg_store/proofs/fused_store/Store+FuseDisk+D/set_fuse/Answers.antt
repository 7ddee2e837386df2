use Rattle.std.proofs.Common.{◌∙◌, ap, sym, refl, arith}
use Rattle.cg_log.specs.Free.{is_among}
use Rattle.cg_root.specs.declared.root.Root.{Root}
use Rattle.cg_store.specs.Store.{front_of}
use Rattle.cg_store.proofs.Compacted.{Compacts-kept}
use Rattle.cg_store.proofs.Standing.{LogHas-stands, StandsAt-with}
use Rattle.cg_store.proofs.fused_store.Store+FuseDisk+D.set_fuse.Goals as goal

pub invariant_of-self : goal.invariant_of-self
invariant_of-self g c =
    let self = c.args.self.now in
    let said = c.set_fuse.ensures in
    record {
      size = self.size ∙ ap g.D.SectorDisk.size (sym said.disk);
      cut = λ cut is. (ap (λ (r : Root). is_among cut.id r.tail) said.root ∙ (self.cut cut is).0, omega (arith, (self.cut cut is).1, said.number));
      idle = λ is. said.same_fresh ∙ self.idle is;
      reading = λ is. said.same_fresh ∙ self.reading is;
    }

pub returns-clause-stands : goal.returns-clause-stands
returns-clause-stands g c n state stands =
    let disk = g.D.SectorDisk in
    let self = c.args.self.now in
    let said = c.set_fuse.ensures in
    StandsAt-with _ _ (λ d. disk.size d.inner) self _ n state (self.size ∙ ap disk.size (sym said.disk)) said.number stands stands.has
    (said.stored stands.has (LogHas-stands _ _ (λ d. disk.size d.inner) self n state self.size stands)) stands.spelled stands.left
    (Compacts-kept _ _ self.log c.set_fuse.new.self stands.has (front_of self) _ stands.left self.compaction self.compaction said.number refl said.fresh stands.compacts)
