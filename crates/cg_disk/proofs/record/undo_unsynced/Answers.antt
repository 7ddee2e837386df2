use Rattle.std.proofs.Common.{◌≡◌, ◌++◌, [], ◌∷◌, refl, ◌∙◌, rules}
use Rattle.cg_disk.specs.declared.record.Call.TheVariants.{Write, Sync}
use Rattle.cg_disk.proofs.Back.{GoesBack-further, GoesBackToSync-sync, within-last}
use Rattle.cg_disk.proofs.record.undo_unsynced.Goals as goal

pub loop-call-preserved : goal.loop-call-preserved
loop-call-preserved c =
    let last : c.loop-call.calls.items ≡ c.pop.new.self.items ++ Write c.in-Write.at c.in-Write.replaced ∷ [] = search rules in
    record {
      long = c.restore.ensures.length ∙ c.loop-call.invariant.long;
      within = rw c.restore.ensures.length (within-last _ _ _ _ c.loop-call.invariant.within last).0;
      back = GoesBack-further c.args.disk.now.items c.loop-call.disk.items c.restore.new.disk.items c.args.calls.now.items c.loop-call.calls.items c.pop.new.self.items (Write c.in-Write.at c.in-Write.replaced) c.loop-call.invariant.back last refl (search rules);
    }

pub returns-in-Sync-clause-back : goal.returns-in-Sync-clause-back
returns-in-Sync-clause-back c =
    let last : c.loop-call.calls.items ≡ c.pop.new.self.items ++ Sync ∷ [] = search rules in
    GoesBackToSync-sync c.args.disk.now.items c.loop-call.disk.items c.args.calls.now.items c.loop-call.calls.items c.pop.new.self.items c.loop-call.invariant.back last
