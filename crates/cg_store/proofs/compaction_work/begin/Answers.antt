use Rattle.std.proofs.Common.{◌≡◌, ◌∙◌, [], refl, sym, subst}
use Rattle.cg_store.specs.Compacting.{Compacts}
use Rattle.cg_store.specs.declared.compaction.Compaction.{Compaction}
use Rattle.cg_store.specs.declared.compaction.Compaction.TheVariants as is
use Rattle.cg_store.proofs.Switching.{HasWritten-begun}
use Rattle.cg_store.proofs.compaction_work.begin.Goals as goal

pub returns-clause-begun : goal.returns-clause-begun
returns-clause-begun g c has number honest knows =
    let disk = g.D.SectorDisk in
    let log = c.drop_fresh.new.self in
    let reading = c.in-Reading.reading in
    let writing = c.in_ok-writing-in-Reading.writing in
    let made = c.in_ok-writing-in-Reading.ensures in
    let was : c.args.compaction.now ≡ is.Reading reading = sym c.replace.ensures.value ∙ c.in-Reading.is in
    let folding = subst (λ (k : Compaction). Compacts disk.is_honest disk.history c.args.log.now has number [] k) was knows in
    let written = HasWritten-begun disk.is_honest disk.history log has number reading writing.frames folding (c.drop_fresh.ensures.holds honest) made.frames in
    let begun : Compacts disk.is_honest disk.history log has number [] (is.Writing writing) = rw made.cut (refl, folding.cut, written) in
    subst (λ (k : Compaction). Compacts disk.is_honest disk.history log has number [] k) (sym c.go_on_to.ensures) begun
