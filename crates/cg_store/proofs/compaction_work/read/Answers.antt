use Rattle.std.proofs.Common.{◌≡◌, ◌∙◌, [], refl, subst, true}
use Rattle.cg_log.specs.Log.{disk_of}
use Rattle.cg_log.specs.Segments.{Frames}
use Rattle.cg_store.specs.Compacting.{Compacts, IsFolding, IsFrameRead}
use Rattle.cg_store.specs.declared.compaction.Compaction.{Compaction}
use Rattle.cg_store.specs.declared.phase.Progress.TheVariants.{Done, More}
use Rattle.cg_store.proofs.compaction_work.read.Goals as goal

pub returns-in-Ok-More-clause-read : goal.returns-in-Ok-More-clause-read
returns-in-Ok-More-clause-read g c has number left state holds spelled knows =
    let disk = g.D.SectorDisk in
    let folding = subst (λ (k : Compaction). Compacts disk.is_honest disk.history c.args.log.now has number left k) c.in-Reading.is knows in
    let reading = c.read_frame-outcome.new.reading in
    let found : (now : Frames) × (IsFrameRead c.in-Ok-More.field-0 left now × IsFolding has number now reading) =
    rw c.in-Ok-More.is at (c.read_frame-outcome.ensures.read has number left state holds spelled folding) in
    let more : c.in-Ok-More.field-0 ≡ More = rw c.in-Ok-More.is at c.in-Ok-More.field-0-is in
    rw more at found

pub returns-in_ok-begin-in-Ok-Done-clause-read : goal.returns-in_ok-begin-in-Ok-Done-clause-read
returns-in_ok-begin-in-Ok-Done-clause-read g c has number left state holds spelled knows =
    let disk = g.D.SectorDisk in
    let folding = subst (λ (k : Compaction). Compacts disk.is_honest disk.history c.args.log.now has number left k) c.in-Reading.is knows in
    let reading = c.read_frame-outcome.new.reading in
    let found : (now : Frames) × (IsFrameRead c.in-Ok-Done.field-0 left now × IsFolding has number now reading) =
    rw c.in-Ok-Done.is at (c.read_frame-outcome.ensures.read has number left state holds spelled folding) in
    let done : c.in-Ok-Done.field-0 ≡ Done = rw c.in-Ok-Done.is at c.in-Ok-Done.field-0-is in
    let none = rw done at found in
    let all : IsFolding has number [] reading = subst (λ (l : Frames). IsFolding has number l reading) none.1.0.1 none.1.1 in
    let honest : disk.is_honest (disk_of c.read_frame-outcome.new.log) ≡ true = c.read_frame-outcome.ensures.same_honesty ∙ holds.is_honest in
    ([], ((none.1.0.0, refl), c.in_ok-begin-in-Ok-Done.ensures.begun has number honest all))

pub returns-in-Err-clause-honest : goal.returns-in-Err-clause-honest
returns-in-Err-clause-honest g c has number left state holds spelled knows bad =
    let disk = g.D.SectorDisk in
    let folding = subst (λ (k : Compaction). Compacts disk.is_honest disk.history c.args.log.now has number left k) c.in-Reading.is knows in
    c.in-Err.ensures.honest has number left state holds spelled folding bad
