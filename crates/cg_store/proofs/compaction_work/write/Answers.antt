use Rattle.std.proofs.Common.{◌≡◌, sym, subst, List}
use Rattle.cg_disk.specs.Disk.{LeavesOnly}
use Rattle.cg_log.specs.Carried.{Carries, tails}
use Rattle.cg_log.specs.Log.{disk_of, number_of}
use Rattle.cg_log.specs.Segments.{frames_of}
use Rattle.cg_record.specs.declared.command.Command.{Command}
use Rattle.cg_store.specs.Compacting.{Compacts, HasWritten, IsWritten}
use Rattle.cg_store.specs.declared.compaction.Compaction.{Compaction}
use Rattle.cg_store.specs.declared.compaction.Compaction.TheVariants as is
use Rattle.cg_store.specs.declared.phase.Progress.TheVariants.{Done}
use Rattle.cg_store.proofs.Switching.{HasWritten-copied}
use Rattle.cg_store.proofs.compaction_work.write.Goals as goal

pub returns-in-Ok-More-clause-compacts : goal.returns-in-Ok-More-clause-compacts
returns-in-Ok-More-clause-compacts g c has number left knows =
    let disk = g.D.SectorDisk in
    let log = c.args.log.now in
    let writing = c.in-Writing.field-0 in
    let known = subst (λ (k : Compaction). Compacts disk.is_honest disk.history log has number left k) c.in-Writing.is knows in
    let copied = rw c.in-Ok-More.is at c.write_frame.ensures.copied in
    (known.0, known.1, HasWritten-copied disk.is_honest disk.history log c.write_frame.new.log has writing.cut writing.frames c.write_frame.new.frames copied known.2)

pub returns-in-Ok-Done-clause-compacts : goal.returns-in-Ok-Done-clause-compacts
returns-in-Ok-Done-clause-compacts g c has number left knows =
    let disk = g.D.SectorDisk in
    let log = c.args.log.now in
    let new = c.write_frame.new.log in
    let writing = c.in-Writing.field-0 in
    let known = subst (λ (k : Compaction). Compacts disk.is_honest disk.history log has number left k) c.in-Writing.is knows in
    let copied = rw c.in-Ok-Done.is at c.write_frame.ensures.copied in
    let written = HasWritten-copied disk.is_honest disk.history log new has writing.cut writing.frames c.write_frame.new.frames copied known.2 in
    let told : IsWritten c.in-Ok-Done.field-0 writing.frames c.write_frame.new.frames = rw c.in-Ok-Done.is at c.write_frame.ensures.written in
    let done : c.in-Ok-Done.field-0 ≡ Done = rw c.in-Ok-Done.is at c.in-Ok-Done.field-0-is in
    let all = rw done at told in
    let ready : Compacts disk.is_honest disk.history new has number left (is.Ready writing.cut) = (known.0, known.1, subst (λ (l : List Command). HasWritten disk.is_honest disk.history new has writing.cut l) all.1 written) in
    subst (λ (k : Compaction). Compacts disk.is_honest disk.history new has number left k) (sym c.go_on_to.ensures) ready

pub returns-in-Err-clause-images : goal.returns-in-Err-clause-images
returns-in-Err-clause-images g c has holds =
    let disk = g.D.SectorDisk in
    let log = c.args.log.now in
    subst (λ d. LeavesOnly (disk.history (disk_of log)) (disk.history d) (λ image. Carries image (disk.size (disk_of log)) (number_of log) (frames_of has.base) (frames_of (tails has)))) (sym c.drop_fresh.ensures.disk)
    (c.write_frame.ensures.images has holds)
