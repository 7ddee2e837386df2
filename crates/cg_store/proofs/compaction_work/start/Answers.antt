use Rattle.cg_disk.specs.Disk.{present}
use Rattle.cg_log.specs.Log.{disk_of, number_of, root_of}
use Rattle.cg_store.proofs.Folding.{IsBegun-rolled, IsFolding-begun, LogAt-now}
use Rattle.cg_store.proofs.compaction_work.start.Goals as goal

pub returns-clause-begun : goal.returns-clause-begun
returns-clause-begun g c has holds =
    let disk = g.D.SectorDisk in
    let log = c.roll.new.self in
    let rolled = c.in-Ok.ensures.stored has holds in
    let new = rolled.0 in
    let begun = IsBegun-rolled has c.in-Ok.id new rolled.1.0 in
    let at = LogAt-now disk.is_honest disk.history disk.size log new rolled.1.1 in (
      new,
      (
        rolled.1.1,
        begun.same,
        IsFolding-begun (present (disk.history (disk_of log))).content (disk.size (disk_of log)) (root_of log) has new c.in-Ok.id at begun
            (number_of log) c.number-number.result c.start.result c.new.result c.new-2.result c.room_for_spent.result c.number-number.ensures.number c.start.ensures c.new.ensures,
      ),
    )
