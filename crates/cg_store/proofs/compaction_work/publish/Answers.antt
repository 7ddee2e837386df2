use Rattle.std.proofs.Common.{arith}
use Rattle.cg_log.specs.Log.{disk_of, number_of}
use Rattle.cg_log.specs.Switched.{switched}
use Rattle.cg_store.proofs.Switching.{Spell-switched, images-either}
use Rattle.cg_store.proofs.compaction_work.publish.Goals as goal

pub returns-in-Ok-clause-stored : goal.returns-in-Ok-clause-stored
returns-in-Ok-clause-stored g c has left state holds spelled knows =
    let disk = g.D.SectorDisk in
    let log = c.args.log.now in
    let cut = c.args.cut in
    let written = knows.2 in
    (switched has written.fresh cut.id, (c.in-Ok.ensures.stored has written.fresh holds written.holds knows.1.number_is, Spell-switched disk.is_honest disk.history log has (number_of log) cut knows.1 written state spelled))

pub returns-in-Ok-clause-images : goal.returns-in-Ok-clause-images
returns-in-Ok-clause-images g c has left state holds spelled knows =
    let disk = g.D.SectorDisk in
    let log = c.args.log.now in
    let written = knows.2 in
    images-either disk.is_honest disk.history log has (number_of log) c.args.cut knows.1 written state spelled (disk.history (disk_of log)) (disk.history (disk_of c.switch.new.self)) (disk.size (disk_of log))
    (c.switch.ensures.images has written.fresh holds written.holds (omega (arith, knows.1.number_is, log.in_range)))

pub returns-in-Err-Memory-clause-images : goal.returns-in-Err-Memory-clause-images
returns-in-Err-Memory-clause-images g c has left state holds spelled knows =
    let disk = g.D.SectorDisk in
    let log = c.args.log.now in
    let written = knows.2 in
    images-either disk.is_honest disk.history log has (number_of log) c.args.cut knows.1 written state spelled (disk.history (disk_of log)) (disk.history (disk_of c.switch.new.self)) (disk.size (disk_of log))
    (c.switch.ensures.images has written.fresh holds written.holds (omega (arith, knows.1.number_is, log.in_range)))

pub returns-in-Err-Device-clause-images : goal.returns-in-Err-Device-clause-images
returns-in-Err-Device-clause-images g c has left state holds spelled knows =
    let disk = g.D.SectorDisk in
    let log = c.args.log.now in
    let written = knows.2 in
    images-either disk.is_honest disk.history log has (number_of log) c.args.cut knows.1 written state spelled (disk.history (disk_of log)) (disk.history (disk_of c.switch.new.self)) (disk.size (disk_of log))
    (c.switch.ensures.images has written.fresh holds written.holds (omega (arith, knows.1.number_is, log.in_range)))

pub returns-in-Err-Full-clause-images : goal.returns-in-Err-Full-clause-images
returns-in-Err-Full-clause-images g c has left state holds spelled knows =
    let disk = g.D.SectorDisk in
    let log = c.args.log.now in
    let written = knows.2 in
    images-either disk.is_honest disk.history log has (number_of log) c.args.cut knows.1 written state spelled (disk.history (disk_of log)) (disk.history (disk_of c.switch.new.self)) (disk.size (disk_of log))
    (c.switch.ensures.images has written.fresh holds written.holds (omega (arith, knows.1.number_is, log.in_range)))
