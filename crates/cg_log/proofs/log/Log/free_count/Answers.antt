use Rattle.std.proofs.Common.{ap, arith}
use Rattle.cg_gate.specs.Layout.{segment_count}
use Rattle.cg_root.proofs.Segments.{segment_count-le}
use Rattle.cg_log.proofs.Taken.{free_and_taken}
use Rattle.cg_log.proofs.log.Log.free_count.Goals as goal

pub overflow_add-taken : goal.overflow_add-taken
overflow_add-taken g c =
    let log = c.args.self.now in
    let sectors = g.D.SectorDisk.size log.disk in
    omega (arith, c.len.ensures, c.len-2.ensures, free_and_taken sectors log.root.base log.root.tail log.fresh.items log.taken, segment_count-le sectors)

pub overflow_add-taken-2 : goal.overflow_add-taken-2
overflow_add-taken-2 g c =
    let log = c.args.self.now in
    let sectors = g.D.SectorDisk.size log.disk in
    omega (arith, c.len.ensures, c.len-2.ensures, c.len-3.ensures, free_and_taken sectors log.root.base log.root.tail log.fresh.items log.taken, segment_count-le sectors)

pub overflow_sub-result : goal.overflow_sub-result
overflow_sub-result g c =
    let log = c.args.self.now in
    let sectors = g.D.SectorDisk.size log.disk in
    omega (arith, c.len.ensures, c.len-2.ensures, c.len-3.ensures, ap segment_count c.sectors.ensures, c.segment_count.ensures, free_and_taken sectors log.root.base log.root.tail log.fresh.items log.taken)

pub returns : goal.returns
returns g c =
    let log = c.args.self.now in
    let sectors = g.D.SectorDisk.size log.disk in
    omega (arith, c.len.ensures, c.len-2.ensures, c.len-3.ensures, ap segment_count c.sectors.ensures, c.segment_count.ensures, free_and_taken sectors log.root.base log.root.tail log.fresh.items log.taken)
