use Rattle.std.proofs.Common.{[]}
use Rattle.cg_log.specs.Carried.{tails}
use Rattle.cg_disk.specs.Disk.{present}
use Rattle.cg_log.specs.Fresh.{HoldsFresh}
use Rattle.cg_log.specs.Log.{disk_of, number_of}
use Rattle.cg_log.specs.Segments.{frames_of}
use Rattle.cg_log.proofs.Kept.{then-kept}
use Rattle.cg_log.proofs.Moves.{still-images}
use Rattle.cg_log.proofs.log.Log.put_in_new_fresh.Goals as goal

pub returns-in_default-clause-images : goal.returns-in_default-clause-images
returns-in_default-clause-images g c has log =
    let self = c.args.self.now in
    still-images (g.D.SectorDisk.history self.disk) (g.D.SectorDisk.size self.disk) self.root self.end self.number has self.in_range log.holds

pub returns-in_err-reserve-clause-images : goal.returns-in_err-reserve-clause-images
returns-in_err-reserve-clause-images g c has log =
    let self = c.args.self.now in
    still-images (g.D.SectorDisk.history self.disk) (g.D.SectorDisk.size self.disk) self.root self.end self.number has self.in_range log.holds

pub returns-in_err-put_fresh-clause-images : goal.returns-in_err-put_fresh-clause-images
returns-in_err-put_fresh-clause-images g c has log =
    let self = c.args.self.now in
    let mid = c.begin_fresh.new.self in
    then-kept (g.D.SectorDisk.history self.disk) (g.D.SectorDisk.history (disk_of mid)) (g.D.SectorDisk.history (disk_of c.put_fresh.new.self)) (g.D.SectorDisk.size self.disk) (g.D.SectorDisk.size (disk_of mid)) self.number (number_of mid) (frames_of has.base) (frames_of (tails has)) c.begin_fresh.ensures.same_size c.begin_fresh.ensures.same_number
    (c.begin_fresh.ensures.images has (record { is_honest = log.is_honest; holds = log.holds }))
    (c.put_fresh.ensures.images has (c.begin_fresh.ensures.stored has (record { is_honest = log.is_honest; holds = log.holds })))

pub returns-clause-images : goal.returns-clause-images
returns-clause-images g c has log =
    let self = c.args.self.now in
    let mid = c.begin_fresh.new.self in
    then-kept (g.D.SectorDisk.history self.disk) (g.D.SectorDisk.history (disk_of mid)) (g.D.SectorDisk.history (disk_of c.put_fresh.new.self)) (g.D.SectorDisk.size self.disk) (g.D.SectorDisk.size (disk_of mid)) self.number (number_of mid) (frames_of has.base) (frames_of (tails has)) c.begin_fresh.ensures.same_size c.begin_fresh.ensures.same_number
    (c.begin_fresh.ensures.images has (record { is_honest = log.is_honest; holds = log.holds }))
    (c.put_fresh.ensures.images has (c.begin_fresh.ensures.stored has (record { is_honest = log.is_honest; holds = log.holds })))

pub returns-clause-fresh : goal.returns-clause-fresh
returns-clause-fresh g c fresh has =
    let self = c.args.self.now in
    let id = c.in-Some.id in
    let m = present (g.D.SectorDisk.history self.disk) in
    let reserved : HoldsFresh m c.reserve.new.self.items self.fresh_end fresh = rw c.reserve.ensures.items has.holds in
    let put = c.in_ok-put_fresh.ensures.fresh fresh id [] (c.in_ok-begin_fresh.ensures.fresh fresh (record { is_honest = has.is_honest; holds = reserved })) in
    (id, put)
