use Rattle.cg_log.specs.Carried.{rolled, tails}
use Rattle.cg_log.specs.Log.{disk_of, number_of}
use Rattle.cg_log.specs.Segments.{frames_of}
use Rattle.cg_log.proofs.Moves.{before-images, still-append-images, then-images}
use Rattle.cg_log.proofs.log.Log.put_in_new_tail.Goals as goal

pub returns-in_err-tail-clause-images : goal.returns-in_err-tail-clause-images
returns-in_err-tail-clause-images g c has log =
    let self = c.args.self.now in
    still-append-images (g.D.SectorDisk.history self.disk) (g.D.SectorDisk.size self.disk) self.root self.end self.number has c.args.frame.now.0 c.args.frame.now.1 self.in_range log.holds

pub returns-in_err-add_tail-clause-images : goal.returns-in_err-add_tail-clause-images
returns-in_err-add_tail-clause-images g c has log =
    let self = c.args.self.now in
    before-images (g.D.SectorDisk.history self.disk) _ (g.D.SectorDisk.size self.disk) self.number c.args.frame.now.0 (frames_of has.base) (frames_of (tails has)) c.args.frame.now.1 (c.add_tail.ensures.images has (record { is_honest = log.is_honest; holds = log.holds }))

pub returns-in_err-put-clause-images : goal.returns-in_err-put-clause-images
returns-in_err-put-clause-images g c has log =
    let self = c.args.self.now in
    let h0 = g.D.SectorDisk.history self.disk in
    let mid = c.add_tail.new.self in
    let h1 = g.D.SectorDisk.history (disk_of mid) in
    let h2 = g.D.SectorDisk.history (disk_of c.put.new.self) in
    let id = c.in_ok-add_tail.field-0 in
    let stored = c.in_ok-add_tail.ensures.stored has (record { is_honest = log.is_honest; holds = log.holds }) in
    let run = c.put.ensures.images (rolled has id) stored in
    then-images h0 h1 h2 (g.D.SectorDisk.size self.disk) (g.D.SectorDisk.size (disk_of mid)) self.number (number_of mid) c.args.frame.now.0 c.args.frame.now.1 has id c.add_tail.ensures.same_size c.add_tail.ensures.number (c.add_tail.ensures.images has (record { is_honest = log.is_honest; holds = log.holds })) run

pub returns-clause-images : goal.returns-clause-images
returns-clause-images g c has log =
    let self = c.args.self.now in
    let h0 = g.D.SectorDisk.history self.disk in
    let mid = c.add_tail.new.self in
    let h1 = g.D.SectorDisk.history (disk_of mid) in
    let h2 = g.D.SectorDisk.history (disk_of c.put.new.self) in
    let id = c.in_ok-add_tail.field-0 in
    let stored = c.in_ok-add_tail.ensures.stored has (record { is_honest = log.is_honest; holds = log.holds }) in
    let run = c.put.ensures.images (rolled has id) stored in
    then-images h0 h1 h2 (g.D.SectorDisk.size self.disk) (g.D.SectorDisk.size (disk_of mid)) self.number (number_of mid) c.args.frame.now.0 c.args.frame.now.1 has id c.add_tail.ensures.same_size c.add_tail.ensures.number (c.add_tail.ensures.images has (record { is_honest = log.is_honest; holds = log.holds })) run

pub returns-clause-stored : goal.returns-clause-stored
returns-clause-stored g c has log =
    let id = c.in_ok-add_tail.field-0 in
    (id, c.in_ok-put.ensures.stored (rolled has id) (c.in_ok-add_tail.ensures.stored has (record { is_honest = log.is_honest; holds = log.holds })))
