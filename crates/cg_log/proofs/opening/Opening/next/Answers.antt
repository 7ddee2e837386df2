use Rattle.cg_frame.specs.Reader.{position_of}
use Rattle.cg_log.proofs.Next.{Carries-read}
use Rattle.cg_log.proofs.ReadTo.{read-first}
use Rattle.cg_log.proofs.opening.Opening.next.Goals as goal

pub returns-then-self-2-clause-all : goal.returns-then-self-2-clause-all
returns-then-self-2-clause-all g c image read has _ =
    let self = c.args.self.now in
    let ended = has.closed c.if-self-2.true in
    (has, Carries-read image (g.D.SectorDisk.size self.disk) self.root self.segment (position_of self.reader) self.number read has.counting self.lawful.tail ended.0 has.so_far ended.1 self.in_range)

pub returns-then-self-2-clause-front : goal.returns-then-self-2-clause-front
returns-then-self-2-clause-front g c image read has n base tail carries =
    let self = c.args.self.now in
    read-first image (g.D.SectorDisk.size self.disk) self.root has.counting self.segment (position_of self.reader) self.number read self.inside has.so_far n base tail carries

pub returns-in-Ok-clause-frame : goal.returns-in-Ok-clause-frame
returns-in-Ok-clause-frame g c image read has = c.in-Ok.ensures.frame image read has c.if-self-2.false

pub returns-in-Ok-clause-all : goal.returns-in-Ok-clause-all
returns-in-Ok-clause-all g c image read has none =
    let self = c.read_next.new.self in
    let now = c.in-Ok.ensures.all image read has none in
    let ended = now.closed (c.in-Ok.ensures.at_end none) in
    (now, Carries-read image (g.D.SectorDisk.size self.disk) self.root self.segment (position_of self.reader) self.number read now.counting self.lawful.tail ended.0 now.so_far ended.1 self.in_range)

pub returns-in-Ok-clause-front : goal.returns-in-Ok-clause-front
returns-in-Ok-clause-front g c image read has n base tail carries =
    let self = c.args.self.now in
    read-first image (g.D.SectorDisk.size self.disk) self.root has.counting self.segment (position_of self.reader) self.number read self.inside has.so_far n base tail carries

pub returns-in-Err-clause-tells : goal.returns-in-Err-clause-tells
returns-in-Err-clause-tells g c image read has = c.in-Err.ensures.tells image read has c.if-self-2.false

pub returns-in-Err-clause-front : goal.returns-in-Err-clause-front
returns-in-Err-clause-front g c image read has n base tail carries =
    let self = c.args.self.now in
    read-first image (g.D.SectorDisk.size self.disk) self.root has.counting self.segment (position_of self.reader) self.number read self.inside has.so_far n base tail carries
