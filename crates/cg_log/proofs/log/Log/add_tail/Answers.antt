use Rattle.std.proofs.Common.{◌∙◌, sym}
use Rattle.cg_disk.specs.Disk.{present}
use Rattle.cg_log.proofs.Moves.{HoldsContent-rolled, roll-images}
use Rattle.cg_gate.specs.Layout.{segment_count}
use Rattle.cg_root.specs.Roots.{root_ids}
use Rattle.cg_log.proofs.Ids.{is_among-back, is_among-front}
use Rattle.cg_log.proofs.Taken.{taken-rolled}
use Rattle.cg_log.proofs.log.Log.add_tail.Goals as goal

pub returns-in-Ok-clause-stored : goal.returns-in-Ok-clause-stored
returns-in-Ok-clause-stored g c has log =
    let self = c.args.self.now in
    let h0 = g.D.SectorDisk.history self.disk in
    let h1 = g.D.SectorDisk.history c.publish_tail.new.disk in
    let size = g.D.SectorDisk.size self.disk in
    let holds = HoldsContent-rolled (present h0) (present h1) size self.root c.args.tail.root self.end self.number has c.args.tail.id c.requires.next.more log.holds (c.in-Ok.ensures.stored log.is_honest has log.holds.keeps) in
    record {
      is_honest = c.publish_tail.ensures.same_honesty ∙ log.is_honest;
      holds = rw c.publish_tail.ensures.same_size holds;
    }

pub returns-in-Ok-clause-images : goal.returns-in-Ok-clause-images
returns-in-Ok-clause-images g c has log =
    let self = c.args.self.now in
    roll-images (g.D.SectorDisk.history self.disk) (g.D.SectorDisk.history c.publish_tail.new.disk) (g.D.SectorDisk.size self.disk) self.root self.end self.number has self.in_range log.holds c.args.tail.root c.args.tail.id c.requires.next.more (c.publish_tail.ensures.images log.is_honest has log.holds.keeps)

pub returns-in-Err-Device-clause-images : goal.returns-in-Err-Device-clause-images
returns-in-Err-Device-clause-images g c has log =
    let self = c.args.self.now in
    roll-images (g.D.SectorDisk.history self.disk) (g.D.SectorDisk.history c.publish_tail.new.disk) (g.D.SectorDisk.size self.disk) self.root self.end self.number has self.in_range log.holds c.args.tail.root c.args.tail.id c.requires.next.more (c.publish_tail.ensures.images log.is_honest has log.holds.keeps)

pub publish_tail-requires-clause-free : goal.publish_tail-requires-clause-free
publish_tail-requires-clause-free g c =
    let self = c.args.self.now in
    is_among-front c.args.tail.id (root_ids self.root) self.fresh.items c.requires.next.free.free

pub returns-in-Ok-clause-fresh : goal.returns-in-Ok-clause-fresh
returns-in-Ok-clause-fresh g c fresh has =
    let self = c.args.self.now in
    let none = is_among-back c.args.tail.id (root_ids self.root) self.fresh.items c.requires.next.free.free in
    record {
      is_honest = c.publish_tail.ensures.same_honesty ∙ has.is_honest;
      holds = (c.publish_tail.ensures.fresh has.is_honest self.fresh.items none).holds self.fresh_end fresh has.holds;
    }

pub returns-in-Err-Device-clause-fresh : goal.returns-in-Err-Device-clause-fresh
returns-in-Err-Device-clause-fresh g c fresh has =
    let self = c.args.self.now in
    let none = is_among-back c.args.tail.id (root_ids self.root) self.fresh.items c.requires.next.free.free in
    record {
      is_honest = c.publish_tail.ensures.same_honesty ∙ has.is_honest;
      holds = (c.publish_tail.ensures.fresh has.is_honest self.fresh.items none).holds self.fresh_end fresh has.holds;
    }

pub invariant_of-self-clause-fresh_ready : goal.invariant_of-self-clause-fresh_ready
invariant_of-self-clause-fresh_ready g c serves honest =
    let self = c.args.self.now in
    let none = is_among-back c.args.tail.id (root_ids self.root) self.fresh.items c.requires.next.free.free in
    let honest0 = sym c.publish_tail.ensures.same_honesty ∙ honest in
    (c.publish_tail.ensures.fresh honest0 self.fresh.items none).ready self.fresh_end self.fresh_inside (self.fresh_ready serves honest0)

pub invariant_of-self-clause-taken : goal.invariant_of-self-clause-taken
invariant_of-self-clause-taken g c =
    let self = c.args.self.now in
    rw c.publish_tail.ensures.same_size
    (taken-rolled (segment_count (g.D.SectorDisk.size self.disk)) self.root self.fresh.items self.taken c.args.tail.root c.args.tail.id c.requires.next.more c.requires.next.free.below c.requires.next.free.free)
