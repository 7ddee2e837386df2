use Rattle.std.proofs.Common.{◌+◌, ◌≤◌, ◌∙◌, sym}
use Rattle.cg_log.specs.declared.numbers.TheConstants.{COMMAND_NUMBER_MAX}
use Rattle.cg_log.proofs.Moves.{put-images}
use Rattle.cg_gate.specs.Layout.{segment_count}
use Rattle.cg_log.proofs.Taken.{fresh-not_last}
use Rattle.cg_log.proofs.log.Log.put.Goals as goal

pub returns-in-Ok-clause-stored : goal.returns-in-Ok-clause-stored
returns-in-Ok-clause-stored g c has log =
    let self = c.args.self.now in
    let holds = c.in-Ok.ensures.stored log.is_honest has self.number log.holds in
    record {
      is_honest = c.append_last.ensures.same_honesty ∙ log.is_honest;
      holds = rw (c.append_last.ensures.same_size, c.count.ensures) holds;
    }

pub returns-in-Ok-clause-images : goal.returns-in-Ok-clause-images
returns-in-Ok-clause-images g c has log =
    let self = c.args.self.now in
    let few : self.number + c.args.frame.now.0 ≤ COMMAND_NUMBER_MAX = c.requires.few in
    put-images (g.D.SectorDisk.history self.disk) (g.D.SectorDisk.history c.append_last.new.disk) (g.D.SectorDisk.size self.disk) self.root self.end self.number has self.in_range log.holds c.args.frame.now.0 c.args.frame.now.1 few (c.append_last.ensures.images log.is_honest has self.number log.holds)

pub returns-in-Err-Device-clause-images : goal.returns-in-Err-Device-clause-images
returns-in-Err-Device-clause-images g c has log =
    let self = c.args.self.now in
    let few : self.number + c.args.frame.now.0 ≤ COMMAND_NUMBER_MAX = c.requires.few in
    put-images (g.D.SectorDisk.history self.disk) (g.D.SectorDisk.history c.append_last.new.disk) (g.D.SectorDisk.size self.disk) self.root self.end self.number has self.in_range log.holds c.args.frame.now.0 c.args.frame.now.1 few (c.append_last.ensures.images log.is_honest has self.number log.holds)

pub invariant_of-self-clause-ready : goal.invariant_of-self-clause-ready
invariant_of-self-clause-ready g c serves honest =
    let self = c.args.self.now in
    let honest0 = sym c.append_last.ensures.same_honesty ∙ honest in
    rw c.append_last.ensures.same_size (c.in-Ok.ensures.ready honest0 self.is_other_open (self.ready serves honest0))

pub returns-in-Ok-clause-fresh : goal.returns-in-Ok-clause-fresh
returns-in-Ok-clause-fresh g c fresh has =
    let self = c.args.self.now in
    let none = fresh-not_last (segment_count (g.D.SectorDisk.size self.disk)) self.root self.fresh.items self.taken self.lawful.tail in
    record {
      is_honest = c.append_last.ensures.same_honesty ∙ has.is_honest;
      holds = (c.append_last.ensures.fresh has.is_honest self.fresh.items none).holds self.fresh_end fresh has.holds;
    }

pub returns-in-Err-Device-clause-fresh : goal.returns-in-Err-Device-clause-fresh
returns-in-Err-Device-clause-fresh g c fresh has =
    let self = c.args.self.now in
    let none = fresh-not_last (segment_count (g.D.SectorDisk.size self.disk)) self.root self.fresh.items self.taken self.lawful.tail in
    record {
      is_honest = c.append_last.ensures.same_honesty ∙ has.is_honest;
      holds = (c.append_last.ensures.fresh has.is_honest self.fresh.items none).holds self.fresh_end fresh has.holds;
    }

pub invariant_of-self-clause-fresh_ready : goal.invariant_of-self-clause-fresh_ready
invariant_of-self-clause-fresh_ready g c serves honest =
    let self = c.args.self.now in
    let none = fresh-not_last (segment_count (g.D.SectorDisk.size self.disk)) self.root self.fresh.items self.taken self.lawful.tail in
    let honest0 = sym c.append_last.ensures.same_honesty ∙ honest in
    (c.append_last.ensures.fresh honest0 self.fresh.items none).ready self.fresh_end self.fresh_inside (self.fresh_ready serves honest0)
