use Rattle.cg_disk.specs.Disk.{present}
use Rattle.cg_frame.specs.Reader.{position_of}
use Rattle.cg_log.proofs.Images.{carried-opened}
use Rattle.cg_log.proofs.Whole.{HoldsContent-whole, IsReady-whole, content-whole}
use Rattle.std.proofs.Common.{◌++◌, ℕ, List, ap, sym, ◌∙◌, subst}
use Rattle.std.proofs.lemmas.List.{append-nil}
use Rattle.cg_gate.specs.Layout.{segment_count}
use Rattle.cg_root.specs.Roots.{AreSegments, root_ids}
use Rattle.cg_log.proofs.opening.Opening.finish.Goals as goal

pub invariant_of-result-clause-taken : goal.invariant_of-result-clause-taken
invariant_of-result-clause-taken g c =
    let self = c.args.self in
    subst (AreSegments (segment_count (g.D.SectorDisk.size self.disk)))
    (sym (append-nil (root_ids self.root)) ∙ ap (λ (f : List ℕ). root_ids self.root ++ f) (sym c.new.ensures.items)) self.lawful.ids

pub invariant_of-result-clause-ready : goal.invariant_of-result-clause-ready
invariant_of-result-clause-ready g c _ honest =
    let self = c.args.self in
    let m = present (g.D.SectorDisk.history self.disk) in
    let found = c.requires.read honest in
    let has = found.1.1 in
    let ended = has.closed c.requires.at_end in
    IsReady-whole m (g.D.SectorDisk.size self.disk) found.0 self.root self.segment (position_of self.reader) self.number c.position-end.result found.1.0 has.content has.synced has.counting self.lawful.tail ended.0 has.so_far ended.1 c.position-end.ensures.position self.is_other_open has.other

pub returns-clause-stored : goal.returns-clause-stored
returns-clause-stored g c honest =
    let self = c.args.self in
    let m = present (g.D.SectorDisk.history self.disk) in
    let found = c.requires.read honest in
    let has = found.1.1 in
    let ended = has.closed c.requires.at_end in (
      content-whole m (g.D.SectorDisk.size self.disk) found.0 self.root self.segment (position_of self.reader) self.number c.position-end.result found.1.0 has.content has.synced has.counting self.lawful.tail ended.0 has.so_far ended.1 c.position-end.ensures.position,
      record {
        is_honest = honest;
        holds = HoldsContent-whole m (g.D.SectorDisk.size self.disk) found.0 self.root self.segment (position_of self.reader) self.number c.position-end.result found.1.0 has.content has.synced has.counting self.lawful.tail ended.0 has.so_far ended.1 c.position-end.ensures.position;
      },
    )

pub returns-clause-carried : goal.returns-clause-carried
returns-clause-carried g c image read has n base tail carries =
    let self = c.args.self in
    let m = present (g.D.SectorDisk.history self.disk) in
    let size = g.D.SectorDisk.size self.disk in
    let end = c.position-end.result in
    let ended = has.closed c.requires.at_end in
    let holds = HoldsContent-whole m size image self.root self.segment (position_of self.reader) self.number end read has.content has.synced has.counting self.lawful.tail ended.0 has.so_far ended.1 c.position-end.ensures.position in
    carried-opened m image size self.root end self.number _ has.content self.in_range holds n base tail carries
