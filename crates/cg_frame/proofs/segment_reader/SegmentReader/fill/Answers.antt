use Rattle.std.proofs.Common.{◌≡◌, length, subst, sym, ap, ◌∙◌}
use Rattle.cg_disk.specs.Disk.{Holds}
use Rattle.cg_frame.proofs.Buffered.{Holds-kept, take-written}
use Rattle.cg_frame.proofs.segment_reader.SegmentReader.fill.Goals as goal

pub returns-in_err-self-clause-buffered : goal.returns-in_err-self-clause-buffered
returns-in_err-self-clause-buffered g c honest image same holds =
    let self = c.args.self.now in
    let new = c.read_piece.new.buffer in
    let long : length new ≡ length self.buffer.items = c.read_piece.auto.buffer ∙ ap length c.deref_mut.ensures.value in
    let kept = Holds-kept image self.segment.first self.filled c.deref_mut.result.now new c.read_piece.ensures.kept (subst (Holds image self.segment.first self.filled) (sym c.deref_mut.ensures.value) holds) in
    subst (Holds image self.segment.first self.filled) (sym (take-written self.buffer.items new self.buffer.len self.buffer.ok.0 long)) kept

pub returns-clause-buffered : goal.returns-clause-buffered
returns-clause-buffered g c honest image same holds =
    let self = c.args.self.now in
    let new = c.read_piece.new.buffer in
    let long : length new ≡ length self.buffer.items = c.read_piece.auto.buffer ∙ ap length c.deref_mut.ensures.value in
    let read = c.in_ok-self.ensures.holds honest image same (subst (Holds image self.segment.first self.filled) (sym c.deref_mut.ensures.value) holds) in
    subst (Holds image self.segment.first c.in_ok-self.field-0) (sym (take-written self.buffer.items new self.buffer.len self.buffer.ok.0 long)) read
