use Rattle.std.proofs.Common.{◌≡◌, ◌+◌, ◌≤◌, min, Err, Ok, sym, ap, subst, ◌∙◌, arith}
use Rattle.std.proofs.lemmas.Result.{err_from_is_err_and}
use Rattle.cg_disk.specs.Disk.{Holds, present}
use Rattle.cg_disk.proofs.Moments.{Stays-content}
use Rattle.cg_frame.specs.Frames.{HeadAt, IsClosed}
use Rattle.cg_frame.specs.Heads.{FindsHead, HasContent}
use Rattle.cg_frame.specs.Reader.{FindsFrame}
use Rattle.cg_frame.proofs.Readers.{FindsFrame-fault, FrameAt-read, Holds-fewer}
use Rattle.cg_frame.proofs.segment_reader.SegmentReader.next.Goals as goal

pub returns-in_err-head-clause-found : goal.returns-in_err-head-clause-found
returns-in_err-head-clause-found g c honest image same holds =
    let mid = c.fill.new.self in
    let m = min (mid.pos + 2) mid.segment.sectors in
    let sectors : mid.segment.sectors ≡ c.args.self.now.segment.sectors = ap (λ s. s.sectors) c.fill.ensures.same_segment in
    let enough : m ≤ mid.filled = omega (arith, c.in_ok-fill.ensures.enough, c.front_end.ensures, c.fill.ensures.same_position, sectors) in
    let front = subst (Holds image mid.segment.first m) (sym c.deref.ensures.value) (Holds-fewer image mid.segment.first mid.filled m mid.buffer.items enough (c.fill.ensures.buffered honest image same holds)) in
    let found = FindsFrame-fault image c.args.self.now mid mid.segment mid.pos c.in_err-head.field-0.0 c.fill.ensures.same_segment c.fill.ensures.same_position (c.in_err-head.ensures.found image front) in
    let p = err_from_is_err_and c.from_residual-in_err-head.result c.from_residual-in_err-head.ensures.1 in
    let is : c.from_residual-in_err-head.result ≡ Err c.in_err-head.field-0.0 = cc (p.1, p.2) in
    subst (FindsFrame image c.args.self.now mid) (sym is) found

pub returns-in_default-clause-found : goal.returns-in_default-clause-found
returns-in_default-clause-found g c honest image same holds =
    let mid = c.fill.new.self in
    let m = min (mid.pos + 2) mid.segment.sectors in
    let sectors : mid.segment.sectors ≡ c.args.self.now.segment.sectors = ap (λ s. s.sectors) c.fill.ensures.same_segment in
    let enough : m ≤ mid.filled = omega (arith, c.in_ok-fill.ensures.enough, c.front_end.ensures, c.fill.ensures.same_position, sectors) in
    let front = subst (Holds image mid.segment.first m) (sym c.deref.ensures.value) (Holds-fewer image mid.segment.first mid.filled m mid.buffer.items enough (c.fill.ensures.buffered honest image same holds)) in
    let closed : IsClosed image (mid.segment.first + mid.pos) = subst (λ o. FindsHead image mid.segment mid.pos (Ok o)) c.in_default.is (c.in_ok-head.ensures.found image front) in
    subst (λ p. IsClosed image (c.args.self.now.segment.first + p)) c.fill.ensures.same_position (subst (λ s. IsClosed image (s.first + mid.pos)) c.fill.ensures.same_segment closed)

pub returns-in_err-fill-2-clause-buffered : goal.returns-in_err-fill-2-clause-buffered
returns-in_err-fill-2-clause-buffered g c honest image same holds =
    let same1 : HasContent (present (g.D.SectorDisk.history c.fill.new.disk)) image = λ s. Stays-content _ _ (c.fill.ensures.time honest) s ∙ same s in
    c.fill-2.ensures.buffered (c.fill.ensures.same_honesty ∙ honest) image same1 (c.fill.ensures.buffered honest image same holds)

pub returns-clause-found : goal.returns-clause-found
returns-clause-found g c honest image same holds =
    let mid = c.fill.new.self in
    let new = c.fill-2.new.self in
    let m = min (mid.pos + 2) mid.segment.sectors in
    let sectors : mid.segment.sectors ≡ c.args.self.now.segment.sectors = ap (λ s. s.sectors) c.fill.ensures.same_segment in
    let enough : m ≤ mid.filled = omega (arith, c.in_ok-fill.ensures.enough, c.front_end.ensures, c.fill.ensures.same_position, sectors) in
    let buffered = c.fill.ensures.buffered honest image same holds in
    let front = subst (Holds image mid.segment.first m) (sym c.deref.ensures.value) (Holds-fewer image mid.segment.first mid.filled m mid.buffer.items enough buffered) in
    let head : HeadAt image mid.segment mid.pos c.in-Some.head.count c.in-Some.head.bytes = subst (λ o. FindsHead image mid.segment mid.pos (Ok o)) c.in-Some.is (c.in_ok-head.ensures.found image front) in
    let same1 : HasContent (present (g.D.SectorDisk.history c.fill.new.disk)) image = λ s. Stays-content _ _ (c.fill.ensures.time honest) s ∙ same s in
    let whole = c.fill-2.ensures.buffered (c.fill.ensures.same_honesty ∙ honest) image same1 buffered in
    FrameAt-read image c.args.self.now.segment mid.segment new.segment c.args.self.now.pos mid.pos new.pos c.in-Some.head.count c.in-Some.head.bytes new.filled new.buffer.items c.fill.ensures.same_segment c.fill-2.ensures.same_segment c.fill.ensures.same_position c.fill-2.ensures.same_position head whole
    (omega (arith, c.in_ok-fill-2.ensures.enough, c.sectors_of.ensures)) (omega (arith, new.filled_inside, new.room))

pub returns-clause-buffered : goal.returns-clause-buffered
returns-clause-buffered g c honest image same holds =
    let same1 : HasContent (present (g.D.SectorDisk.history c.fill.new.disk)) image = λ s. Stays-content _ _ (c.fill.ensures.time honest) s ∙ same s in
    c.fill-2.ensures.buffered (c.fill.ensures.same_honesty ∙ honest) image same1 (c.fill.ensures.buffered honest image same holds)
