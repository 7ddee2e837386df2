use Rattle.std.proofs.Common.{◌≡◌, ◌≢◌, ℕ, ◌+◌, ◌-◌, ◌*◌, ◌≤◌, List, length, take, drop, get_or, Option, Result, Err, Ok, Some, None, refl, sym, subst, ap, ◌∙◌, arith}
use Rattle.std.specs.Prelude.{IfSome}
use Rattle.std.proofs.lemmas.List.{length-take, length-drop}
use Rattle.std.proofs.lemmas.Result.{err_from_is_err_and}
use Rattle.cg_disk.specs.Disk.{Image, Holds}
use Rattle.cg_frame.specs.Frames.{IsFront}
use Rattle.cg_frame.specs.Heads.{FindsHead}
use Rattle.cg_frame.specs.declared.fault.ScanFault.{ScanFault}
use Rattle.cg_frame.specs.declared.fault.ScanFault.TheVariants.{BadLength}
use Rattle.cg_frame.specs.declared.frame_reader.Head.{Head}
use Rattle.cg_frame.specs.declared.segment.Segment.{Segment}
use Rattle.cg_frame.proofs.Buffered.{Holds-part, IsBadFrame-last, IsClosed-buffered}
use Rattle.cg_frame.proofs.Read.{IsClosed-front, IsOpen-front, HeadAt-front, IsFront-frame}
use Rattle.cg_frame.proofs.segment_reader.head_at.Goals as goal

pub returns-then-buffer-gate-eq-OPEN-clause-found : goal.returns-then-buffer-gate-eq-OPEN-clause-found
returns-then-buffer-gate-eq-OPEN-clause-found c image holds =
    let at : c.args.pos * 512 ≡ 512 * c.args.pos = omega arith in
    IsBadFrame-last image c.args.segment c.args.pos _ c.args.buffer.now holds (omega (arith, c.if-pos-segment.true)) c.if-pos-segment.true (ap (λ k. get_or c.args.buffer.now k 0) (sym at) ∙ c.if-buffer-gate-eq-OPEN.true)

pub returns-else-buffer-gate-eq-OPEN-clause-found : goal.returns-else-buffer-gate-eq-OPEN-clause-found
returns-else-buffer-gate-eq-OPEN-clause-found c image holds =
    let at : c.args.pos * 512 ≡ 512 * c.args.pos = omega arith in
    IsClosed-buffered image c.args.segment c.args.pos _ c.args.buffer.now holds (omega (arith, c.if-pos-segment.true)) (λ opened. c.if-buffer-gate-eq-OPEN.false (ap (λ k. get_or c.args.buffer.now k 0) at ∙ opened))

pub returns-in_err-head-clause-found : goal.returns-in_err-head-clause-found
returns-in_err-head-clause-found c image holds =
    let at = c.args.pos * 512 in
    let front = take (at + 1024 - at) (drop at c.args.buffer.now) in
    let more : c.args.pos + 2 ≤ c.args.segment.sectors = omega (arith, c.if-pos-segment.false, c.requires.in_segment) in
    let long : length front ≡ 1024 = simp (length-take, length-drop) (omega (arith, more, c.requires.room)) in
    let part = Holds-part image c.args.segment.first _ c.args.pos 2 at (at + 1024 - at) c.args.buffer.now front holds refl (omega arith) (omega arith) (omega (arith, more)) in
    let told = c.in_err-head.ensures.bad refl in
    let bad : FindsHead image c.args.segment c.args.pos (Err BadLength) = (
      IsOpen-front image c.args.segment c.args.pos front long part told.0,
      λ count payload frame. told.1 count (length payload) (omega (arith, frame.fits, c.requires.small)) (IsFront-frame image c.args.segment c.args.pos front long part count payload frame),
    ) in
    let p = err_from_is_err_and c.from_residual.result c.from_residual.ensures.1 in
    let is : c.from_residual.result ≡ Err BadLength = cc (p.1, p.2, c.in_err-head.ensures.only_bad) in
    subst (FindsHead image c.args.segment c.args.pos) (sym is) bad

found : (image : Image) (segment : Segment) (pos : ℕ) (front : List ℕ) → length front ≡ 1024 → Holds image (segment.first + pos) 2 front → (o : Option Head) → (◌≡◌ {A = Result (Option Head) ScanFault} (Ok o) (Ok None) → get_or front 0 0 ≢ 1) → IfSome o (λ head. IsFront front segment pos head.count head.bytes) → FindsHead image segment pos (Ok o)
found image segment pos front long part None closed head = IsClosed-front image segment pos front long part (closed refl)
found image segment pos front long part (Some h) closed head = HeadAt-front image segment pos front long part h.count h.bytes head

pub returns-clause-found : goal.returns-clause-found
returns-clause-found c image holds =
    let at = c.args.pos * 512 in
    let front = take (at + 1024 - at) (drop at c.args.buffer.now) in
    let more : c.args.pos + 2 ≤ c.args.segment.sectors = omega (arith, c.if-pos-segment.false, c.requires.in_segment) in
    let long : length front ≡ 1024 = simp (length-take, length-drop) (omega (arith, more, c.requires.room)) in
    let part = Holds-part image c.args.segment.first _ c.args.pos 2 at (at + 1024 - at) c.args.buffer.now front holds refl (omega arith) (omega arith) (omega (arith, more)) in
    found image c.args.segment c.args.pos front long part c.in_ok-head.head c.in_ok-head.ensures.closed c.in_ok-head.ensures.head
