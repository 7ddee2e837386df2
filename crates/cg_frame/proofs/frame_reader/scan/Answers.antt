use Rattle.std.proofs.Common.{◌≡◌, ℕ, ◌+◌, ◌-◌, List, ◌++◌, length, take, drop, Ok, refl, ap, ◌∙◌, arith, rules}
use Rattle.cg_disk.specs.Disk.{present, span, Holds}
use Rattle.std.proofs.lemmas.List.{length-drop, take_all}
use Rattle.cg_disk.proofs.Moments.{span-stays}
use Rattle.cg_frame.specs.Frames.{IsFront, body_sectors}
use Rattle.cg_frame.proofs.Read.{IsClosed-front, IsOpen-front, HeadAt-front, IsFront-frame, FrameAt-front}
use Rattle.cg_frame.proofs.frame_reader.scan.Goals as goal

pub returns-in_err-head-clause-bad : goal.returns-in_err-head-clause-bad
returns-in_err-head-clause-bad g c honest bad =
    let content = (present (g.D.SectorDisk.history c.args.disk.now)).content in
    let front = c.read.new.bytes in
    let long : length front ≡ 1024 = c.read.auto.bytes in
    let holds : Holds content (c.args.segment.first + c.args.pos) 2 front = c.in_ok-read.ensures.bytes honest in
    let told = c.in_err-head.ensures.bad refl in (
      IsOpen-front content c.args.segment c.args.pos front long holds told.0,
      λ count payload frame. told.1 count (length payload) (omega (arith, frame.fits, c.requires.small)) (IsFront-frame content c.args.segment c.args.pos front long holds count payload frame),
    )

pub returns-in_default-clause-none : goal.returns-in_default-clause-none
returns-in_default-clause-none g c honest none =
    let content = (present (g.D.SectorDisk.history c.args.disk.now)).content in
    let front = c.read.new.bytes in
    let long : length front ≡ 1024 = c.read.auto.bytes in
    let holds : Holds content (c.args.segment.first + c.args.pos) 2 front = c.in_ok-read.ensures.bytes honest in
    IsClosed-front content c.args.segment c.args.pos front long holds (c.in_ok-head.ensures.closed (ap Ok c.in_default.is))

pub returns-in_err-payload-clause-memory : goal.returns-in_err-payload-clause-memory
returns-in_err-payload-clause-memory g c honest memory =
    let content = (present (g.D.SectorDisk.history c.args.disk.now)).content in
    let front = c.read.new.bytes in
    let long : length front ≡ 1024 = c.read.auto.bytes in
    let holds : Holds content (c.args.segment.first + c.args.pos) 2 front = c.in_ok-read.ensures.bytes honest in
    let told : IsFront front c.args.segment c.args.pos c.in-Some.head.count c.in-Some.head.bytes = search rules in
    (c.in-Some.head.count, (c.in-Some.head.bytes, HeadAt-front content c.args.segment c.args.pos front long holds _ _ told))

pub returns-clause-frame : goal.returns-clause-frame
returns-clause-frame g c honest =
    let content = (present (g.D.SectorDisk.history c.args.disk.now)).content in
    let front = c.read.new.bytes in
    let long : length front ≡ 1024 = c.read.auto.bytes in
    let holds : Holds content (c.args.segment.first + c.args.pos) 2 front = c.in_ok-read.ensures.bytes honest in
    let told : IsFront front c.args.segment c.args.pos c.in-Some.head.count c.in-Some.head.bytes = search rules in
    let n = c.in-Some.head.bytes in
    let at = c.args.segment.first + c.args.pos + 2 in
    let k = body_sectors n - 1 in
    let cut : c.in_ok-payload.payload.items ≡ take n (take 496 (drop 528 front) ++ span (present (g.D.SectorDisk.history c.read.new.self)).content at k) = c.in_ok-payload.ensures.payload (c.read.ensures.same_honesty ∙ honest) in
    let start : take 496 (drop 528 front) ≡ drop 528 front = take_all 496 (drop 528 front) (simp length-drop (omega arith)) in
    let rest : span (present (g.D.SectorDisk.history c.read.new.self)).content at k ≡ span content at k = span-stays _ _ at k (c.read.ensures.time honest) in
    FrameAt-front content c.args.segment c.args.pos front long holds c.in-Some.head.count n c.in_ok-payload.payload.items told c.in_ok-payload.ensures.length (cut ∙ ap (take n) (ap (λ (l : List ℕ). l ++ span (present (g.D.SectorDisk.history c.read.new.self)).content at k) start ∙ ap (λ (l : List ℕ). drop 528 front ++ l) rest))
