use Rattle.std.proofs.Common.{◌≡◌, ◌-◌, length, drop, take, ap, sym, ◌∙◌, arith}
use Rattle.std.proofs.lemmas.List.{length-drop}
use Rattle.cg_disk.specs.Disk.{present, span}
use Rattle.cg_disk.proofs.Moments.{span-holds}
use Rattle.cg_frame.specs.Frames.{body_sectors}
use Rattle.cg_frame.proofs.Parts.{take-buffer}
use Rattle.cg_frame.proofs.frame_reader.read_payload.Goals as goal

pub returns-clause-payload : goal.returns-clause-payload
returns-clause-payload g c honest =
    let items = c.in_ok-buffer.buffer.items in
    let read = c.read_behind.new.buffer in
    let content = (present (g.D.SectorDisk.history c.args.disk.now)).content in
    let k = body_sectors c.args.bytes - 1 in
    let long : length read ≡ length items = c.read_behind.auto.buffer ∙ ap length c.deref_mut.ensures.value in
    let shown : length c.deref_mut.result.now ≡ length items = ap length c.deref_mut.ensures.value in
    let size = c.in_ok-buffer.ensures.length in
    let front : take 496 read ≡ c.args.start.now = c.read_behind.ensures.start ∙ ap (take 496) c.deref_mut.ensures.value ∙ c.in_ok-buffer.ensures.start in
    let behind : drop 496 read ≡ span content c.args.at k =
    sym (span-holds content c.args.at k (drop 496 read) (simp length-drop (omega arith)) (λ i lt. c.in_ok-read_behind.ensures.behind honest i (omega arith))) in
    c.truncate.ensures.items ∙ take-buffer items read c.args.start.now (span content c.args.at k) c.in_ok-buffer.buffer.len c.args.bytes c.in_ok-buffer.buffer.ok.0 long (omega arith) front behind
