use Rattle.std.proofs.Common.{◌≡◌, ◌≤◌, ◌*◌, ◌-◌, length, take, drop, ◌∙◌, arith}
use Rattle.std.proofs.lemmas.List.{length-take, length-drop}
use Rattle.cg_disk.specs.Disk.{present}
use Rattle.cg_frame.proofs.Buffered.{Holds-read}
use Rattle.cg_frame.proofs.segment_reader.read_piece.Goals as goal

pub returns-clause-holds : goal.returns-clause-holds
returns-clause-holds g c honest image same holds =
    let filled = c.args.filled in
    let end = c.piece_end-end.result in
    let buffer = c.args.buffer.now in
    let le : filled ≤ end = c.piece_end-end.ensures.more in
    let few : end ≤ c.args.segment.sectors = c.piece_end-end.ensures.inside in
    let part : length (take (end * 512 - filled * 512) (drop (filled * 512) buffer)) ≡ 512 * (end - filled) = simp (length-take, length-drop) (omega (arith, le, few, c.requires.room)) in
    let long : length c.read.new.bytes ≡ 512 * (end - filled) = c.read.auto.bytes ∙ part in
    Holds-read image (present (g.D.SectorDisk.history c.args.disk.now)).content c.args.segment.first filled end (filled * 512) (end * 512 - filled * 512) buffer c.read.new.bytes same holds
    (λ i lt. c.in_ok-read.ensures.bytes honest i (omega (arith, part, lt))) (omega arith) (omega (arith, long, le)) long (omega (arith, few, c.requires.room)) le
