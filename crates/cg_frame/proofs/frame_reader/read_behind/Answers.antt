use Rattle.std.proofs.Common.{◌≡◌, ◌-◌, length, take, drop, ap, sym, ◌∙◌, arith}
use Rattle.std.proofs.lemmas.Slice.{take-put_mid_below}
use Rattle.std.proofs.lemmas.List.{length-take, length-drop}
use Rattle.cg_disk.specs.Disk.{sector}
use Rattle.cg_frame.proofs.Parts.{drop-put_mid_end}
use Rattle.cg_frame.proofs.frame_reader.read_behind.Goals as goal

pub returns-in_err-read-clause-start : goal.returns-in_err-read-clause-start
returns-in_err-read-clause-start g c = take-put_mid_below 496 (length c.args.buffer.now - 496) c.args.buffer.now c.read.new.bytes 496 (omega arith) (omega arith)

pub returns-in_ok-read-clause-start : goal.returns-in_ok-read-clause-start
returns-in_ok-read-clause-start g c = take-put_mid_below 496 (length c.args.buffer.now - 496) c.args.buffer.now c.read.new.bytes 496 (omega arith) (omega arith)

pub returns-in_ok-read-clause-behind : goal.returns-in_ok-read-clause-behind
returns-in_ok-read-clause-behind g c honest i lt =
    let buffer = c.args.buffer.now in
    let part : length (take (length buffer - 496) (drop 496 buffer)) ≡ length buffer - 496 = simp (length-take, length-drop) (omega arith) in
    let long : length c.read.new.bytes ≡ length buffer - 496 = c.read.auto.bytes ∙ part in
    c.in_ok-read.ensures.bytes honest i (omega arith) ∙ ap (λ l. sector l i) (sym (drop-put_mid_end buffer c.read.new.bytes 496 c.requires.start long))
