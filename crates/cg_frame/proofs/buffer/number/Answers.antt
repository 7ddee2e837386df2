use Rattle.std.proofs.Common.{◌≡◌, take, drop, ap, ◌∙◌, arith}
use Rattle.std.specs.Int.{from_be_bytes, w64}
use Rattle.std.proofs.lemmas.Nat.{be_bytes_8}
use Rattle.std.proofs.lemmas.List.{length-take, length-drop}
use Rattle.cg_frame.specs.Frames.{word}
use Rattle.cg_frame.proofs.Words.{part_below}
use Rattle.cg_frame.proofs.buffer.number.Goals as goal

pub returns : goal.returns
unfolding word
returns c =
    let eight = take 8 (drop c.args.at c.args.bytes.now) in
    let got : c.copy_from_slice.new.self ≡ eight = grind (arith, c.copy_from_slice.ensures.after) in
    be_bytes_8 eight c.from_be_bytes.result (simp (length-take, length-drop) (omega arith)) (λ i. part_below c.args.bytes.now 8 c.args.at i (λ j. omega (arith, c.type_inv.bytes j))) (c.from_be_bytes.ensures ∙ ap (from_be_bytes w64) got)
