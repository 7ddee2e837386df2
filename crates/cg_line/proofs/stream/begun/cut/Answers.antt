use Rattle.std.proofs.Common.{◌+◌, take, drop, sym, ◌∙◌, ap, zero-le}
use Rattle.std.proofs.lemmas.List.{length-drop}
use Rattle.std.proofs.Math.Seq.{take-length}
use Rattle.std.proofs.Math.Numerals.{add-one}
use Rattle.cg_line.proofs.Streams.{cut_at, no_end_all, no_end_take}
use Rattle.cg_line.proofs.stream.begun.cut.Goals as goal

pub returns-in_err-at : goal.returns-in_err-at
returns-in_err-at c = rw c.from_residual.ensures (no_end_all c.args.bytes.now (λ k below. c.in_err-at.ensures k zero-le below))

pub returns : goal.returns
returns c =
    let found = c.in_ok-at.ensures in
    let rest = ap (λ n. take n (drop (c.in_ok-at.at + 1) c.args.bytes.now)) (sym (length-drop (c.in_ok-at.at + 1) c.args.bytes.now)) ∙ take-length (drop (c.in_ok-at.at + 1) c.args.bytes.now) in (
      rw (rest, add-one) (cut_at c.args.bytes.now c.in_ok-at.at found.0.high found.1),
      no_end_take c.args.bytes.now c.in_ok-at.at found.0.high (λ k less. found.0.before k zero-le less),
    )
