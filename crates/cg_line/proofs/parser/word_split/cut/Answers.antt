use Rattle.std.proofs.Common.{◌+◌, take, drop, sym, ◌∙◌, ap, zero-le}
use Rattle.std.proofs.lemmas.List.{length-drop}
use Rattle.std.proofs.Math.Seq.{take-length}
use Rattle.std.proofs.Math.Numerals.{add-one}
use Rattle.cg_line.proofs.Cutting.{before-none, behind-none, before-at, behind-at, IsFirstAt}
use Rattle.cg_line.proofs.parser.word_split.cut.Goals as goal

pub returns-in_err-at : goal.returns-in_err-at
returns-in_err-at c =
    rw c.from_residual.ensures (
      before-none c.args.mark c.args.text.now (λ k below. c.in_err-at.ensures k zero-le below),
      behind-none c.args.mark c.args.text.now (λ k below. c.in_err-at.ensures k zero-le below),
    )

pub returns : goal.returns
returns c =
    let found = c.in_ok-at.ensures in
    let rest = ap (λ n. take n (drop (c.in_ok-at.at + 1) c.args.text.now)) (sym (length-drop (c.in_ok-at.at + 1) c.args.text.now)) ∙ take-length (drop (c.in_ok-at.at + 1) c.args.text.now) in
    let at : IsFirstAt c.args.mark c.args.text.now c.in_ok-at.at = record { within = found.0.high; none_before = λ i less is. found.0.before i zero-le less is; here = found.1 } in
    (before-at c.args.mark c.args.text.now c.in_ok-at.at at, rw (rest, add-one) (behind-at c.args.mark c.args.text.now c.in_ok-at.at at))
