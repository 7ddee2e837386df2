use Rattle.std.proofs.Common.{◌+◌, take, drop, sym, ◌∙◌, ap, zero-le}
use Rattle.std.proofs.lemmas.List.{length-drop}
use Rattle.std.proofs.Math.Seq.{take-length}
use Rattle.std.proofs.Math.Numerals.{add-one}
use Rattle.cg_line.proofs.Cutting.{words_of-none, words_of-at, IsFirstAt}
use Rattle.cg_line.proofs.parser.word_split.first_word.Goals as goal

pub returns-in_err-at-clause-words : goal.returns-in_err-at-clause-words
returns-in_err-at-clause-words c =
    rw c.from_residual.ensures (words_of-none c.args.text.now (λ k below. c.in_err-at.ensures k zero-le below))

pub returns-clause-words : goal.returns-clause-words
returns-clause-words c =
    let found = c.in_ok-at.ensures in
    let rest = ap (λ n. take n (drop (c.in_ok-at.at + 1) c.args.text.now)) (sym (length-drop (c.in_ok-at.at + 1) c.args.text.now)) ∙ take-length (drop (c.in_ok-at.at + 1) c.args.text.now) in
    let at : IsFirstAt 32 c.args.text.now c.in_ok-at.at = record { within = found.0.high; none_before = λ i less is. found.0.before i zero-le less is; here = found.1 } in
    rw (rest, add-one) (words_of-at c.args.text.now c.in_ok-at.at at)
