use Rattle.std.proofs.Common.{◌+◌, ◌*◌, ◌-◌, ◌≤◌, ◌<◌, length, drop, get_or, sym, ap, ◌∙◌, arith}
use Rattle.std.proofs.Math.ListN.{drop_of_length-le}
use Rattle.cg_line.specs.Numbers.{value_of, value_from}
use Rattle.cg_line.proofs.Value.{value_from-le, value_from-drop}
use Rattle.cg_line.proofs.decimal.value.Goals as goal

pub returns-in_err-value : goal.returns-in_err-value
unfolding value_of
returns-in_err-value c =
    let here : c.loop-digit.digit-index < length c.args.digits.now = omega arith in
    let rest = sym (value_from-drop c.loop-digit.value c.args.digits.now c.loop-digit.digit-index here) ∙ c.loop-digit.invariant in
    let grown = value_from-le (10 * c.loop-digit.value + (get_or c.args.digits.now c.loop-digit.digit-index 0 - 48)) (drop (c.loop-digit.digit-index + 1) c.args.digits.now) in
    rw c.from_residual.ensures (omega (arith, grown, rest, c.in_err-value.ensures))

pub returns : goal.returns
unfolding value_of
returns c =
    let past : length c.args.digits.now ≤ c.loop-digit.digit-index = omega arith in
    ap (value_from c.loop-digit.value) (sym (drop_of_length-le c.args.digits.now past)) ∙ c.loop-digit.invariant
