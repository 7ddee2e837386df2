-- The number of digits grows with each digit.
use Rattle.std.proofs.Common.{◌≡◌, ℕ, ◌+◌, ◌-◌, ◌*◌, ◌<◌, ◌≤◌, List, [], ◌∷◌, length, drop, get_or, ap, arith, Bool, true, false, refl}
use Rattle.std.specs.Prelude.{IsTrue, ◌&&◌}
use Rattle.std.proofs.Math.Seq.{drop-cons}
use Rattle.std.proofs.Math.Numerals.{add-one}
use Rattle.cg_line.specs.Numbers.{value_from}

pub value_from-le : (n : ℕ) (digits : List ℕ) → n ≤ value_from n digits
value_from-le n [] = omega arith
value_from-le n (d ∷ ds) = omega (arith, value_from-le (10 * n + (d - 48)) ds)

-- one of the remaining digits
pub value_from-drop : (n : ℕ) (digits : List ℕ) (i : ℕ) → i < length digits
    → value_from n (drop i digits) ≡ value_from (10 * n + (get_or digits i 0 - 48)) (drop (i + 1) digits)
value_from-drop n digits i below = rw add-one (ap (value_from n) (drop-cons digits i 0 below))

-- two tests that pass together
pub both_of : (a b : Bool) → IsTrue (a && b) → IsTrue a × IsTrue b
both_of true b are = (refl, are)
both_of false b are = absurd (cc)
