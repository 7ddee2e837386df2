-- The number of digits grows with each digit.
use Rattle.std.proofs.Common.{ℕ, ◌+◌, ◌-◌, ◌*◌, ◌^◌, ◌<◌, ◌≤◌, List, [], ◌∷◌, length, arith, not, eqb}
use Rattle.std.specs.Prelude.{IsTrue, ◌&&◌}
use Rattle.std.proofs.lemmas.Bool.Decides.{nat_tests}
use Rattle.std.proofs.lemmas.Bool.{leb-true}
use Rattle.std.proofs.Math.Dec.{leb, lit<}
use Rattle.cg_sim.specs.declared.text.TheConstants.{SESSION_DIGITS_MAX}
use Rattle.std.proofs.Math.Nat.{pow-succ', pow-le-pow_right, mul-le-mul_right, mul_assoc}
use Rattle.std.specs.List.{list_all}
use Rattle.cg_line.specs.Numbers.{is_digit, value_from, value_of}
use Rattle.cg_line.proofs.Value.{both_of}
use Rattle.cg_sim.specs.Text.{is_session}

digit-le : (d n : ℕ) → IsTrue (is_digit d) → 10 * n + (d - 48) ≤ 10 * n + 9
digit-le d n is = grind (arith, nat_tests)

-- the number of n digits is below the n-th power of ten
pub value_from-lt : (n : ℕ) (digits : List ℕ) → IsTrue (list_all is_digit digits) → value_from n digits < (n + 1) * 10 ^ length digits
value_from-lt n [] are = omega arith
value_from-lt n (d ∷ ds) are =
    let parts = both_of (is_digit d) (list_all is_digit ds) are in
    let later = value_from-lt (10 * n + (d - 48)) ds parts.1 in
    let small = digit-le d n parts.0 in
    let wide = mul-le-mul_right {m = 10 * n + (d - 48) + 1} {n = (n + 1) * 10} (10 ^ length ds) (omega (arith, small)) in
    rw (pow-succ' 10 (length ds), ← mul_assoc) (omega (arith, later, wide))

-- the number of a session's digits fits
pub session-fits : (digits : List ℕ) → IsTrue (is_session digits) → 2 ^ 64 ≤ value_of digits → ⊥
unfolding value_of
session-fits digits are above =
    let parts = both_of (not (eqb (length digits) 0) && leb (length digits) SESSION_DIGITS_MAX) (list_all is_digit digits) are in
    let few = both_of (not (eqb (length digits) 0)) (leb (length digits) SESSION_DIGITS_MAX) parts.0 in
    let below = value_from-lt 0 digits parts.1 in
    let most = pow-le-pow_right {n = 10} (lit< tt) (leb-true _ _ few.1) in
    omega (arith, below, most)
