-- The only spelling of a generation is parsed as it, and what is parsed as a generation is its spelling.
use Rattle.std.proofs.Common.{◌≡◌, ℕ, suc, ◌-◌, ◌^◌, ◌<◌, ◌≤◌, true, false, List, [], ◌∷◌, length, drop, refl, sym, ap, ◌∙◌, arith, ℤ, pos, negsuc, ◌≤ℤ◌}
use Rattle.std.specs.Prelude.{◌&&◌}
use Rattle.std.proofs.lemmas.Bool.Decides.{nat_tests}
use Rattle.std.proofs.lemmas.Bool.{eqb-true, leb-true, le-leb}
use Rattle.std.proofs.lemmas.Int.{ints}
use Rattle.std.proofs.Math.Dec.{leb}
use Rattle.std.specs.List.{list_all}
use Rattle.std.specs.Fmt.{decimal, signed_decimal}
use Rattle.std.proofs.lemmas.Fmt.{decimal_nonempty}
use Rattle.cg_line.specs.Numbers.{generation_in, is_digit, is_generation, is_negative, is_number, value_of}
use Rattle.cg_line.proofs.Decimals.{decimal-value_of, digits_of_decimal, is_number-decimal, value_of-decimal, value_of-le}
use Rattle.cg_line.proofs.Joined.{IsFree, free_from}
use Rattle.cg_line.proofs.Value.{both_of}

minus_first : (w : List ℕ) → is_negative w ≡ true → w ≡ 45 ∷ drop 1 w
minus_first [] is = absurd (cc)
minus_first (b ∷ bs) is = ap (λ n. n ∷ bs) (eqb-true b 45 is)

-- the properties of a generation's word, with a minus and without
abbrev Below : List ℕ → Type 0
Below w = (is_number 2147483648 (drop 1 w) ≡ true) × (1 ≤ value_of (drop 1 w))

below_parts : (w : List ℕ) → is_negative w ≡ true → is_generation w ≡ true → Below w
unfolding is_generation
below_parts w minus is =
    let chosen : (is_number 2147483648 (drop 1 w) && leb 1 (value_of (drop 1 w))) ≡ true = rw minus at is in
    let parts = both_of (is_number 2147483648 (drop 1 w)) (leb 1 (value_of (drop 1 w))) chosen in
    (parts.0, leb-true _ _ parts.1)

from_zero : (w : List ℕ) → is_negative w ≡ false → is_generation w ≡ true → is_number 2147483647 w ≡ true
unfolding is_generation
from_zero w plain is = rw plain at is

in_below : (w : List ℕ) → is_negative w ≡ true → generation_in w ≡ negsuc (value_of (drop 1 w) - 1)
unfolding generation_in
in_below w minus = rw minus refl

in_from_zero : (w : List ℕ) → is_negative w ≡ false → generation_in w ≡ pos (value_of w)
unfolding generation_in
in_from_zero w plain = rw plain refl

one_more : (n : ℕ) → 1 ≤ n → suc (n - 1) ≡ n
one_more n some = omega arith

pub generation_spelled : (w : List ℕ) → is_generation w ≡ true → signed_decimal (generation_in w) ≡ w
generation_spelled w is =
    elim (is_negative w) as (λ t. is_negative w ≡ t → signed_decimal (generation_in w) ≡ w) [
      | true ↦ λ minus.
          let parts = below_parts w minus is in
          ap signed_decimal (in_below w minus) ∙ (ap (λ n. 45 ∷ decimal n) (one_more (value_of (drop 1 w)) parts.1)
          ∙ (ap (λ ds. 45 ∷ ds) (decimal-value_of 2147483648 (drop 1 w) (omega arith) parts.0) ∙ sym (minus_first w minus)))
      | false ↦ λ plain. ap signed_decimal (in_from_zero w plain) ∙ decimal-value_of 2147483647 w (omega arith) (from_zero w plain is)
    ] refl

abbrev InRange : ℤ → Type 0
InRange n = (negsuc 2147483647 ≤ℤ n) × (n ≤ℤ pos 2147483647)

below_range : (n : ℕ) → n ≤ 2147483647 → InRange (negsuc n)
below_range n few = (omega (arith, ints), omega (arith, ints))

zero_range : (n : ℕ) → n ≤ 2147483647 → InRange (pos n)
zero_range n few = (omega (arith, ints), omega (arith, ints))

pub generation_range : (w : List ℕ) → is_generation w ≡ true → (negsuc 2147483647 ≤ℤ generation_in w) × (generation_in w ≤ℤ pos 2147483647)
generation_range w is =
    elim (is_negative w) as (λ t. is_negative w ≡ t → InRange (generation_in w)) [
      | true ↦ λ minus.
          let parts = below_parts w minus is in
          let few = value_of-le 2147483648 (drop 1 w) parts.0 in
          rw (in_below w minus) (below_range (value_of (drop 1 w) - 1) (omega arith))
      | false ↦ λ plain. rw (in_from_zero w plain) (zero_range (value_of w) (value_of-le 2147483647 w (from_zero w plain is)))
    ] refl

digit_is_no_minus : (w : List ℕ) → 0 < length w → list_all is_digit w ≡ true → is_negative w ≡ false
digit_is_no_minus [] some digits = absurd (omega arith)
digit_is_no_minus (b ∷ bs) some digits = let first = (both_of (is_digit b) (list_all is_digit bs) digits).0 in grind (arith, nat_tests)

decimal_is_plain : (n : ℕ) → n < 2 ^ 64 → is_negative (decimal n) ≡ false
decimal_is_plain n small = digit_is_no_minus (decimal n) (decimal_nonempty n small) (digits_of_decimal n small)

pub is_generation-signed : (z : ℤ) → negsuc 2147483647 ≤ℤ z → z ≤ℤ pos 2147483647 → is_generation (signed_decimal z) ≡ true
unfolding is_generation
is_generation-signed (pos n) low high =
    let few : n ≤ 2147483647 = omega (arith, ints) in
    rw (decimal_is_plain n (omega arith)) (is_number-decimal 2147483647 n few (omega arith))
is_generation-signed (negsuc n) low high =
    let few : n ≤ 2147483647 = omega (arith, ints) in
    let some : 1 ≤ suc n = omega arith in
    rw (is_number-decimal 2147483648 (suc n) (omega arith) (omega arith), value_of-decimal (suc n) (omega arith)) (le-leb 1 (suc n) some)

pub generation_in-signed : (z : ℤ) → negsuc 2147483647 ≤ℤ z → z ≤ℤ pos 2147483647 → generation_in (signed_decimal z) ≡ z
unfolding generation_in
generation_in-signed (pos n) low high =
    let few : n ≤ 2147483647 = omega (arith, ints) in
    rw (decimal_is_plain n (omega arith)) (ap pos (value_of-decimal n (omega arith)))
generation_in-signed (negsuc n) low high =
    let few : n ≤ 2147483647 = omega (arith, ints) in
    let back : suc n - 1 ≡ n = omega arith in
    rw (value_of-decimal (suc n) (omega arith)) (ap negsuc back)

-- a number has no space
pub decimal_free : (mark n : ℕ) → is_digit mark ≡ false → n < 2 ^ 64 → IsFree mark (decimal n)
decimal_free mark n other small = free_from is_digit mark (decimal n) other (digits_of_decimal n small)

pub signed_free : (z : ℤ) → negsuc 2147483647 ≤ℤ z → z ≤ℤ pos 2147483647 → IsFree 32 (signed_decimal z)
signed_free (pos n) low high =
    let few : n ≤ 2147483647 = omega (arith, ints) in
    decimal_free 32 n refl (omega arith)
signed_free (negsuc n) low high =
    let few : n ≤ 2147483647 = omega (arith, ints) in
    decimal_free 32 (suc n) refl (omega arith)
