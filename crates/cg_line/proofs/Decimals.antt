-- The only spelling of a number is parsed as that number, and what is parsed as a number is its spelling.
use Rattle.std.proofs.Common.{◌≡◌, ℕ, zero, suc, ◌^◌, ◌<◌, ◌≤◌, true, false, List, [], ◌∷◌, length, get_or, refl, ap, arith, rules, not, eqb}
use Rattle.std.proofs.lemmas.Bool.Decides.{nat_tests}
use Rattle.std.proofs.lemmas.Bool.{leb-true, le-leb}
use Rattle.std.proofs.Math.Dec.{leb}
use Rattle.std.specs.List.{list_all}
use Rattle.std.specs.Fmt.{decimal}
use Rattle.std.proofs.lemmas.Fmt.{decimal-digits_value, digits_decimal, digits_value-decimal, decimal_nonempty, first_decimal, decimal_digit}
use Rattle.std.proofs.lemmas.Str.Parse.{IsNumeralModel, numerals_by_fold}
use Rattle.cg_line.specs.Numbers.{is_digit, is_number, is_plain, value_from, value_of}
use Rattle.cg_line.proofs.Value.{both_of}

abbrev AreDigits : List ℕ → Type 0
AreDigits ds = list_all is_digit ds ≡ true

own : IsNumeralModel AreDigits (value_from 0)
own = numerals_by_fold AreDigits (search rules) value_from (search rules)

-- the properties of a plain number
pub record IsPlain (w : List ℕ) : Type 0 where
  pub digits : list_all is_digit w ≡ true
  pub some : 0 < length w
  pub alone : get_or w 0 0 ≡ 48 → length w ≡ 1

plain_parts : (w : List ℕ) → is_plain w ≡ true → IsPlain w
plain_parts [] is = absurd (cc)
plain_parts (d ∷ []) is = record { digits = grind (arith, nat_tests); some = omega arith; alone = λ _. refl }
plain_parts (d ∷ e ∷ ds) is =
    let parts = both_of (not (eqb d 48)) (list_all is_digit (d ∷ e ∷ ds)) is in
    record { digits = parts.1; some = omega arith; alone = λ zero_first. absurd (grind (arith, nat_tests)) }

plain_from_parts : (w : List ℕ) → IsPlain w → is_plain w ≡ true
plain_from_parts [] parts = let some = parts.some in absurd (omega arith)
plain_from_parts (d ∷ []) parts = (both_of (is_digit d) true parts.digits).0
plain_from_parts (d ∷ e ∷ ds) parts =
    let digits = parts.digits in
    let first : eqb d 48 ≡ false = elim (eqb d 48) as (λ t. eqb d 48 ≡ t → t ≡ false) [
      | true ↦ λ is. absurd (let two : length (d ∷ e ∷ ds) ≡ 1 = parts.alone (grind (arith, nat_tests)) in omega arith)
      | false ↦ λ _. refl
    ] refl in
    rw first digits

number_parts : (most : ℕ) (w : List ℕ) → is_number most w ≡ true → IsPlain w × (value_of w ≤ most)
unfolding is_number
number_parts most w is =
    let parts = both_of (is_plain w) (leb (value_of w) most) is in
    (plain_parts w parts.0, leb-true _ _ parts.1)

pub value_of-le : (most : ℕ) (w : List ℕ) → is_number most w ≡ true → value_of w ≤ most
value_of-le most w is = (number_parts most w is).1

-- the word of a number has only digits
pub digits_of_number : (most : ℕ) (w : List ℕ) → is_number most w ≡ true → list_all is_digit w ≡ true
digits_of_number most w is = (number_parts most w is).0.digits

pub decimal-value_of : (most : ℕ) (w : List ℕ) → most < 2 ^ 64 → is_number most w ≡ true → decimal (value_of w) ≡ w
unfolding value_of
decimal-value_of most w small is =
    let parts = number_parts most w is in
    let few = parts.1 in
    decimal-digits_value own w parts.0.digits parts.0.some parts.0.alone (omega arith)

pub value_of-decimal : (n : ℕ) → n < 2 ^ 64 → value_of (decimal n) ≡ n
unfolding value_of
value_of-decimal n small = digits_value-decimal own n small

pub digits_of_decimal : (n : ℕ) → n < 2 ^ 64 → list_all is_digit (decimal n) ≡ true
digits_of_decimal n small = digits_decimal own n small

decimal_alone : (n : ℕ) → n < 2 ^ 64 → get_or (decimal n) 0 0 ≡ 48 → length (decimal n) ≡ 1
decimal_alone zero small first = ap length (decimal_digit 0 (omega arith))
decimal_alone (suc n) small first = absurd (let above = first_decimal (suc n) (omega arith) small in omega arith)

pub is_number-decimal : (most n : ℕ) → n ≤ most → n < 2 ^ 64 → is_number most (decimal n) ≡ true
unfolding is_number
is_number-decimal most n within small =
    let parts : IsPlain (decimal n) = record { digits = digits_of_decimal n small; some = decimal_nonempty n small; alone = decimal_alone n small } in
    rw (plain_from_parts (decimal n) parts, value_of-decimal n small) (le-leb n most within)
