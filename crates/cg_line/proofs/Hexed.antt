-- Lower-case digits give bytes, and bytes have only one spelling in lower-case digits.
use Rattle.std.proofs.Common.{◌≡◌, ℕ, zero, suc, ◌+◌, ◌-◌, ◌*◌, ◌/◌, ◌%◌, ◌<◌, ◌≤◌, ◌⊎◌, inl, inr, Bool, true, false, List, [], ◌∷◌, length, drop, eqb, Ok, Option, Some, sym, ap, ◌∙◌, refl, arith}
use Rattle.std.specs.Prelude.{IsTrue, ◌&&◌, slice_index, nat_le}
use Rattle.std.specs.List.{list_all}
use Rattle.std.specs.Result.{result_unwrap_or}
use Rattle.std.proofs.lemmas.Bool.{eqb-true, leb-true}
use Rattle.std.proofs.lemmas.Bool.Decides.{nat_tests}
use Rattle.hex.specs.Hex.{IsBytes, decode_pairs, digit_or_error, encode_lower, encode_with, hex_digit_value, lower_digits, value_at}
use Rattle.hex.proofs.HexLemmas.{IsDigits-lower_digits, decode_of-encode_lower, decode_of-even, length-encode_with}
use Rattle.cg_line.specs.Fields.{are_pairs, begins_with_x, bytes_in, decoded, is_bytes, is_lower_hex_digit}
use Rattle.cg_line.specs.Words.{bytes_word}
use Rattle.cg_line.proofs.Value.{both_of}

-- the first n digits are lower-case digits, by computation
abbrev all_lower : ℕ → Bool
all_lower zero = true
all_lower (suc n) = is_lower_hex_digit (slice_index lower_digits n) && all_lower n

all_lower-at : (n k : ℕ) → all_lower n ≡ true → k < n → is_lower_hex_digit (slice_index lower_digits k) ≡ true
all_lower-at zero k all below = absurd (omega arith)
all_lower-at (suc n) k all below =
    let parts = both_of (is_lower_hex_digit (slice_index lower_digits n)) (all_lower n) all in
    elim (eqb k n) as (λ t. eqb k n ≡ t → is_lower_hex_digit (slice_index lower_digits k) ≡ true) [
      | true ↦ λ is. rw (eqb-true k n is) parts.0
      | false ↦ λ is. all_lower-at n k parts.1 (grind (arith, nat_tests))
    ] refl

lower_digit : (k : ℕ) → k < 16 → is_lower_hex_digit (slice_index lower_digits k) ≡ true
lower_digit k below = all_lower-at 16 k refl below

-- a lower-case digit is one of ten or one of six
lower_cases : (c : ℕ) → is_lower_hex_digit c ≡ true → ((48 ≤ c) × (c ≤ 57)) ⊎ ((97 ≤ c) × (c ≤ 102))
lower_cases c is =
    elim (nat_le 97 c) as (λ t. nat_le 97 c ≡ t → ((48 ≤ c) × (c ≤ 57)) ⊎ ((97 ≤ c) × (c ≤ 102))) [
      | true ↦ λ above. inr (leb-true _ _ above, grind (arith, nat_tests))
      | false ↦ λ below. inl (grind (arith, nat_tests), grind (arith, nat_tests))
    ] refl

value_of_ten : (c : ℕ) → 48 ≤ c → c ≤ 57 → hex_digit_value c ≡ Some (c - 48)
value_of_ten c low high = grind (arith, nat_tests)

value_of_six : (c : ℕ) → 97 ≤ c → c ≤ 102 → hex_digit_value c ≡ Some (c - 87)
value_of_six c low high = grind (arith, nat_tests)

some_is : (a b : ℕ) (o : Option ℕ) → o ≡ Some a → o ≡ Some b → a ≡ b
some_is a b o first second = cc

-- two lower-case digits with one value are equal
one_digit : (c d v : ℕ) → is_lower_hex_digit c ≡ true → is_lower_hex_digit d ≡ true → hex_digit_value c ≡ Some v → hex_digit_value d ≡ Some v → d ≡ c
one_digit c d v lower_c lower_d value_c value_d =
    elim (lower_cases c lower_c) [
      | inl ten_c ↦ elim (lower_cases d lower_d) [
        | inl ten_d ↦ let a = some_is _ _ _ value_c (value_of_ten c ten_c.0 ten_c.1) in let b = some_is _ _ _ value_d (value_of_ten d ten_d.0 ten_d.1) in omega (arith, a, b, ten_c.0, ten_c.1, ten_d.0, ten_d.1)
        | inr six_d ↦ let a = some_is _ _ _ value_c (value_of_ten c ten_c.0 ten_c.1) in let b = some_is _ _ _ value_d (value_of_six d six_d.0 six_d.1) in absurd (omega (arith, a, b, ten_c.0, ten_c.1, six_d.0, six_d.1))
      ]
      | inr six_c ↦ elim (lower_cases d lower_d) [
        | inl ten_d ↦ let a = some_is _ _ _ value_c (value_of_six c six_c.0 six_c.1) in let b = some_is _ _ _ value_d (value_of_ten d ten_d.0 ten_d.1) in absurd (omega (arith, a, b, six_c.0, six_c.1, ten_d.0, ten_d.1))
        | inr six_d ↦ let a = some_is _ _ _ value_c (value_of_six c six_c.0 six_c.1) in let b = some_is _ _ _ value_d (value_of_six d six_d.0 six_d.1) in omega (arith, a, b, six_c.0, six_c.1, six_d.0, six_d.1)
      ]
    ]

-- the value of a lower-case digit, which is its position in the table
pub record IsValue (c v : ℕ) : Type 0 where
  pub value : hex_digit_value c ≡ Some v
  pub small : v < 16
  pub back : slice_index lower_digits v ≡ c

value_with : (c v : ℕ) → is_lower_hex_digit c ≡ true → hex_digit_value c ≡ Some v → v < 16 → IsValue c v
value_with c v lower value small = record {
  value = value;
  small = small;
  back = one_digit c (slice_index lower_digits v) v lower (lower_digit v small) value (IsDigits-lower_digits v small);
}

value_of_lower : (c : ℕ) → is_lower_hex_digit c ≡ true → (v : ℕ) × IsValue c v
value_of_lower c lower =
    elim (lower_cases c lower) [
      | inl ten ↦ let low = ten.0 in let high = ten.1 in (c - 48, value_with c (c - 48) lower (value_of_ten c low high) (omega arith))
      | inr six ↦ let low = six.0 in let high = six.1 in (c - 87, value_with c (c - 87) lower (value_of_six c low high) (omega arith))
    ]

-- the bytes to which pairs of lower-case digits decode
pub record IsDecoded (i : ℕ) (digits bytes : List ℕ) : Type 0 where
  pub read : decode_pairs i digits ≡ Ok bytes
  pub back : encode_lower bytes ≡ digits
  pub are_bytes : IsBytes bytes

byte_first : (b : ℕ) (bs : List ℕ) → b < 256 → IsBytes bs → IsBytes (b ∷ bs)
byte_first b bs small are zero = small
byte_first b bs small are (suc i) = are i

no_bytes : IsBytes []
no_bytes i = omega arith

pair_decoded : (i a b va vb : ℕ) (rest bytes : List ℕ) → IsValue a va → IsValue b vb → IsDecoded (i + 2) rest bytes → IsDecoded i (a ∷ b ∷ rest) ((va * 16 + vb) ∷ bytes)
unfolding decode_pairs encode_with
pair_decoded i a b va vb rest bytes is_a is_b later =
    let small_a = is_a.small in
    let small_b = is_b.small in
    let ha : value_at a i ≡ Ok va = ap (digit_or_error a i) is_a.value in
    let hb : value_at b (i + 1) ≡ Ok vb = ap (digit_or_error b (i + 1)) is_b.value in
    let high : (va * 16 + vb) / 16 ≡ va = omega arith in
    let low : (va * 16 + vb) % 16 ≡ vb = omega arith in
    record {
      read = rw (ha, hb, later.read) refl;
      back = rw (high, low, is_a.back, is_b.back, later.back) refl;
      are_bytes = byte_first (va * 16 + vb) bytes (omega arith) later.are_bytes;
    }

pairs_decoded : (i : ℕ) (digits : List ℕ) → length digits % 2 ≡ 0 → list_all is_lower_hex_digit digits ≡ true → (bytes : List ℕ) × IsDecoded i digits bytes
unfolding decode_pairs encode_with
pairs_decoded i [] even lower = ([], record { read = refl; back = refl; are_bytes = no_bytes })
pairs_decoded i (a ∷ []) even lower = absurd (omega arith)
pairs_decoded i (a ∷ b ∷ rest) even lower =
    let first = both_of (is_lower_hex_digit a) (list_all is_lower_hex_digit (b ∷ rest)) lower in
    let second = both_of (is_lower_hex_digit b) (list_all is_lower_hex_digit rest) first.1 in
    let later = pairs_decoded (i + 2) rest (omega arith) second.1 in
    let is_a = value_of_lower a first.0 in
    let is_b = value_of_lower b second.0 in
    ((is_a.0 * 16 + is_b.0) ∷ later.0, pair_decoded i a b is_a.0 is_b.0 rest later.0 is_a.1 is_b.1 later.1)

pub record Spell (digits bytes : List ℕ) : Type 0 where
  pub back : encode_lower bytes ≡ digits
  pub are_bytes : IsBytes bytes

-- lower-case digits in pairs are the spelling of the bytes to which they decode
pub digits_spell : (digits : List ℕ) → IsTrue (are_pairs digits) → Spell digits (decoded digits)
digits_spell digits are =
    let parts = both_of (list_all is_lower_hex_digit digits) (eqb (length digits % 2) 0) are in
    let even = eqb-true _ _ parts.1 in
    let found = pairs_decoded 0 digits even parts.0 in
    let read : decoded digits ≡ found.0 = ap (λ r. result_unwrap_or r []) (decode_of-even digits even ∙ found.1.read) in
    rw read (record { back = found.1.back; are_bytes = found.1.are_bytes })

pub lower_encoded : (bytes : List ℕ) → IsBytes bytes → list_all is_lower_hex_digit (encode_lower bytes) ≡ true
unfolding encode_with
lower_encoded [] are = refl
lower_encoded (b ∷ bs) are =
    let small : b < 256 = are 0 in
    let high = lower_digit (b / 16) (omega arith) in
    let low = lower_digit (b % 16) (omega arith) in
    let later = lower_encoded bs (λ i. are (suc i)) in
    rw (high, low, later) refl

-- the digits of bytes are lower-case digits in pairs
pub pairs_encoded : (bytes : List ℕ) → IsBytes bytes → are_pairs (encode_lower bytes) ≡ true
pairs_encoded bytes are =
    let len = length-encode_with lower_digits bytes in
    let lower = lower_encoded bytes are in
    let even : length (encode_lower bytes) % 2 ≡ 0 = omega (arith, len) in
    rw (lower, even) refl

pub decoded-encoded : (bytes : List ℕ) → IsBytes bytes → decoded (encode_lower bytes) ≡ bytes
decoded-encoded bytes are = ap (λ r. result_unwrap_or r []) (decode_of-encode_lower bytes are)

x_first : (word : List ℕ) → begins_with_x word ≡ true → word ≡ 120 ∷ drop 1 word
x_first [] is = absurd (cc)
x_first (b ∷ bs) is = ap (λ n. n ∷ bs) (eqb-true b 120 is)

-- a word of bytes is the spelling of those bytes
pub bytes_spelled : (word : List ℕ) → is_bytes word ≡ true → (bytes_word (bytes_in word) ≡ word) × IsBytes (bytes_in word)
unfolding is_bytes bytes_in
bytes_spelled word is =
    let parts = both_of (begins_with_x word) (are_pairs (drop 1 word)) is in
    let spell = digits_spell (drop 1 word) parts.1 in
    (ap (λ ws. 120 ∷ ws) spell.back ∙ sym (x_first word parts.0), spell.are_bytes)

pub is_bytes-bytes_word : (bytes : List ℕ) → IsBytes bytes → is_bytes (bytes_word bytes) ≡ true
unfolding is_bytes
is_bytes-bytes_word bytes are = pairs_encoded bytes are

pub bytes_in-bytes_word : (bytes : List ℕ) → IsBytes bytes → bytes_in (bytes_word bytes) ≡ bytes
unfolding bytes_in
bytes_in-bytes_word bytes are = decoded-encoded bytes are
