-- Digits of a line give bytes, one for each two.
use Rattle.std.proofs.Common.{◌≡◌, ℕ, ◌/◌, ◌%◌, ◌≤◌, true, List, [], ◌∷◌, length, drop, eqb, Ok, Err, sym, ap, ◌∙◌, refl, arith}
use Rattle.std.specs.Prelude.{IsTrue, ◌&&◌}
use Rattle.std.specs.List.{list_all}
use Rattle.std.specs.Result.{result_unwrap_or}
use Rattle.std.proofs.lemmas.Bool.{eqb-true, leb-true}
use Rattle.std.proofs.Math.Dec.{leb}
use Rattle.std.proofs.lemmas.Bool.Decides.{nat_tests}
use Rattle.std.proofs.lemmas.List.Sums.{AllPass-from_list_all}
use Rattle.hex.specs.Hex.{decode_of, is_hex_digit}
use Rattle.hex.specs.declared.error.FromHexError.{FromHexError}
use Rattle.hex.proofs.HexLemmas.{decode_of-digits, decode_of-ok}
use Rattle.cg_line.specs.Fields.{are_pairs, begins_with_x, bytes_in, decoded, is_bytes, is_lower_hex_digit, is_opaque}
use Rattle.cg_line.proofs.Value.{both_of}

lower-is-hex : (b : ℕ) → is_lower_hex_digit b ≡ true → is_hex_digit b ≡ true
lower-is-hex b is = grind (arith, nat_tests)

all-hex : (digits : List ℕ) → IsTrue (list_all is_lower_hex_digit digits) → list_all is_hex_digit digits ≡ true
all-hex [] are = refl
all-hex (b ∷ bs) are =
    let parts = both_of (is_lower_hex_digit b) (list_all is_lower_hex_digit bs) are in
    let first : is_hex_digit b ≡ true = lower-is-hex b parts.0 in
    let rest : list_all is_hex_digit bs ≡ true = all-hex bs parts.1 in
    ap (λ x. x && list_all is_hex_digit bs) first ∙ rest

pub pairs-decode : (digits : List ℕ) → IsTrue (are_pairs digits) → (bytes : List ℕ) × (decode_of digits ≡ Ok bytes)
pairs-decode digits are =
    let parts = both_of (list_all is_lower_hex_digit digits) (eqb (length digits % 2) 0) are in
    decode_of-digits digits (eqb-true _ _ parts.1) (AllPass-from_list_all is_hex_digit digits (all-hex digits parts.0))

pub no-fault : (digits : List ℕ) (fault : FromHexError) → IsTrue (are_pairs digits) → decode_of digits ≡ Err fault → ⊥
no-fault digits fault are refused = let decoded = pairs-decode digits are in let wrong = sym refused ∙ decoded.1 in cc

pub length-decoded : (digits : List ℕ) → IsTrue (are_pairs digits) → length (decoded digits) ≡ length digits / 2
length-decoded digits are =
    let decoded = pairs-decode digits are in
    let double = (decode_of-ok digits decoded.0 decoded.1).2 in
    let half : length decoded.0 ≡ length digits / 2 = omega (arith, double) in
    ap (λ r. length (result_unwrap_or r [])) decoded.1 ∙ half

-- a word of at most `max` bytes is a word of bytes, with at most two digits for each
pub opaque_parts : (max : ℕ) (word : List ℕ) → IsTrue (is_opaque max word) → IsTrue (is_bytes word) × (length (bytes_in word) ≤ max)
unfolding is_opaque is_bytes bytes_in
opaque_parts max word is =
    let parts = both_of (begins_with_x word && are_pairs (drop 1 word)) (leb (length (drop 1 word) / 2) max) is in
    let pairs = both_of (begins_with_x word) (are_pairs (drop 1 word)) parts.0 in
    let few = leb-true _ _ parts.1 in
    (parts.0, rw (length-decoded (drop 1 word) pairs.1) few)
