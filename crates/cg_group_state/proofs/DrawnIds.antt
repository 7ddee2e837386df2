-- A drawn member id is a lawful name: its beginning is one, and a UUID consists of digits, letters and dashes.
use Rattle.std.proofs.Common.{◌≡◌, ℕ, zero, suc, ◌+◌, ◌<◌, ◌≤◌, Bool, true, false, ◌&&◌, List, [], ◌∷◌, ◌++◌, length, refl, ◌∙◌, arith}
use Rattle.std.specs.Prelude.{if◌then◌else◌}
use Rattle.std.specs.List.{list_all}
use Rattle.std.proofs.lemmas.Bool.{and_from}
use Rattle.std.proofs.lemmas.Bool.Decides.{nat_tests}
use Rattle.std.proofs.lemmas.List.{length-append}
use Rattle.std.proofs.lemmas.List.Folds.{list_all-append}
use Rattle.cg_names.specs.declared.name.TheConstants.{NAME_BYTES_MAX, MEMBER_ID_BYTES_MAX}
use Rattle.cg_names.specs.Grammar.{IsName, fault_of, is_dash, is_name_byte}
use Rattle.uuid.specs.Text.{by_index, digit_place, hex_digit, hyphen, hyphenated_text, is_hyphen_place, lower, nibble}
use Rattle.cg_group_state.specs.MemberId.{drawn}

length-by_index : {X : Type 0} (n : ℕ) (f : ℕ → X) → length (by_index n f) ≡ n
unfolding by_index
length-by_index zero f = refl
length-by_index (suc n) f = length-append (by_index n f) (f n ∷ []) ∙ one_more (length (by_index n f)) n (length-by_index n f)
  where
    one_more : (a b : ℕ) → a ≡ b → a + 1 ≡ suc b
    one_more a b e = omega arith

all-by_index : (p : ℕ → Bool) (n : ℕ) (f : ℕ → ℕ) → ((k : ℕ) → p (f k) ≡ true) → list_all p (by_index n f) ≡ true
unfolding by_index
all-by_index p zero f h = refl
all-by_index p (suc n) f h = list_all-append p (by_index n f) (f n ∷ []) ∙ and_from (list_all p (by_index n f)) (p (f n) && true) (all-by_index p n f h) (and_from (p (f n)) true (h n) refl)

digit_is_name_byte : (d : ℕ) → d < 16 → is_name_byte (hex_digit lower d) ≡ true
digit_is_name_byte d h = grind (arith, nat_tests)

nibble_is_small : (xs : List ℕ) (k : ℕ) → nibble xs k < 16
nibble_is_small xs k = grind (arith, nat_tests)

place_is_name_byte : (xs : List ℕ) (k : ℕ) → is_name_byte (if is_hyphen_place k then hyphen else hex_digit lower (nibble xs (digit_place k))) ≡ true
place_is_name_byte xs k =
    elim (is_hyphen_place k) as (λ b. is_name_byte (if b then hyphen else hex_digit lower (nibble xs (digit_place k))) ≡ true) [
      | true ↦ refl
      | false ↦ digit_is_name_byte (nibble xs (digit_place k)) (nibble_is_small xs (digit_place k))
    ]

-- the facts that make a byte string a name
record Parts (max : ℕ) (text : List ℕ) : Type 0 where
  some : 1 ≤ length text
  few : length text ≤ max
  bytes : list_all is_name_byte text ≡ true

name_parts : (max : ℕ) (text : List ℕ) → IsName max text → Parts max text
unfolding fault_of
name_parts max text h = record { some = grind (arith, nat_tests); few = grind (arith, nat_tests); bytes = bytes_of (list_all is_name_byte text) refl }
  where
    bytes_of : (b : Bool) → list_all is_name_byte text ≡ b → list_all is_name_byte text ≡ true
    bytes_of true e = e
    bytes_of false e = grind (arith, nat_tests)

no_dash : (text : List ℕ) → 2 ≤ length text → is_dash text ≡ false
no_dash [] h = absurd (omega arith)
no_dash (x ∷ []) h = absurd (omega arith)
no_dash (x ∷ y ∷ ys) h = refl

name_from : (max : ℕ) (text : List ℕ) → 2 ≤ length text → length text ≤ max → list_all is_name_byte text ≡ true → IsName max text
unfolding fault_of
name_from max text some few bytes = let dash : is_dash text ≡ false = no_dash text some in grind (arith, nat_tests)

pub drawn_is_name : (client fresh : List ℕ) → IsName NAME_BYTES_MAX client → IsName MEMBER_ID_BYTES_MAX (drawn client fresh)
unfolding drawn
drawn_is_name client fresh h =
    let parts : Parts NAME_BYTES_MAX client = name_parts NAME_BYTES_MAX client h in
    let tail : List ℕ = hyphenated_text lower fresh in
    let long : length tail ≡ 36 = length-by_index 36 (λ k. if is_hyphen_place k then hyphen else hex_digit lower (nibble fresh (digit_place k))) in
    let whole : length (client ++ 45 ∷ tail) ≡ length client + length (45 ∷ tail) = length-append client (45 ∷ tail) in
    let all : list_all is_name_byte (client ++ 45 ∷ tail) ≡ true = list_all-append is_name_byte client (45 ∷ tail) ∙ and_from (list_all is_name_byte client) (list_all is_name_byte (45 ∷ tail)) parts.bytes (all-by_index is_name_byte 36 (λ k. if is_hyphen_place k then hyphen else hex_digit lower (nibble fresh (digit_place k))) (place_is_name_byte fresh)) in
    let few : length client ≤ NAME_BYTES_MAX = parts.few in
    name_from MEMBER_ID_BYTES_MAX (client ++ 45 ∷ tail) (omega arith) (omega arith) all
