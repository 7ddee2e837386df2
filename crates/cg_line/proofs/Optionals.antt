-- Names on a line, and the word `-` for no name.
use Rattle.std.proofs.Common.{◌≡◌, ℕ, true, false, cond, List, [], ◌∷◌, refl, sym, ap, eqb, Option, Some, None}
use Rattle.std.specs.Prelude.{is_none, IfSome}
use Rattle.std.proofs.lemmas.Bool.{eqb-true}
use Rattle.hex.specs.Hex.{IsBytes, encode_lower}
use Rattle.cg_names.specs.Grammar.{IsName, fault_of, is_dash, is_name_byte}
use Rattle.cg_names.specs.declared.fault.NameFault.{NameFault}
use Rattle.cg_names.proofs.Names.{bytes_from_name, no_dash_from_name}
use Rattle.cg_line.specs.Fields.{is_lower_hex_digit, is_name, is_optional, optional_in}
use Rattle.cg_line.specs.Words.{bytes_word, name_word}
use Rattle.cg_line.proofs.Joined.{IsFree, free_from}
use Rattle.cg_line.proofs.Hexed.{lower_encoded}

none_from_test : (o : Option NameFault) → is_none o ≡ true → o ≡ None
none_from_test None is = refl
none_from_test (Some fault) is = absurd (cc)

pub IsName-from_test : (max : ℕ) (w : List ℕ) → is_name max w ≡ true → IsName max w
IsName-from_test max w is = none_from_test (fault_of max w) is

pub is_name-from_name : (max : ℕ) (w : List ℕ) → IsName max w → is_name max w ≡ true
is_name-from_name max w name = ap (λ o. is_none o) name

pub name_free : (mark max : ℕ) (w : List ℕ) → is_name_byte mark ≡ false → IsName max w → IsFree mark w
name_free mark max w other name = free_from is_name_byte mark w other (bytes_from_name max w name)

dash_is : (w : List ℕ) → is_dash w ≡ true → w ≡ 45 ∷ []
dash_is [] is = absurd (cc)
dash_is (b ∷ []) is = ap (λ n. n ∷ []) (eqb-true b 45 is)
dash_is (b ∷ d ∷ bs) is = absurd (cc)

is_name_of_optional : (max : ℕ) (w : List ℕ) → is_dash w ≡ false → is_optional max w ≡ true → is_name max w ≡ true
unfolding is_optional
is_name_of_optional max w name is = rw name at is

pub optional_spelled : (max : ℕ) (w : List ℕ) → is_optional max w ≡ true → name_word (optional_in w) ≡ w
unfolding optional_in
optional_spelled max w is =
    elim (is_dash w) as (λ t. is_dash w ≡ t → name_word (cond t None (Some w)) ≡ w) [
      | true ↦ λ dash. sym (dash_is w dash)
      | false ↦ λ _. refl
    ] refl

pub optional_lawful : (max : ℕ) (w : List ℕ) → is_optional max w ≡ true → IfSome (optional_in w) (IsName max)
unfolding optional_in
optional_lawful max w is =
    elim (is_dash w) as (λ t. is_dash w ≡ t → IfSome (cond t None (Some w)) (IsName max)) [
      | true ↦ λ _. tt
      | false ↦ λ name. IsName-from_test max w (is_name_of_optional max w name is)
    ] refl

pub is_optional-name_word : (max : ℕ) (o : Option (List ℕ)) → IfSome o (IsName max) → is_optional max (name_word o) ≡ true
unfolding is_optional
is_optional-name_word max None lawful = refl
is_optional-name_word max (Some w) lawful = rw (no_dash_from_name max w lawful) (is_name-from_name max w lawful)

pub optional_in-name_word : (max : ℕ) (o : Option (List ℕ)) → IfSome o (IsName max) → optional_in (name_word o) ≡ o
unfolding optional_in
optional_in-name_word max None lawful = refl
optional_in-name_word max (Some w) lawful = rw (no_dash_from_name max w lawful) refl

pub name_word_free : (max : ℕ) (o : Option (List ℕ)) → IfSome o (IsName max) → IsFree 32 (name_word o)
name_word_free max None lawful = refl
name_word_free max (Some w) lawful = name_free 32 max w refl lawful

pub bytes_free : (mark : ℕ) (bytes : List ℕ) → is_lower_hex_digit mark ≡ false → eqb 120 mark ≡ false → IsBytes bytes → IsFree mark (bytes_word bytes)
bytes_free mark bytes other no_x are = rw no_x (free_from is_lower_hex_digit mark (encode_lower bytes) other (lower_encoded bytes are))
