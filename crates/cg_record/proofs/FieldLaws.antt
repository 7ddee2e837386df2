-- The law of each field: its decoder accepts exactly its encoding.
use Rattle.std.proofs.Common.{◌≡◌, ℕ, ◌^◌, ◌<◌, ◌≤◌, Bool, true, false, cond, ltb, leb, List, [], ◌∷◌, ◌++◌, length, take, drop, Option, Some, None, Ok, Err, refl, sym, ap, subst, arith, inl, inr}
use Rattle.std.specs.Prelude.{is_none}
use Rattle.std.specs.Int.{Width, w16, w32, w64, byte_len, from_be_bytes, to_be_bytes}
use Rattle.std.proofs.lemmas.Bool.{ltb-false, le-ltb, leb-true, le-leb, and_parts, cases_lt}
use Rattle.std.proofs.lemmas.List.{take_at, drop_at, take-append-drop, length-append, length-take, get_or-take, get_or_past}
use Rattle.std.proofs.lemmas.Nat.{be_bytes_2, from_be_bytes-to_be_bytes_2, be_bytes_4, be_bytes_8, from_be_bytes-to_be_bytes_4, from_be_bytes-to_be_bytes_8}
use Rattle.cg_names.specs.Grammar.{IsName, fault_of}
use Rattle.cg_names.proofs.Names.{length_from_name}
use Rattle.cg_record.specs.declared.fault.RecordFault.{RecordFault}
use Rattle.cg_record.specs.declared.fault.RecordFault.TheVariants.{Short, BadName, BadLength}
use Rattle.cg_record.specs.Texts.{number, two, four, eight, name_text, bytes_text}
use Rattle.cg_record.specs.Fields.{at_most, is_from_to, is_name, byte_at, bytes_at, number_at, two_at, four_at, eight_at, name_at, text_at}
use Rattle.cg_record.proofs.Laws.{IsBytes, ok_is, Takes, Takes-one, Reads, Anything, reads_only, reads_then, reads_as, reads_known}

-- a length check that passed
long_enough : {A : Type 0} (short : Bool) (fault : RecordFault) (x y : A) → cond short (Err fault) (Ok x) ≡ Ok y → (short ≡ false) × (x ≡ y)
long_enough true fault x y e = absurd cc
long_enough false fault x y e = (refl, cc)

IsBytes-take : (n : ℕ) (bytes : List ℕ) → IsBytes bytes → IsBytes (take n bytes)
IsBytes-take n bytes h i =
    elim (cases_lt i n) [
      | inl lt ↦ rw (get_or-take n bytes i 0 lt) (h i)
      | inr le ↦ rw (get_or_past (take n bytes) i 0 (omega (arith, length-take n bytes))) (omega arith)
    ]

-- ---- a byte

abbrev pub IsByte : ℕ → Type 0
IsByte b = b < 256

byte_takes : (bytes : List ℕ) (b : ℕ) (rest : List ℕ) → IsBytes bytes → byte_at bytes ≡ Ok (b, rest) → Takes bytes (b ∷ []) rest × Anything b × IsByte b
unfolding byte_at
byte_takes [] b rest fits e = absurd cc
byte_takes (c ∷ bytes) b rest fits e =
    subst (λ (y : ℕ × List ℕ). Takes (c ∷ bytes) (y.0 ∷ []) y.1 × Anything y.0 × IsByte y.0) (ok_is (c, bytes) (b, rest) e)
    (Takes-one (c ∷ bytes) (c ∷ []) bytes fits refl, tt, fits 0)

pub reads_byte : Reads byte_at (λ b. b ∷ []) IsByte
unfolding byte_at
reads_byte = record { takes = byte_takes; again = λ b rest known is. refl }

-- ---- bytes of a given length

abbrev pub HasLength : ℕ → List ℕ → Type 0
HasLength n text = length text ≡ n

bytes_take : (n : ℕ) (bytes text rest : List ℕ) → IsBytes bytes → bytes_at n bytes ≡ Ok (text, rest) → Takes bytes text rest × Anything text × HasLength n text
unfolding bytes_at
bytes_take n bytes text rest fits e =
    let g = long_enough (ltb (length bytes) n) Short (take n bytes, drop n bytes) (text, rest) e in
    let long : n ≤ length bytes = ltb-false _ _ g.0 in
    subst (λ (y : List ℕ × List ℕ). Takes bytes y.0 y.1 × Anything y.0 × HasLength n y.0) g.1
    (Takes-one bytes (take n bytes) (drop n bytes) fits (sym (take-append-drop n bytes)), tt, omega (arith, length-take n bytes))

bytes_again : (n : ℕ) (text rest : List ℕ) → HasLength n text → bytes_at n (text ++ rest) ≡ Ok (text, rest)
unfolding bytes_at
bytes_again n text rest len =
    let long : ltb (length (text ++ rest)) n ≡ false = le-ltb _ _ (omega (arith, length-append text rest)) in
    rw (long, take_at text rest n len, drop_at text rest n len) refl

pub reads_bytes : (n : ℕ) → Reads (bytes_at n) (λ text. text) (HasLength n)
reads_bytes n = record { takes = bytes_take n; again = λ text rest known is. bytes_again n text rest is }

-- ---- numbers

-- the numbers of a width are below a limit, and their bytes decode to them
record IsWide (w : Width) (limit : ℕ) : Type 0 where
  pub len : (n : ℕ) → length (to_be_bytes w n) ≡ byte_len w
  pub back : (bytes : List ℕ) → length bytes ≡ byte_len w → IsBytes bytes → to_be_bytes w (from_be_bytes w bytes) ≡ bytes
  pub again : (n : ℕ) → n < limit → from_be_bytes w (to_be_bytes w n) ≡ n
  pub below : (bytes : List ℕ) → IsBytes bytes → from_be_bytes w bytes < limit

wide_two : IsWide w16 (2 ^ 16)
wide_two = record {
  len = λ n. refl;
  back = λ bytes len fits. be_bytes_2 bytes _ len fits refl;
  again = λ n lt. from_be_bytes-to_be_bytes_2 n lt;
  below = λ bytes fits. omega (arith, fits 0, fits 1);
}

wide_four : IsWide w32 (2 ^ 32)
wide_four = record {
  len = λ n. refl;
  back = λ bytes len fits. be_bytes_4 bytes _ len fits refl;
  again = λ n lt. from_be_bytes-to_be_bytes_4 n lt;
  below = λ bytes fits. omega (arith, fits 0, fits 1, fits 2, fits 3);
}

wide_eight : IsWide w64 (2 ^ 64)
wide_eight = record {
  len = λ n. refl;
  back = λ bytes len fits. be_bytes_8 bytes _ len fits refl;
  again = λ n lt. from_be_bytes-to_be_bytes_8 n lt;
  below = λ bytes fits. omega (arith, fits 0, fits 1, fits 2, fits 3, fits 4, fits 5, fits 6, fits 7);
}

abbrev pub IsBelow : ℕ → ℕ → Type 0
IsBelow limit n = n < limit

number_takes : (w : Width) (limit : ℕ) (wide : IsWide w limit) (bytes : List ℕ) (n : ℕ) (rest : List ℕ) → IsBytes bytes → number_at w bytes ≡ Ok (n, rest) → Takes bytes (number w n) rest × Anything n × IsBelow limit n
unfolding number number_at
number_takes w limit wide bytes n rest fits e =
    let g = long_enough (ltb (length bytes) (byte_len w)) Short (from_be_bytes w (take (byte_len w) bytes), drop (byte_len w) bytes) (n, rest) e in
    let long : byte_len w ≤ length bytes = ltb-false _ _ g.0 in
    let small = IsBytes-take (byte_len w) bytes fits in
    let front : to_be_bytes w (from_be_bytes w (take (byte_len w) bytes)) ≡ take (byte_len w) bytes = wide.back (take (byte_len w) bytes) (omega (arith, length-take (byte_len w) bytes)) small in
    let parts : bytes ≡ to_be_bytes w (from_be_bytes w (take (byte_len w) bytes)) ++ drop (byte_len w) bytes = rw front (sym (take-append-drop (byte_len w) bytes)) in
    subst (λ (y : ℕ × List ℕ). Takes bytes (to_be_bytes w y.0) y.1 × Anything y.0 × IsBelow limit y.0) g.1
    (Takes-one bytes (to_be_bytes w (from_be_bytes w (take (byte_len w) bytes))) (drop (byte_len w) bytes) fits parts, tt, wide.below (take (byte_len w) bytes) small)

number_again : (w : Width) (limit : ℕ) (wide : IsWide w limit) (n : ℕ) (rest : List ℕ) → IsBelow limit n → number_at w (number w n ++ rest) ≡ Ok (n, rest)
unfolding number number_at
number_again w limit wide n rest lt =
    let len = wide.len n in
    let long : ltb (length (to_be_bytes w n ++ rest)) (byte_len w) ≡ false = le-ltb _ _ (omega (arith, length-append (to_be_bytes w n) rest)) in
    rw (long, take_at (to_be_bytes w n) rest (byte_len w) len, drop_at (to_be_bytes w n) rest (byte_len w) len, wide.again n lt) refl

pub reads_two : Reads two_at two (IsBelow (2 ^ 16))
reads_two = record { takes = number_takes w16 (2 ^ 16) wide_two; again = λ n rest known is. number_again w16 (2 ^ 16) wide_two n rest is }

pub reads_four : Reads four_at four (IsBelow (2 ^ 32))
reads_four = record { takes = number_takes w32 (2 ^ 32) wide_four; again = λ n rest known is. number_again w32 (2 ^ 32) wide_four n rest is }

pub reads_eight : Reads eight_at eight (IsBelow (2 ^ 64))
reads_eight = record { takes = number_takes w64 (2 ^ 64) wide_eight; again = λ n rest known is. number_again w64 (2 ^ 64) wide_eight n rest is }

-- ---- bytes after their length

pub none_is : {X : Type 0} (o : Option X) → is_none o ≡ true → o ≡ None
none_is None e = refl
none_is (Some x) e = absurd cc

pub is_from_to-true : (min max n : ℕ) → min ≤ n → n ≤ max → is_from_to min max n ≡ true
is_from_to-true min max n low high = rw (le-leb min n low, le-leb n max high) refl

pub from_to-true : (min max n : ℕ) → is_from_to min max n ≡ true → (min ≤ n) × (n ≤ max)
from_to-true min max n e =
    let p = and_parts (leb min n) (leb n max) e in
    (leb-true _ _ p.0, leb-true _ _ p.1)

pub reads_name : (max : ℕ) → max < 256 → Reads (name_at max) name_text (IsName max)
unfolding name_at
reads_name max below =
    reads_as
    (reads_then length
    (reads_only (is_from_to 1 max) BadName reads_byte)
    (λ size is_size. reads_known {Known = λ x. Anything x × (length x ≡ size)} {Other = IsName max}
    (reads_only (is_name max) BadName (reads_bytes size))
    (λ x is. ((tt, is.0), none_is (fault_of max x) is.1))
    (λ x known is. (known.1, ap is_none is))))
    (λ x. refl)
    (λ x known is. is.1)
    (λ x known is. let len = length_from_name max x is in ((omega arith, is_from_to-true 1 max (length x) len.0 len.1), is))

abbrev pub IsText : ℕ → List ℕ → Type 0
IsText max text = length text ≤ max

pub reads_text : (max : ℕ) → max < 2 ^ 32 → Reads (text_at max) bytes_text (IsText max)
unfolding text_at
reads_text max below =
    reads_as
    (reads_then length
    (reads_only (at_most max) BadLength reads_four)
    (λ size is_size. reads_known {Known = λ x. Anything x × (length x ≡ size)} {Other = Anything}
    (reads_bytes size)
    (λ x is. ((tt, is), tt))
    (λ x known is. known.1)))
    (λ x. refl)
    (λ x known is. leb-true _ _ is.0.1)
    (λ x known is. ((omega arith, le-leb _ _ is), tt))
