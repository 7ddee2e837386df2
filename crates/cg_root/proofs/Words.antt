-- Numbers and ids in bytes.
use Rattle.std.proofs.Common.{◌≡◌, ℕ, zero, suc, ◌+◌, ◌-◌, ◌*◌, ◌^◌, ◌<◌, ◌≤◌, List, [], ◌∷◌, ◌++◌, length, take, drop, get_or, refl, sym, ◌∙◌, ap, subst, inl, inr, arith}
use Rattle.std.specs.Int.{from_be_bytes, w16, w32, w64}
use Rattle.std.specs.List.{flat_map}
use Rattle.std.proofs.lemmas.Bool.{cases_lt}
use Rattle.std.proofs.lemmas.List.{length-take, length-drop, length-append, get_or-take, get_or-drop, get_or_past}
use Rattle.std.proofs.lemmas.Nat.{be_bytes_2, be_bytes_4, be_bytes_8, from_be_bytes-to_be_bytes_2, from_be_bytes-to_be_bytes_4, from_be_bytes-to_be_bytes_8}
use Rattle.cg_root.specs.Roots.{two_bytes, four_bytes, eight_bytes}
use Rattle.cg_root.specs.Decoding.{number_at, ids_in}

-- these are bytes
abbrev pub AreBytes : List ℕ → Type 0
AreBytes xs = (i : ℕ) → get_or xs i 0 < 256

pub AreBytes-part : (xs : List ℕ) (m k : ℕ) → AreBytes xs → AreBytes (take m (drop k xs))
AreBytes-part xs m k are i = elim (cases_lt i m) [
  | inl lt ↦ subst (λ (n : ℕ). n < 256) (sym (get_or-take m (drop k xs) i 0 lt ∙ get_or-drop k xs i 0)) (are (k + i))
  | inr ge ↦ subst (λ (n : ℕ). n < 256) (sym (get_or_past (take m (drop k xs)) i 0 (simp length-take (omega arith)))) (omega arith)
]

-- Numbers

pub length-two_bytes : (n : ℕ) → length (two_bytes n) ≡ 2
unfolding two_bytes
length-two_bytes n = refl

pub two_bytes-number_at : (xs : List ℕ) (at : ℕ) → at + 2 ≤ length xs → AreBytes xs → two_bytes (number_at w16 at xs) ≡ take 2 (drop at xs)
unfolding two_bytes number_at
two_bytes-number_at xs at le are = be_bytes_2 (take 2 (drop at xs)) _ (simp (length-take, length-drop) (omega arith)) (AreBytes-part xs 2 at are) refl

pub four_bytes-number_at : (xs : List ℕ) (at : ℕ) → at + 4 ≤ length xs → AreBytes xs → four_bytes (number_at w32 at xs) ≡ take 4 (drop at xs)
unfolding four_bytes number_at
four_bytes-number_at xs at le are = be_bytes_4 (take 4 (drop at xs)) _ (simp (length-take, length-drop) (omega arith)) (AreBytes-part xs 4 at are) refl

pub eight_bytes-number_at : (xs : List ℕ) (at : ℕ) → at + 8 ≤ length xs → AreBytes xs → eight_bytes (number_at w64 at xs) ≡ take 8 (drop at xs)
unfolding eight_bytes number_at
eight_bytes-number_at xs at le are = be_bytes_8 (take 8 (drop at xs)) _ (simp (length-take, length-drop) (omega arith)) (AreBytes-part xs 8 at are) refl

pub number_at-two : (xs : List ℕ) (at n : ℕ) → n < 2 ^ 16 → take 2 (drop at xs) ≡ two_bytes n → number_at w16 at xs ≡ n
unfolding two_bytes number_at
number_at-two xs at n fits is = ap (from_be_bytes w16) is ∙ from_be_bytes-to_be_bytes_2 n fits

pub number_at-four : (xs : List ℕ) (at n : ℕ) → n < 2 ^ 32 → take 4 (drop at xs) ≡ four_bytes n → number_at w32 at xs ≡ n
unfolding four_bytes number_at
number_at-four xs at n fits is = ap (from_be_bytes w32) is ∙ from_be_bytes-to_be_bytes_4 n fits

pub number_at-eight : (xs : List ℕ) (at n : ℕ) → n < 2 ^ 64 → take 8 (drop at xs) ≡ eight_bytes n → number_at w64 at xs ≡ n
unfolding eight_bytes number_at
number_at-eight xs at n fits is = ap (from_be_bytes w64) is ∙ from_be_bytes-to_be_bytes_8 n fits

-- Ids

pub length-flat_map_two : (ids : List ℕ) → length (flat_map two_bytes ids) ≡ 2 * length ids
length-flat_map_two [] = refl
length-flat_map_two (id ∷ ids) = omega (arith, length-append (two_bytes id) (flat_map two_bytes ids), length-two_bytes id, length-flat_map_two ids)

pub length-ids_in : (xs : List ℕ) (n : ℕ) → length xs ≡ 2 * n → length (ids_in xs) ≡ n
length-ids_in [] n long = omega arith
length-ids_in (x ∷ []) n long = absurd (omega arith)
length-ids_in (x ∷ y ∷ rest) n long = let tail : length (ids_in rest) ≡ n - 1 = length-ids_in rest (n - 1) (omega arith) in omega arith

pub ids_in-append : (xs ys : List ℕ) (n : ℕ) → length xs ≡ 2 * n → ids_in (xs ++ ys) ≡ ids_in xs ++ ids_in ys
ids_in-append [] ys n long = refl
ids_in-append (x ∷ []) ys n long = absurd (omega arith)
ids_in-append (x ∷ y ∷ rest) ys n long = ap (λ (l : List ℕ). from_be_bytes w16 (x ∷ y ∷ []) ∷ l) (ids_in-append rest ys (n - 1) (omega arith))

-- ids are read back
pub ids_in-flat_map_two : (ids : List ℕ) → ((i : ℕ) → get_or ids i 0 < 2 ^ 16) → ids_in (flat_map two_bytes ids) ≡ ids
unfolding two_bytes
ids_in-flat_map_two [] fit = refl
ids_in-flat_map_two (id ∷ ids) fit =
    ap (λ (n : ℕ). n ∷ ids_in (flat_map two_bytes ids)) (from_be_bytes-to_be_bytes_2 id (fit 0))
    ∙ ap (λ (l : List ℕ). id ∷ l) (ids_in-flat_map_two ids (λ i. fit (suc i)))

-- bytes are the ids that they encode
pub flat_map_two-ids_in : (xs : List ℕ) (n : ℕ) → length xs ≡ 2 * n → AreBytes xs → flat_map two_bytes (ids_in xs) ≡ xs
unfolding two_bytes
flat_map_two-ids_in [] n long are = refl
flat_map_two-ids_in (x ∷ []) n long are = absurd (omega arith)
flat_map_two-ids_in (x ∷ y ∷ rest) n long are =
    ap (λ (l : List ℕ). l ++ flat_map two_bytes (ids_in rest)) (be_bytes_2 (x ∷ y ∷ []) (from_be_bytes w16 (x ∷ y ∷ [])) refl (AreBytes-part (x ∷ y ∷ rest) 2 0 are) refl)
    ∙ ap (λ (l : List ℕ). x ∷ y ∷ l) (flat_map_two-ids_in rest (n - 1) (omega arith) (λ i. are (suc (suc i))))

-- numbers of a list are those of its parts
pub front_fits : (xs ys : List ℕ) → ((i : ℕ) → get_or (xs ++ ys) i 0 < 2 ^ 16) → (i : ℕ) → get_or xs i 0 < 2 ^ 16
front_fits [] ys fit i = omega arith
front_fits (x ∷ xs) ys fit zero = fit 0
front_fits (x ∷ xs) ys fit (suc i) = front_fits xs ys (λ k. fit (suc k)) i

pub back_fits : (xs ys : List ℕ) → ((i : ℕ) → get_or (xs ++ ys) i 0 < 2 ^ 16) → (i : ℕ) → get_or ys i 0 < 2 ^ 16
back_fits [] ys fit i = fit i
back_fits (x ∷ xs) ys fit i = back_fits xs ys (λ k. fit (suc k)) i
