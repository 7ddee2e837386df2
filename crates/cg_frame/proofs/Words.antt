-- Numbers in 8 bytes.
use Rattle.std.proofs.Common.{◌≡◌, ℕ, ◌+◌, ◌^◌, ◌<◌, List, length, take, drop, get_or, refl, sym, ◌∙◌, ap, subst, inl, inr, arith}
use Rattle.std.specs.Int.{from_be_bytes, w64}
use Rattle.std.proofs.lemmas.Bool.{cases_lt}
use Rattle.std.proofs.lemmas.List.{length-take, get_or-take, get_or-drop, get_or_past}
use Rattle.std.proofs.lemmas.Nat.{from_be_bytes-to_be_bytes_8}
use Rattle.cg_frame.specs.Frames.{word}

-- the bytes of a part are bytes
pub part_below : (xs : List ℕ) (m k i : ℕ) → ((j : ℕ) → get_or xs j 0 < 256) → get_or (take m (drop k xs)) i 0 < 256
part_below xs m k i below = elim (cases_lt i m) [
  | inl lt ↦ subst (λ (n : ℕ). n < 256) (sym (get_or-take m (drop k xs) i 0 lt ∙ get_or-drop k xs i 0)) (below (k + i))
  | inr ge ↦ subst (λ (n : ℕ). n < 256) (sym (get_or_past (take m (drop k xs)) i 0 (simp length-take (omega arith)))) (omega arith)
]

pub length-word : (n : ℕ) → length (word n) ≡ 8
unfolding word
length-word n = refl

pub word_injective : (m n : ℕ) → m < 2 ^ 64 → n < 2 ^ 64 → word m ≡ word n → m ≡ n
unfolding word
word_injective m n m_fits n_fits same = sym (from_be_bytes-to_be_bytes_8 m m_fits) ∙ ap (from_be_bytes w64) same ∙ from_be_bytes-to_be_bytes_8 n n_fits
