-- What a search for a mark says of the parts before and after it.
use Rattle.std.proofs.Common.{◌≡◌, ℕ, zero, suc, ◌<◌, List, [], ◌∷◌, length, take, drop, true, false, cond, refl, ap, sym, arith, eqb}
use Rattle.memchr.specs.Find.{Passes, is_byte}
use Rattle.cg_line.specs.Splitting.{before, behind, with_byte, words_of}

-- no byte of the text is the mark
abbrev pub IsNowhere : ℕ → List ℕ → Type 0
IsNowhere mark text = (k : ℕ) → k < length text → Passes (is_byte mark) text k → ⊥

-- the byte at k is the first mark
pub record IsFirstAt (mark : ℕ) (text : List ℕ) (k : ℕ) : Type 0 where
  pub within : k < length text
  pub none_before : (i : ℕ) → i < k → Passes (is_byte mark) text i → ⊥
  pub here : Passes (is_byte mark) text k

pub before-none : (mark : ℕ) (text : List ℕ) → IsNowhere mark text → before mark text ≡ text
unfolding before
before-none mark [] nowhere = refl
before-none mark (b ∷ bs) nowhere =
    elim (eqb b mark) as (λ t. eqb b mark ≡ t → cond t [] (b ∷ before mark bs) ≡ b ∷ bs) [
      | true ↦ λ is. absurd (nowhere 0 (omega arith) is)
      | false ↦ λ is. ap (λ ws. b ∷ ws) (before-none mark bs (λ k below is_mark. nowhere (suc k) (omega arith) is_mark))
    ] refl

pub behind-none : (mark : ℕ) (text : List ℕ) → IsNowhere mark text → behind mark text ≡ []
unfolding behind
behind-none mark [] nowhere = refl
behind-none mark (b ∷ bs) nowhere =
    elim (eqb b mark) as (λ t. eqb b mark ≡ t → cond t bs (behind mark bs) ≡ []) [
      | true ↦ λ is. absurd (nowhere 0 (omega arith) is)
      | false ↦ λ is. behind-none mark bs (λ k below is_mark. nowhere (suc k) (omega arith) is_mark)
    ] refl

pub words_of-none : (text : List ℕ) → IsNowhere 32 text → words_of text ≡ text ∷ []
unfolding words_of
words_of-none [] nowhere = refl
words_of-none (b ∷ bs) nowhere =
    elim (eqb b 32) as (λ t. eqb b 32 ≡ t → cond t ([] ∷ words_of bs) (with_byte b (words_of bs)) ≡ (b ∷ bs) ∷ []) [
      | true ↦ λ is. absurd (nowhere 0 (omega arith) is)
      | false ↦ λ is. ap (with_byte b) (words_of-none bs (λ k below is_mark. nowhere (suc k) (omega arith) is_mark))
    ] refl

-- the first mark of the rest
first_later : (mark b : ℕ) (bs : List ℕ) (k : ℕ) → IsFirstAt mark (b ∷ bs) (suc k) → IsFirstAt mark bs k
first_later mark b bs k at = let within = at.within in
    record { within = omega arith; none_before = λ i less is. at.none_before (suc i) (omega arith) is; here = at.here }

pub before-at : (mark : ℕ) (text : List ℕ) (k : ℕ) → IsFirstAt mark text k → take k text ≡ before mark text
unfolding before
before-at mark [] k at = let within = at.within in absurd (omega arith)
before-at mark (b ∷ bs) zero at = sym (ap (λ t. cond {A = List ℕ} t [] (b ∷ before mark bs)) at.here)
before-at mark (b ∷ bs) (suc k) at =
    elim (eqb b mark) as (λ t. eqb b mark ≡ t → take (suc k) (b ∷ bs) ≡ cond t [] (b ∷ before mark bs)) [
      | true ↦ λ is. absurd (at.none_before 0 (omega arith) is)
      | false ↦ λ is. ap (λ ws. b ∷ ws) (before-at mark bs k (first_later mark b bs k at))
    ] refl

pub behind-at : (mark : ℕ) (text : List ℕ) (k : ℕ) → IsFirstAt mark text k → drop (suc k) text ≡ behind mark text
unfolding behind
behind-at mark [] k at = let within = at.within in absurd (omega arith)
behind-at mark (b ∷ bs) zero at = sym (ap (λ t. cond {A = List ℕ} t bs (behind mark bs)) at.here)
behind-at mark (b ∷ bs) (suc k) at =
    elim (eqb b mark) as (λ t. eqb b mark ≡ t → drop (suc k) bs ≡ cond t bs (behind mark bs)) [
      | true ↦ λ is. absurd (at.none_before 0 (omega arith) is)
      | false ↦ λ is. behind-at mark bs k (first_later mark b bs k at)
    ] refl

pub words_of-at : (text : List ℕ) (k : ℕ) → IsFirstAt 32 text k → words_of text ≡ take k text ∷ words_of (drop (suc k) text)
unfolding words_of
words_of-at [] k at = let within = at.within in absurd (omega arith)
words_of-at (b ∷ bs) zero at = ap (λ t. cond t ([] ∷ words_of bs) (with_byte b (words_of bs))) at.here
words_of-at (b ∷ bs) (suc k) at =
    elim (eqb b 32) as (λ t. eqb b 32 ≡ t → cond t ([] ∷ words_of bs) (with_byte b (words_of bs)) ≡ take (suc k) (b ∷ bs) ∷ words_of (drop (suc k) bs)) [
      | true ↦ λ is. absurd (at.none_before 0 (omega arith) is)
      | false ↦ λ is. ap (with_byte b) (words_of-at bs k (first_later 32 b bs k at))
    ] refl
