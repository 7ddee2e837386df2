-- What a search for a byte says of the parts before and after it.
use Rattle.std.proofs.Common.{◌≡◌, ℕ, zero, suc, ◌<◌, List, [], ◌∷◌, length, take, drop, Some, None, true, false, cond, refl, ap, arith, eqb, Option}
use Rattle.memchr.specs.Find.{Passes, is_byte}
use Rattle.std.specs.Option.{option_map}
use Rattle.cg_sim.specs.Text.{cut_of}

pub cut_of-none : (mark : ℕ) (text : List ℕ) → ((k : ℕ) → k < length text → Passes (is_byte mark) text k → ⊥) → cut_of mark text ≡ None
unfolding cut_of
cut_of-none mark [] nowhere = refl
cut_of-none mark (b ∷ bs) nowhere =
    elim (eqb b mark) as (λ t. eqb b mark ≡ t → cond {A = Option (List ℕ × List ℕ)} t (Some ([], bs)) (option_map (λ parts. (b ∷ parts.0, parts.1)) (cut_of mark bs)) ≡ None) [
      | true ↦ λ is. absurd (nowhere 0 (omega arith) is)
      | false ↦ λ is. ap (option_map (λ (parts : List ℕ × List ℕ). (b ∷ parts.0, parts.1))) (cut_of-none mark bs (λ k below is_mark. nowhere (suc k) (omega arith) is_mark))
    ] refl

pub cut_of-at : (mark : ℕ) (text : List ℕ) (k : ℕ) → k < length text → ((i : ℕ) → i < k → Passes (is_byte mark) text i → ⊥) → Passes (is_byte mark) text k
    → cut_of mark text ≡ Some (take k text, drop (suc k) text)
unfolding cut_of
cut_of-at mark [] k below before at = absurd (omega arith)
cut_of-at mark (b ∷ bs) zero below before at = ap (λ t. cond {A = Option (List ℕ × List ℕ)} t (Some ([], bs)) (option_map (λ (parts : List ℕ × List ℕ). (b ∷ parts.0, parts.1)) (cut_of mark bs))) at
cut_of-at mark (b ∷ bs) (suc k) below before at =
    let later = cut_of-at mark bs k (omega arith) (λ i less is. before (suc i) (omega arith) is) at in
    elim (eqb b mark) as (λ t. eqb b mark ≡ t → cond {A = Option (List ℕ × List ℕ)} t (Some ([], bs)) (option_map (λ (parts : List ℕ × List ℕ). (b ∷ parts.0, parts.1)) (cut_of mark bs)) ≡ Some (b ∷ take k bs, drop (suc k) bs)) [
      | true ↦ λ is. absurd (before 0 (omega arith) is)
      | false ↦ λ is. ap (option_map (λ (parts : List ℕ × List ℕ). (b ∷ parts.0, parts.1))) later
    ] refl
