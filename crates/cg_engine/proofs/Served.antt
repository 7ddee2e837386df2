-- Requests that are handed to the desk, one after another.
use Rattle.std.proofs.Common.{◌≡◌, ◌≢◌, ◌+◌, ◌-◌, ◌<◌, ◌≤◌, ◌∙◌, ℕ, zero, suc, List, [], ◌∷◌, drop, take, length, length-drop, add-one, ap, arith, refl, subst, sym}
use Rattle.cg_desk.specs.Desks.{State}
use Rattle.cg_engine.specs.Requests.{AreServed, IsServed}
use Rattle.cg_engine.specs.declared.requests.Submission.{Submission}

-- one more request
served-suc : {L : Type 0} (before between after : State) (s : Submission L) (all rest : List (Submission L)) (i : ℕ) → drop i all ≡ s ∷ rest
    → AreServed before (take i all) between → IsServed between s after → AreServed before (take (suc i) all) after
unfolding AreServed
served-suc {L = L} before between after s [] rest zero is h served = absurd (cc)
served-suc {L = L} before between after s (x ∷ xs) rest zero is h served =
    let same : x ≡ s = cc in
    (after, (subst (λ (b : State). IsServed b x after) h (subst (λ (y : Submission L). IsServed between y after) (sym same) served), refl))
served-suc {L = L} before between after s [] rest (suc i) is h served = absurd (cc)
served-suc {L = L} before between after s (x ∷ xs) rest (suc i) is (next, (first, h)) served = (next, (first, served-suc next between after s xs rest i is h served))

rest-suc : {L : Type 0} (all rest : List (Submission L)) (s : Submission L) (i : ℕ) → drop i all ≡ s ∷ rest → drop (suc i) all ≡ rest
rest-suc [] rest s zero is = absurd (cc)
rest-suc [] rest s (suc i) is = absurd (cc)
rest-suc (x ∷ xs) rest s zero is = cc
rest-suc (x ∷ xs) rest s (suc i) is = rest-suc xs rest s i is

-- no more request
none-suc : {L : Type 0} (all : List (Submission L)) (i : ℕ) → drop i all ≡ [] → (drop (suc i) all ≡ []) × (take (suc i) all ≡ take i all)
none-suc [] zero is = (refl, refl)
none-suc [] (suc i) is = (refl, refl)
none-suc (x ∷ xs) zero is = absurd (cc)
none-suc (x ∷ xs) (suc i) is = let more = none-suc xs i is in (more.0, ap (λ l. x ∷ l) more.1)

pub rest-after : {L : Type 0} (all rest : List (Submission L)) (s : Submission L) (i : ℕ) → drop i all ≡ s ∷ rest → rest ≡ drop (i + 1) all
rest-after all rest s i is = sym (ap (λ (n : ℕ). drop n all) (add-one i) ∙ rest-suc all rest s i is)

pub rest-none : {L : Type 0} (all : List (Submission L)) (i : ℕ) → drop i all ≡ [] → drop (i + 1) all ≡ []
rest-none all i is = ap (λ (n : ℕ). drop n all) (add-one i) ∙ (none-suc all i is).0

pub served-more : {L : Type 0} (before between after : State) (s : Submission L) (all rest : List (Submission L)) (i : ℕ) → drop i all ≡ s ∷ rest
    → AreServed before (take i all) between → IsServed between s after → AreServed before (take (i + 1) all) after
served-more before between after s all rest i is h served =
    subst (λ (n : ℕ). AreServed before (take n all) after) (sym (add-one i)) (served-suc before between after s all rest i is h served)

pub served-none : {L : Type 0} (before after : State) (all : List (Submission L)) (i : ℕ) → drop i all ≡ []
    → AreServed before (take i all) after → AreServed before (take (i + 1) all) after
served-none {L = L} before after all i is h =
    subst (λ (l : List (Submission L)). AreServed before l after) (sym (ap (λ (n : ℕ). take n all) (add-one i) ∙ (none-suc all i is).1)) h

-- a hold of the lock leaves fewer
pub fewer : {L : Type 0} (all rest : List (Submission L)) (n : ℕ) → 1 ≤ n → rest ≡ drop n all → all ≢ [] → length rest < length all
fewer [] rest n some is not = absurd (not refl)
fewer (x ∷ xs) rest n some is not = let e : length rest ≡ length (x ∷ xs) - n = ap length is ∙ length-drop n (x ∷ xs) in omega arith
