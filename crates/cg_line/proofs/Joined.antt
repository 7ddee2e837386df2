-- Splitting joined texts gives the parts, and joining split text gives the whole.
use Rattle.std.proofs.Common.{◌≡◌, ℕ, ◌<◌, Bool, true, false, cond, List, [], ◌∷◌, ◌++◌, length, refl, sym, ap, ◌∙◌, arith, not, eqb, codes}
use Rattle.std.specs.Prelude.{◌&&◌}
use Rattle.std.specs.List.{list_all, AllByRecursion}
use Rattle.std.proofs.lemmas.Bool.{eqb-true}
use Rattle.cg_line.specs.Splitting.{before, behind, with_byte, words_of}
use Rattle.cg_line.specs.Words.{spaced}
use Rattle.cg_line.proofs.Value.{both_of}

-- the text does not contain the mark
abbrev pub IsFree : ℕ → List ℕ → Type 0
IsFree mark text = list_all (λ b. not (eqb b mark)) text ≡ true

-- a text whose bytes all pass a test that the mark does not pass
pub free_from : (p : ℕ → Bool) (mark : ℕ) (text : List ℕ) → p mark ≡ false → list_all p text ≡ true → IsFree mark text
free_from p mark [] other all = refl
free_from p mark (b ∷ bs) other all =
    let parts = both_of (p b) (list_all p bs) all in
    elim (eqb b mark) as (λ t. eqb b mark ≡ t → not t && list_all (λ b. not (eqb b mark)) bs ≡ true) [
      | true ↦ λ is. absurd (let same = ap p (eqb-true b mark is) in let first = parts.0 in cc)
      | false ↦ λ _. free_from p mark bs other parts.1
    ] refl

not_first : (b mark : ℕ) (bs : List ℕ) → IsFree mark (b ∷ bs) → (eqb b mark ≡ false) × IsFree mark bs
not_first b mark bs free =
    let parts = both_of (not (eqb b mark)) (list_all (λ b. not (eqb b mark)) bs) free in
    (elim (eqb b mark) as (λ t. not t ≡ true → t ≡ false) [ true ↦ λ e. absurd (cc) | false ↦ λ _. refl ] parts.0, parts.1)

same_is_same : (n : ℕ) → eqb n n ≡ true
same_is_same n = grind arith

pub before-joined : (mark : ℕ) (a b : List ℕ) → IsFree mark a → before mark (a ++ mark ∷ b) ≡ a
unfolding before
before-joined mark [] b free = ap (λ t. cond {A = List ℕ} t [] (mark ∷ before mark b)) (same_is_same mark)
before-joined mark (x ∷ xs) b free =
    let first = not_first x mark xs free in
    ap (λ t. cond t [] (x ∷ before mark (xs ++ mark ∷ b))) first.0 ∙ ap (λ ws. x ∷ ws) (before-joined mark xs b first.1)

pub behind-joined : (mark : ℕ) (a b : List ℕ) → IsFree mark a → behind mark (a ++ mark ∷ b) ≡ b
unfolding behind
behind-joined mark [] b free = ap (λ t. cond t b (behind mark b)) (same_is_same mark)
behind-joined mark (x ∷ xs) b free =
    let first = not_first x mark xs free in
    ap (λ t. cond t (xs ++ mark ∷ b) (behind mark (xs ++ mark ∷ b))) first.0 ∙ behind-joined mark xs b first.1

pub before-free : (mark : ℕ) (a : List ℕ) → IsFree mark a → before mark a ≡ a
unfolding before
before-free mark [] free = refl
before-free mark (x ∷ xs) free =
    let first = not_first x mark xs free in
    ap (λ t. cond t [] (x ∷ before mark xs)) first.0 ∙ ap (λ ws. x ∷ ws) (before-free mark xs first.1)

-- if a text follows the mark, the whole is joined of the two parts
pub joined-cut : (mark : ℕ) (w : List ℕ) → 0 < length (behind mark w) → before mark w ++ mark ∷ behind mark w ≡ w
unfolding before behind
joined-cut mark [] some = absurd (omega arith)
joined-cut mark (b ∷ bs) some =
    elim (eqb b mark) as (λ t. eqb b mark ≡ t → 0 < length (cond t bs (behind mark bs)) → cond t [] (b ∷ before mark bs) ++ mark ∷ cond t bs (behind mark bs) ≡ b ∷ bs) [
      | true ↦ λ is _. ap (λ n. n ∷ bs) (sym (eqb-true b mark is))
      | false ↦ λ _ later. ap (λ ws. b ∷ ws) (joined-cut mark bs later)
    ] refl some

-- a text has a first word
abbrev HasFirst : List (List ℕ) → Type 0
HasFirst ws = (v : List ℕ) × (vs : List (List ℕ)) × (ws ≡ v ∷ vs)

with_byte-first : (b : ℕ) (ws : List (List ℕ)) → HasFirst ws → HasFirst (with_byte b ws)
with_byte-first b ws first = (b ∷ first.0, first.1, ap (with_byte b) first.2)

first_of_words : (text : List ℕ) → HasFirst (words_of text)
unfolding words_of
first_of_words [] = ([], [], refl)
first_of_words (b ∷ bs) =
    elim (eqb b 32) as (λ t. HasFirst (cond t ([] ∷ words_of bs) (with_byte b (words_of bs)))) [
      | true ↦ ([], words_of bs, refl)
      | false ↦ with_byte-first b (words_of bs) (first_of_words bs)
    ]

spaced-empty : (ws : List (List ℕ)) → HasFirst ws → spaced ([] ∷ ws) ≡ 32 ∷ spaced ws
unfolding spaced
spaced-empty [] first = absurd (let e = first.2 in cc)
spaced-empty (v ∷ vs) first = refl

spaced-with_byte : (b : ℕ) (ws : List (List ℕ)) → HasFirst ws → spaced (with_byte b ws) ≡ b ∷ spaced ws
unfolding spaced
spaced-with_byte b [] first = absurd (let e = first.2 in cc)
spaced-with_byte b (w ∷ []) first = refl
spaced-with_byte b (w ∷ v ∷ vs) first = refl

pub spaced-words_of : (text : List ℕ) → spaced (words_of text) ≡ text
unfolding words_of spaced
spaced-words_of [] = refl
spaced-words_of (b ∷ bs) =
    elim (eqb b 32) as (λ t. eqb b 32 ≡ t → spaced (cond t ([] ∷ words_of bs) (with_byte b (words_of bs))) ≡ b ∷ bs) [
      | true ↦ λ is. spaced-empty (words_of bs) (first_of_words bs) ∙ (ap (λ ws. 32 ∷ ws) (spaced-words_of bs) ∙ ap (λ n. n ∷ bs) (sym (eqb-true b 32 is)))
      | false ↦ λ _. spaced-with_byte b (words_of bs) (first_of_words bs) ∙ ap (λ ws. b ∷ ws) (spaced-words_of bs)
    ] refl

words_of-front : (w rest : List ℕ) → IsFree 32 w → words_of ((w ++ codes " ") ++ rest) ≡ w ∷ words_of rest
unfolding words_of
words_of-front [] rest free = refl
words_of-front (b ∷ bs) rest free =
    let first = not_first b 32 bs free in
    ap (λ t. cond t ([] ∷ words_of ((bs ++ codes " ") ++ rest)) (with_byte b (words_of ((bs ++ codes " ") ++ rest)))) first.0
    ∙ ap (with_byte b) (words_of-front bs rest first.1)

words_of-free : (w : List ℕ) → IsFree 32 w → words_of w ≡ w ∷ []
unfolding words_of
words_of-free [] free = refl
words_of-free (b ∷ bs) free =
    let first = not_first b 32 bs free in
    ap (λ t. cond t ([] ∷ words_of bs) (with_byte b (words_of bs))) first.0 ∙ ap (with_byte b) (words_of-free bs first.1)

pub words_of-spaced : (w : List ℕ) (ws : List (List ℕ)) → AllByRecursion (IsFree 32) (w ∷ ws) → words_of (spaced (w ∷ ws)) ≡ w ∷ ws
unfolding spaced
words_of-spaced w [] free = words_of-free w free.0
words_of-spaced w (v ∷ vs) free = words_of-front w (spaced (v ∷ vs)) free.0 ∙ ap (λ us. w ∷ us) (words_of-spaced v vs free.1)

pub free_append : (mark : ℕ) (a b : List ℕ) → IsFree mark a → IsFree mark b → IsFree mark (a ++ b)
free_append mark [] b free later = later
free_append mark (x ∷ xs) b free later =
    let first = not_first x mark xs free in
    rw first.0 (free_append mark xs b first.1 later)
