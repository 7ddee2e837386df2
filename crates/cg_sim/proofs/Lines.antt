-- The first line of an input, read in parts.
use Rattle.std.proofs.Common.{Bool, false, not, eqb, ne_eqb, append-nil, ⊎_elim, ◌≡◌, ◌≢◌, ℕ, ◌+◌, ◌-◌, ◌≤◌, All, List, [], ◌∷◌, ◌++◌, length, take, drop, refl, sym, ap, subst, ◌∙◌, arith, append_assoc, length-append, Some, None, Option}
use Rattle.std.proofs.lemmas.List.{take-append-drop}
use Rattle.std.proofs.lemmas.List.Elements.{All-append, All-take}
use Rattle.std.proofs.Math.Seq.{drop-append_seam, take-append-add, take-nil}
use Rattle.std.proofs.BufReadLemmas.{take_through-append, through_part}
use Rattle.std.specs.Prelude.{◌==◌}
use Rattle.std.specs.Io.{StartsWith, StopsAt}
use Rattle.std.specs.Io.KnownBytes.{Consumes}
use Rattle.std.specs.Io.BufRead.{take_through}
use Rattle.cg_sim.specs.Reading.{HasNoEnd, IsNext, IsOver, first_line}
use Rattle.cg_sim.specs.declared.line.TheConstants.{SCRIPT_LINE_BYTES_MAX}

-- bytes without a line feed, and then some that stop at theirs
pub stops-append : (xs ys : List ℕ) → HasNoEnd xs → StopsAt ys 10 → StopsAt (xs ++ ys) 10
stops-append xs [] none stops = subst (λ l. StopsAt l 10) (sym (append-nil xs)) (All-take (λ b. b ≢ 10) (length xs - 1) xs none)
stops-append xs (y ∷ ys) none stops =
    let many : length (xs ++ y ∷ ys) - 1 ≡ length xs + (length (y ∷ ys) - 1) = omega (arith, length-append xs (y ∷ ys)) in
    subst (All (λ b. b ≢ 10)) (sym (ap (λ n. take n (xs ++ y ∷ ys)) many ∙ take-append-add xs (y ∷ ys) (length (y ∷ ys) - 1)))
    (All-append (λ b. b ≢ 10) xs (take (length (y ∷ ys) - 1) (y ∷ ys)) none stops)

-- what was read when the line was over is the first line
pub first_line-over : (line rest : List ℕ) → length line ≤ SCRIPT_LINE_BYTES_MAX + 1 → IsOver line (Some rest) → first_line (line ++ rest) ≡ line
unfolding first_line
first_line-over line rest bound over =
    let k = SCRIPT_LINE_BYTES_MAX + 1 - length line in
    let many : SCRIPT_LINE_BYTES_MAX + 1 ≡ length line + k = omega (arith, bound) in
    let shown : take (SCRIPT_LINE_BYTES_MAX + 1) (line ++ rest) ≡ line ++ take k rest = ap (λ n. take n (line ++ rest)) many ∙ take-append-add line rest k in
    ap (take_through 10) shown ∙ ⊎_elim
    (λ ends. (through_part 10 line (take k rest) ends.2 ends.1 (λ nil. absurd (omega (arith, nil, ends.0)))).0)
    (λ none.
    let nil : take k rest ≡ [] = ⊎_elim (λ long. let none_more : k ≡ 0 = omega (arith, long, bound) in ap (λ n. take n rest) none_more) (λ end. ap (take k) end ∙ take-nil k) none.1 in
    take_through-append 10 line (take k rest) none.0 ∙ ap (λ l. line ++ take_through 10 l) nil ∙ append-nil line)
    over

-- what was read of the input so far, and what is left of it
abbrev pub IsRead : List ℕ → List ℕ → Option (List ℕ) → Type 0
IsRead input line left = (rest : List ℕ) × (left ≡ Some rest) × (input ≡ line ++ rest)

-- one more part was read
read_rest : (input old new rest : List ℕ) (left : Option (List ℕ)) → input ≡ old ++ rest → StartsWith new old
    → Consumes (Some rest) left (drop (length old) new) → IsRead input new left
read_rest input old new rest None is begins taken = absurd taken
read_rest input old new rest (Some after) is begins taken =
    let whole : old ++ drop (length old) new ≡ new = ap (λ l. l ++ drop (length old) new) (sym begins) ∙ take-append-drop (length old) new in
    (after, refl, is ∙ ap (λ l. old ++ l) taken ∙ sym (append_assoc old (drop (length old) new) after) ∙ ap (λ l. l ++ after) whole)

pub read_more : (input old new : List ℕ) (was left : Option (List ℕ)) → IsRead input old was → StartsWith new old
    → Consumes was left (drop (length old) new) → IsRead input new left
read_more input old new was left before begins taken =
    read_rest input old new before.0 left before.2 begins (subst (λ o. Consumes o left (drop (length old) new)) before.1 taken)

-- nothing is left after an empty line that is over
nothing_left : (rest : List ℕ) → IsOver [] (Some rest) → rest ≡ []
nothing_left rest over = ⊎_elim (λ ends. absurd (omega (arith, ends.0))) (λ none. ⊎_elim (λ long. absurd (omega (arith, long))) (λ end. end) none.1) over

-- a line that is over is the next line of its input, unless it is empty
pub is_next : (input line rest : List ℕ) (is_empty : Bool) → is_empty ≡ (length line == 0) → input ≡ line ++ rest
    → length line ≤ SCRIPT_LINE_BYTES_MAX + 1 → IsOver line (Some rest) → IsNext input (not is_empty) line (Some rest)
is_next input [] rest is_empty tests is bound over =
    let nil = nothing_left rest over in
    subst (λ t. IsNext input (not t) [] (Some rest)) (sym tests) (is ∙ nil, ap Some nil)
is_next input (x ∷ xs) rest is_empty tests is bound over =
    let line = x ∷ xs in
    let first : first_line input ≡ line = ap first_line is ∙ first_line-over line rest bound over in
    let some : eqb (length line) 0 ≡ false = ne_eqb (length line) 0 (λ e. omega (arith, e)) in
    subst (λ t. IsNext input (not t) line (Some rest)) (sym (tests ∙ some)) (
      λ none. absurd (omega (arith, ap length (sym is ∙ none))),
      sym first,
      ap Some (sym (ap (λ l. drop (length l) input) first ∙ ap (drop (length line)) is ∙ drop-append_seam line rest)),
    )
