-- Words with one space between them, and bytes as hexadecimal digits.
use Rattle.std.proofs.Common.{◌≡◌, ◌≤◌, ℕ, List, [], ◌∷◌, ◌++◌, length, map, take, codes, sym, ap, ◌∙◌, append_assoc, append-nil, refl}
use Rattle.std.proofs.lemmas.List.{take_all}
use Rattle.std.specs.List.{flat_map}
use Rattle.hex.specs.Hex.{encode_lower, encode_with}
use Rattle.cg_line.specs.Words.{bytes_word, spaced}

-- each word after the first follows a space
pub spaced_front : {A : Type 0} (f : A → List ℕ) (w : List ℕ) (ws : List (List ℕ)) (xs : List A)
    → spaced (w ∷ (ws ++ map f xs)) ≡ spaced (w ∷ ws) ++ flat_map (λ x. codes " " ++ f x) xs
unfolding spaced
spaced_front f w [] [] = sym (append-nil w)
spaced_front f w [] (x ∷ xs) =
    ap (λ l. w ++ codes " " ++ l) (spaced_front f (f x) [] xs)
    ∙ append_assoc w (codes " ") (f x ++ flat_map (λ y. codes " " ++ f y) xs)
spaced_front f w (v ∷ ws) xs =
    ap (λ l. w ++ codes " " ++ l) (spaced_front f v ws xs)
    ∙ sym (append_assoc (w ++ codes " ") (spaced (v ∷ ws)) (flat_map (λ y. codes " " ++ f y) xs))

-- each byte is spelled separately
pub lower_each : (bytes : List ℕ) → encode_lower bytes ≡ flat_map (λ b. encode_lower (b ∷ [])) bytes
unfolding encode_with
lower_each [] = refl
lower_each (b ∷ bs) = ap (λ l. encode_lower (b ∷ []) ++ l) (lower_each bs)

pub bytes_put : (old out bytes : List ℕ) (i : ℕ) → length bytes ≤ i → out ≡ (old ++ codes "x") ++ flat_map (λ b. encode_lower (b ∷ [])) (take i bytes)
    → out ≡ old ++ bytes_word bytes
bytes_put old out bytes i past is =
    is ∙ ap (λ l. (old ++ codes "x") ++ flat_map (λ b. encode_lower (b ∷ [])) l) (take_all i bytes past)
    ∙ append_assoc old (codes "x") (flat_map (λ b. encode_lower (b ∷ [])) bytes) ∙ ap (λ l. old ++ (codes "x" ++ l)) (sym (lower_each bytes))

-- some words, and then a list of words
pub listed_put : {A : Type 0} (f : A → List ℕ) (old mid new w : List ℕ) (ws : List (List ℕ)) (xs : List A)
    → mid ≡ old ++ spaced (w ∷ ws) → new ≡ mid ++ flat_map (λ x. codes " " ++ f x) xs → new ≡ old ++ spaced (w ∷ (ws ++ map f xs))
listed_put f old mid new w ws xs head list =
    list ∙ ap (λ m. m ++ flat_map (λ x. codes " " ++ f x) xs) head
    ∙ append_assoc old (spaced (w ∷ ws)) (flat_map (λ x. codes " " ++ f x) xs) ∙ ap (λ l. old ++ l) (sym (spaced_front f w ws xs))
