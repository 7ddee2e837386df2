-- Lists of words, each parsed separately.
use Rattle.std.proofs.Common.{◌≡◌, ℕ, Bool, true, false, cond, List, [], ◌∷◌, map, refl, ap, ◌∙◌, Some, None}
use Rattle.std.specs.List.{list_all, AllByRecursion}
use Rattle.cg_line.proofs.Joined.{IsFree}
use Rattle.cg_line.proofs.Value.{both_of}

-- each word that passes is the spelling of its value
pub spelled_all : {A : Type 0} (p : List ℕ → Bool) (read : List ℕ → A) (word : A → List ℕ) → ((w : List ℕ) → p w ≡ true → word (read w) ≡ w)
    → (ws : List (List ℕ)) → list_all p ws ≡ true → map word (map read ws) ≡ ws
spelled_all p read word each [] all = refl
spelled_all p read word each (w ∷ ws) all =
    let parts = both_of (p w) (list_all p ws) all in
    ap (λ v. v ∷ map word (map read ws)) (each w parts.0) ∙ ap (λ vs. w ∷ vs) (spelled_all p read word each ws parts.1)

-- each value of a word that passes is lawful
pub lawful_all : {A : Type 0} (P : A → Type 0) (p : List ℕ → Bool) (read : List ℕ → A) → ((w : List ℕ) → p w ≡ true → P (read w))
    → (ws : List (List ℕ)) → list_all p ws ≡ true → AllByRecursion P (map read ws)
lawful_all P p read each [] all = tt
lawful_all P p read each (w ∷ ws) all =
    let parts = both_of (p w) (list_all p ws) all in
    (each w parts.0, lawful_all P p read each ws parts.1)

-- the spellings of lawful values pass
pub pass_all : {A : Type 0} (P : A → Type 0) (p : List ℕ → Bool) (word : A → List ℕ) → ((x : A) → P x → p (word x) ≡ true)
    → (xs : List A) → AllByRecursion P xs → list_all p (map word xs) ≡ true
pass_all P p word each [] all = refl
pass_all P p word each (x ∷ xs) all = rw (each x all.0) (pass_all P p word each xs all.1)

-- the spellings of lawful values are parsed as those values
pub read_all : {A : Type 0} (P : A → Type 0) (read : List ℕ → A) (word : A → List ℕ) → ((x : A) → P x → read (word x) ≡ x)
    → (xs : List A) → AllByRecursion P xs → map read (map word xs) ≡ xs
read_all P read word each [] all = refl
read_all P read word each (x ∷ xs) all =
    ap (λ y. y ∷ map read (map word xs)) (each x all.0) ∙ ap (λ ys. x ∷ ys) (read_all P read word each xs all.1)

-- what contracts see of each value
pub seen_all : {A B : Type 0} (P : A → Type 0) (read : List ℕ → B) (word : A → List ℕ) (see : A → B) → ((x : A) → P x → read (word x) ≡ see x)
    → (xs : List A) → AllByRecursion P xs → map read (map word xs) ≡ map see xs
seen_all P read word see each [] all = refl
seen_all P read word see each (x ∷ xs) all =
    ap (λ y. y ∷ map read (map word xs)) (each x all.0) ∙ ap (λ ys. see x ∷ ys) (seen_all P read word see each xs all.1)

-- the spellings have no space
pub free_all : {A : Type 0} (P : A → Type 0) (word : A → List ℕ) → ((x : A) → P x → IsFree 32 (word x))
    → (xs : List A) → AllByRecursion P xs → AllByRecursion (IsFree 32) (map word xs)
free_all P word each [] all = tt
free_all P word each (x ∷ xs) all = (each x all.0, free_all P word each xs all.1)

-- a map after a map
pub map_seen : {A B C : Type 0} (f : A → B) (g : B → C) (h : A → C) → ((x : A) → g (f x) ≡ h x) → (xs : List A) → map g (map f xs) ≡ map h xs
map_seen f g h each [] = refl
map_seen f g h each (x ∷ xs) = ap (λ y. y ∷ map g (map f xs)) (each x) ∙ ap (λ ys. h x ∷ ys) (map_seen f g h each xs)

-- a test that gave a value passed
pub chosen : {A : Type 0} (b : Bool) (x r : A) → cond b (Some x) None ≡ Some r → (b ≡ true) × (x ≡ r)
chosen true x r e = (refl, cc)
chosen false x r e = absurd (cc)
