-- Lists with distinct keys, by their first element and by their last.
use Rattle.std.proofs.Common.{◌≡◌, ◌-◌, ◌<◌, Bool, false, List, [], ◌∷◌, ◌++◌, length, take, drop, get_or, refl, sym, subst, arith}
use Rattle.std.specs.Prelude.{◌||◌}
use Rattle.std.proofs.lemmas.List.{take_all}
use Rattle.std.specs.List.{list_any, AllByRecursion, IsDistinct}
use Rattle.std.proofs.lemmas.Bool.{or_parts}

-- if no element passes the test, each fails it
pub all_fail : {X : Type 0} (p : X → Bool) (xs : List X) → list_any p xs ≡ false → AllByRecursion (λ x. p x ≡ false) xs
all_fail p [] e = tt
all_fail p (x ∷ xs) e = let h = or_parts (p x) (list_any p xs) e in (h.0, all_fail p xs h.1)

-- if each element fails the test, none passes it
pub none_passes : {X : Type 0} (p : X → Bool) (xs : List X) → AllByRecursion (λ x. p x ≡ false) xs → list_any p xs ≡ false
none_passes p [] h = refl
none_passes p (x ∷ xs) h = rw (h.0, none_passes p xs h.1) refl

pub AllByRecursion-push : {X : Type 0} (P : X → Type 0) (xs : List X) (y : X) → AllByRecursion P xs → P y → AllByRecursion P (xs ++ y ∷ [])
AllByRecursion-push P [] y h p = (p, tt)
AllByRecursion-push P (x ∷ xs) y h p = (h.0, AllByRecursion-push P xs y h.1 p)

-- if no element passes either of two tests, none passes their `or`
pub neither : {X : Type 0} (p q : X → Bool) (xs : List X) → list_any p xs ≡ false → list_any q xs ≡ false → list_any (λ x. p x || q x) xs ≡ false
neither p q [] none other = refl
neither p q (x ∷ xs) none other =
    let n = or_parts (p x) (list_any p xs) none in
    let o = or_parts (q x) (list_any q xs) other in
    rw (n.0, o.0, neither p q xs n.1 o.1) refl

pub neither_parts : {X : Type 0} (p q : X → Bool) (xs : List X) → list_any (λ x. p x || q x) xs ≡ false → (list_any p xs ≡ false) × (list_any q xs ≡ false)
neither_parts p q [] none = (refl, refl)
neither_parts p q (x ∷ xs) none =
    let n = or_parts (p x || q x) (list_any (λ y. p y || q y) xs) none in
    let here = or_parts (p x) (q x) n.0 in
    let there = neither_parts p q xs n.1 in
    (rw (here.0, there.0) refl, rw (here.1, there.1) refl)

-- distinct keys, and one more that differs from all of them
pub IsDistinct-push : {X : Type 0} (e : X → X → Bool) (xs : List X) (y : X) → IsDistinct e xs → list_any (λ x. e x y) xs ≡ false → IsDistinct e (xs ++ y ∷ [])
unfolding IsDistinct
IsDistinct-push e [] y h none = (tt, tt)
IsDistinct-push e (x ∷ xs) y h none =
    let n = or_parts (e x y) (list_any (λ z. e z y) xs) none in
    (AllByRecursion-push (λ z. e x z ≡ false) xs y h.0 n.0, IsDistinct-push e xs y h.1 n.1)

AllByRecursion-middle : {X : Type 0} (P : X → Type 0) (xs : List X) (y : X) (ys : List X) → AllByRecursion P (xs ++ y ∷ ys) → P y
AllByRecursion-middle P [] y ys h = h.0
AllByRecursion-middle P (x ∷ xs) y ys h = AllByRecursion-middle P xs y ys h.1

-- one of distinct keys differs from those before it
pub IsDistinct-middle : {X : Type 0} (e : X → X → Bool) (xs : List X) (y : X) (ys : List X) → IsDistinct e (xs ++ y ∷ ys) → list_any (λ x. e x y) xs ≡ false
unfolding IsDistinct
IsDistinct-middle e [] y ys h = refl
IsDistinct-middle e (x ∷ xs) y ys h = rw (AllByRecursion-middle (λ z. e x z ≡ false) xs y ys h.0, IsDistinct-middle e xs y ys h.1) refl

pub IsDistinct-nil : {X : Type 0} (e : X → X → Bool) → IsDistinct e []
unfolding IsDistinct
IsDistinct-nil e = tt

pub nil_is_distinct : {X : Type 0} (e : X → X → Bool) (xs : List X) → length xs < 1 → IsDistinct e xs
unfolding IsDistinct
nil_is_distinct e [] h = tt
nil_is_distinct e (x ∷ xs) h = absurd (omega arith)

-- the elements after the first, as a slice pattern gives them
abbrev pub behind : {X : Type 0} → List X → List X
behind xs = take (length xs - 1) (drop 1 xs)

behind-cons : {X : Type 0} (y : X) (xs : List X) → behind (y ∷ xs) ≡ xs
behind-cons y xs = take_all (length (y ∷ xs) - 1) xs (omega arith)

-- the first differs from the others, which are distinct
pub distinct_parts : {X : Type 0} (e : X → X → Bool) (xs : List X) (x : X) → 0 < length xs → x ≡ get_or xs 0 x → IsDistinct e xs → (list_any (e x) (behind xs) ≡ false) × IsDistinct e (behind xs)
unfolding IsDistinct
distinct_parts e [] x long first h = absurd (omega arith)
distinct_parts {X} e (y ∷ xs) x long first h =
    let parts : (list_any (e y) xs ≡ false) × IsDistinct e xs = (none_passes (e y) xs h.0, h.1) in
    let there : (list_any (e y) (behind (y ∷ xs)) ≡ false) × IsDistinct e (behind (y ∷ xs)) =
    subst (λ (l : List X). (list_any (e y) l ≡ false) × IsDistinct e l) (sym (behind-cons y xs)) parts in
    subst (λ (z : X). (list_any (e z) (behind (y ∷ xs)) ≡ false) × IsDistinct e (behind (y ∷ xs))) (sym first) there

pub distinct_from_parts : {X : Type 0} (e : X → X → Bool) (xs : List X) (x : X) → 0 < length xs → x ≡ get_or xs 0 x → list_any (e x) (behind xs) ≡ false → IsDistinct e (behind xs) → IsDistinct e xs
unfolding IsDistinct
distinct_from_parts e [] x long first none h = absurd (omega arith)
distinct_from_parts {X} e (y ∷ xs) x long first none h =
    let none_of_y : list_any (e y) (behind (y ∷ xs)) ≡ false = subst (λ (z : X). list_any (e z) (behind (y ∷ xs)) ≡ false) first none in (
      all_fail (e y) xs (subst (λ (l : List X). list_any (e y) l ≡ false) (behind-cons y xs) none_of_y),
      subst (λ (l : List X). IsDistinct e l) (behind-cons y xs) h,
    )
