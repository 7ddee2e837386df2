-- Answers that are picked from replies, one after another.
use Rattle.std.proofs.Common.{◌≡◌, ◌≤◌, List, [], ◌∷◌, length, inl, inr, arith}
use Rattle.cg_trail.specs.Entries.{Answer}
use Rattle.cg_trail.specs.Trails.{ArePicked}

-- without the first answer they are still picked
picked-fewer : (x : Answer) (xs ys : List Answer) → ArePicked (x ∷ xs) ys → ArePicked xs ys
picked-fewer x xs [] h = absurd h
picked-fewer x [] (y ∷ ys) h = tt
picked-fewer x (z ∷ xs) (y ∷ ys) (inl h) = inr h.1
picked-fewer x (z ∷ xs) (y ∷ ys) (inr h) = inr (picked-fewer x (z ∷ xs) ys h)

found : (x y : Answer) (rest others : List Answer) → ArePicked (x ∷ rest) (y ∷ others) → ArePicked rest others
found x y rest others (inl h) = h.1
found x y rest others (inr h) = picked-fewer x rest others h

-- the first reply is the first answer, so it may be picked for it
pub picked-past : (answers : List Answer) (x y : Answer) (rest others : List Answer) → answers ≡ x ∷ rest → x ≡ y
    → (ArePicked answers (y ∷ others) → ArePicked rest others) × (ArePicked rest others → ArePicked answers (y ∷ others))
picked-past answers x y rest others is same = rw is (found x y rest others, λ h. inl (same, h))

-- from no replies nothing is picked
pub picked-none : (answers : List Answer) → 1 ≤ length answers → ArePicked answers [] → ⊥
picked-none [] some h = omega arith
picked-none (x ∷ xs) some h = h
