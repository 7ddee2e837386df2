-- What a test says of all texts, or of one of them, when each is reached by a reference.
use Rattle.std.proofs.Common.{◌≡◌, ℕ, zero, suc, ◌<◌, Bool, List, [], ◌∷◌, length, map, get_or, refl, ap, arith}
use Rattle.std.specs.Prelude.{IsTrue, ◌&&◌, ◌||◌}
use Rattle.std.specs.List.{list_any, list_all}
use Rattle.cg_line.proofs.Value.{both_of}

pub any_seen : {X Y : Type 0} (p : X → Bool) (h : Y → X) (ys : List Y) → list_any (λ y. p (h y)) ys ≡ list_any p (map h ys)
any_seen p h [] = refl
any_seen p h (y ∷ ys) = ap (λ b. p (h y) || b) (any_seen p h ys)

pub all_seen : {X Y : Type 0} (p : X → Bool) (h : Y → X) (ys : List Y) → list_all (λ y. p (h y)) ys ≡ list_all p (map h ys)
all_seen p h [] = refl
all_seen p h (y ∷ ys) = ap (λ b. p (h y) && b) (all_seen p h ys)

pub each_seen : {X Y : Type 0} (p : X → Bool) (h : Y → X) (ys : List Y) (i : ℕ) (d : Y) → i < length ys → IsTrue (list_all p (map h ys)) → IsTrue (p (h (get_or ys i d)))
each_seen p h [] i d below all = absurd (omega arith)
each_seen p h (y ∷ ys) zero d below all = (both_of (p (h y)) (list_all p (map h ys)) all).0
each_seen p h (y ∷ ys) (suc i) d below all = each_seen p h ys i d (omega arith) (both_of (p (h y)) (list_all p (map h ys)) all).1
