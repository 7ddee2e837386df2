-- Known bytes grow by what is written.
use Rattle.std.proofs.Common.{◌≡◌, ◌⊎◌, inl, inr, ℕ, List, ◌++◌, Option, None, Some, Result, Err, ap, ◌∙◌, append_assoc}
use Rattle.std.specs.Io.KnownBytes.{Appends}
use Rattle.cg_sim.specs.declared.stop.Stop.{Stop}
use Rattle.cg_sim.specs.declared.stop.Stop.TheVariants.{Io}

pub appends_then : (a b c : Option (List ℕ)) (xs ys : List ℕ) → Appends a b xs → Appends b c ys → Appends a c (xs ++ ys)
appends_then None b c xs ys p q = tt
appends_then (Some x) None c xs ys p q = absurd p
appends_then (Some x) (Some y) None xs ys p q = absurd q
appends_then (Some x) (Some y) (Some z) xs ys p q = q ∙ ap (λ l. l ++ ys) p ∙ append_assoc x xs ys

pub appends_three : (a b c d : Option (List ℕ)) (xs ys zs : List ℕ) → Appends a b xs → Appends b c ys → Appends c d zs → Appends a d (xs ++ (ys ++ zs))
appends_three a b c d xs ys zs p q r = appends_then a b d xs (ys ++ zs) p (appends_then b c d ys zs q r)

-- what was written before, and then more
pub more_written : (a b c : Option (List ℕ)) (xs : List ℕ) → ((said : List ℕ) × Appends a b said) → Appends b c xs → (said : List ℕ) × Appends a c said
more_written a b c xs before more = (before.0 ++ xs, appends_then a b c before.0 xs before.1 more)

-- the same, if a write may have failed
pub stop_written : (a b c : Option (List ℕ)) (xs : List ℕ) (stop : Stop) → ((said : List ℕ) × Appends a b said) → (stop ≡ Io) ⊎ Appends b c xs
    → ((let r : Result (Unit {0}) Stop = Err stop in r) ≡ Err Io) ⊎ ((said : List ℕ) × Appends a c said)
stop_written a b c xs stop before (inl io) = inl (ap Err io)
stop_written a b c xs stop before (inr more) = inr (more_written a b c xs before more)
