-- What a writer holds after one line and then another.
use Rattle.std.proofs.Common.{ℕ, List, [], ◌++◌, Option, None, Some, ap, sym, ◌∙◌, append_assoc, append-nil}
use Rattle.std.specs.Io.KnownBytes.{Appends}

pub appends_nothing : (a : Option (List ℕ)) → Appends a a []
appends_nothing None = tt
appends_nothing (Some x) = sym (append-nil x)

pub appends_then : (a b c : Option (List ℕ)) (xs ys : List ℕ) → Appends a b xs → Appends b c ys → Appends a c (xs ++ ys)
appends_then None b c xs ys p q = tt
appends_then (Some x) None c xs ys p q = absurd p
appends_then (Some x) (Some y) None xs ys p q = absurd q
appends_then (Some x) (Some y) (Some z) xs ys p q = q ∙ ap (λ l. l ++ ys) p ∙ append_assoc x xs ys
