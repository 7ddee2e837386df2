-- Bytes that a reader has left and a writer holds, where they are known.
use Rattle.std.proofs.Common.{ℕ, List, [], ◌++◌, Option, None, Some, sym, ap, ◌∙◌, refl, append_assoc, append-nil}
use Rattle.std.specs.Io.KnownBytes.{Appends, Consumes}

pub appends_then : (a b c : Option (List ℕ)) (xs ys : List ℕ) → Appends a b xs → Appends b c ys → Appends a c (xs ++ ys)
appends_then None b c xs ys p q = tt
appends_then (Some x) None c xs ys p q = absurd p
appends_then (Some x) (Some y) None xs ys p q = absurd q
appends_then (Some x) (Some y) (Some z) xs ys p q = q ∙ ap (λ l. l ++ ys) p ∙ append_assoc x xs ys

pub appends_nothing : (a : Option (List ℕ)) → Appends a a []
appends_nothing None = tt
appends_nothing (Some x) = sym (append-nil x)

pub consumes_then : (a b c : Option (List ℕ)) (xs ys : List ℕ) → Consumes a b xs → Consumes b c ys → Consumes a c (xs ++ ys)
consumes_then None b c xs ys p q = tt
consumes_then (Some x) None c xs ys p q = absurd p
consumes_then (Some x) (Some y) None xs ys p q = absurd q
consumes_then (Some x) (Some y) (Some z) xs ys p q = p ∙ ap (λ l. xs ++ l) q ∙ sym (append_assoc xs ys z)

pub consumes_nothing : (a : Option (List ℕ)) → Consumes a a []
consumes_nothing None = tt
consumes_nothing (Some x) = refl
