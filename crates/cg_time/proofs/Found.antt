-- Whether a key has an entry, around an entry e.
use Rattle.std.proofs.Common.{◌≡◌, ℕ, false, ◌||◌, List, [], ◌∷◌, ◌++◌, refl, ap, ◌∙◌}
use Rattle.std.specs.Cmp.{IsTotalOrder}
use Rattle.std.specs.Ordering.{eq_by_cmp, is_eq}
use Rattle.std.specs.declared.cmp.Ordering.{Ordering}
use Rattle.std.specs.declared.cmp.Ordering.TheVariants.{Less, Greater}
use Rattle.cg_time.specs.Entries.{IsAscending, has_key}
use Rattle.cg_time.proofs.Ascending.{IsBelow, IsAbove, is_below_back, is_above_front}

module _ {K : Type 0} (R : K → K → Ordering) where
  has_none : (k : K) (es : List (K × ℕ)) → IsBelow R k es → has_key R k es ≡ false
  has_none k [] b = refl
  has_none k (x ∷ es) b = ap (λ c. is_eq c || has_key R k es) b.0 ∙ has_none k es b.1

  has_front : (k : K) (l m : List (K × ℕ)) → IsBelow R k m → has_key R k (l ++ m) ≡ has_key R k l
  has_front k [] m b = has_none k m b
  has_front k (x ∷ l) m b = ap (λ c. eq_by_cmp R k x.0 || c) (has_front k l m b)

  has_past : (k : K) (l m : List (K × ℕ)) → IsAbove R k l → has_key R k (l ++ m) ≡ has_key R k m
  has_past k [] m a = refl
  has_past k (x ∷ l) m a = ap (λ c. is_eq c || has_key R k (l ++ m)) a.0 ∙ has_past k l m a.1

module _ {K : Type 0} {R : K → K → Ordering} (o : IsTotalOrder R) where
  pub has_key_below : (k : K) (l : List (K × ℕ)) (e : K × ℕ) (r : List (K × ℕ)) → IsAscending R (l ++ e ∷ r) → R k e.0 ≡ Less → has_key R k (l ++ e ∷ r) ≡ has_key R k l
  has_key_below k l e r s p = has_front R k l (e ∷ r) (is_below_back o k l e r s p)

  pub has_key_above : (k : K) (l : List (K × ℕ)) (e : K × ℕ) (r : List (K × ℕ)) → IsAscending R (l ++ e ∷ r) → R k e.0 ≡ Greater → has_key R k (l ++ e ∷ r) ≡ has_key R k r
  has_key_above k l e r s p = has_past R k l (e ∷ r) (is_above_front o k l e r s p) ∙ ap (λ c. is_eq c || has_key R k r) p
