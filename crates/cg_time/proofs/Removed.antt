-- Removal from entries whose keys ascend, around an entry e.
use Rattle.std.proofs.Common.{◌≡◌, ℕ, Bool, true, false, cond, List, [], ◌∷◌, ◌++◌, refl, ap, ◌∙◌}
use Rattle.std.specs.List.{AllByRecursion}
use Rattle.std.specs.List.Sorted.{IsStrictlySortedBy}
use Rattle.std.specs.Map.{keys_of, remove_entry}
use Rattle.std.specs.Cmp.{IsTotalOrder}
use Rattle.std.specs.Ordering.{eq_by_cmp, is_eq}
use Rattle.std.specs.declared.cmp.Ordering.{Ordering}
use Rattle.std.specs.declared.cmp.Ordering.TheVariants.{Less, Equal, Greater}
use Rattle.cg_time.specs.Entries.{IsAscending}
use Rattle.cg_time.proofs.Ascending.{IsBelow, IsAbove, is_below_back, is_above_front, is_above_tied}

cond_append : {A : Type 0} (b : Bool) (x y x' y' m : List A) → x' ≡ x ++ m → y' ≡ y ++ m → cond b x' y' ≡ cond b x y ++ m
cond_append true x y x' y' m p q = p
cond_append false x y x' y' m p q = q

module _ {K : Type 0} (R : K → K → Ordering) where
  pub remove_none : (k : K) (es : List (K × ℕ)) → IsBelow R k es → remove_entry (eq_by_cmp R k) es ≡ es
  remove_none k [] b = refl
  remove_none k (x ∷ es) b = ap (λ c. cond (is_eq c) es (x ∷ remove_entry (eq_by_cmp R k) es)) b.0 ∙ ap (λ z. x ∷ z) (remove_none k es b.1)

  pub remove_front : (k : K) (l m : List (K × ℕ)) → IsBelow R k m → remove_entry (eq_by_cmp R k) (l ++ m) ≡ remove_entry (eq_by_cmp R k) l ++ m
  remove_front k [] m b = remove_none k m b
  remove_front k (x ∷ l) m b = cond_append (eq_by_cmp R k x.0) _ _ _ _ m refl (ap (λ z. x ∷ z) (remove_front k l m b))

  pub remove_past : (k : K) (l m : List (K × ℕ)) → IsAbove R k l → remove_entry (eq_by_cmp R k) (l ++ m) ≡ l ++ remove_entry (eq_by_cmp R k) m
  remove_past k [] m a = refl
  remove_past k (x ∷ l) m a = ap (λ c. cond (is_eq c) (l ++ m) (x ∷ remove_entry (eq_by_cmp R k) (l ++ m))) a.0 ∙ ap (λ z. x ∷ z) (remove_past k l m a.1)

  all_removed : (P : K → Type 0) (k : K) (es : List (K × ℕ)) → AllByRecursion P (keys_of es) → AllByRecursion P (keys_of (remove_entry (eq_by_cmp R k) es))
  all_removed P k [] a = tt
  all_removed P k (x ∷ es) a = elim (eq_by_cmp R k x.0) as (λ b. AllByRecursion P (keys_of (cond b es (x ∷ remove_entry (eq_by_cmp R k) es)))) [ true ↦ a.1 | false ↦ (a.0, all_removed P k es a.1) ]

  pub ascending_remove : (k : K) (es : List (K × ℕ)) → IsAscending R es → IsAscending R (remove_entry (eq_by_cmp R k) es)
  unfolding IsStrictlySortedBy
  ascending_remove k [] s = tt
  ascending_remove k (x ∷ es) s = elim (eq_by_cmp R k x.0) as (λ b. IsAscending R (cond b es (x ∷ remove_entry (eq_by_cmp R k) es))) [ true ↦ s.1 | false ↦ (all_removed _ k es s.0, ascending_remove k es s.1) ]

module _ {K : Type 0} {R : K → K → Ordering} (o : IsTotalOrder R) where
  pub remove_below : (k : K) (l : List (K × ℕ)) (e : K × ℕ) (r : List (K × ℕ)) → IsAscending R (l ++ e ∷ r) → R k e.0 ≡ Less → remove_entry (eq_by_cmp R k) (l ++ e ∷ r) ≡ remove_entry (eq_by_cmp R k) l ++ e ∷ r
  remove_below k l e r s p = remove_front R k l (e ∷ r) (is_below_back o k l e r s p)

  pub remove_above : (k : K) (l : List (K × ℕ)) (e : K × ℕ) (r : List (K × ℕ)) → IsAscending R (l ++ e ∷ r) → R k e.0 ≡ Greater → remove_entry (eq_by_cmp R k) (l ++ e ∷ r) ≡ l ++ e ∷ remove_entry (eq_by_cmp R k) r
  remove_above k l e r s p = remove_past R k l (e ∷ r) (is_above_front o k l e r s p) ∙ ap (λ c. l ++ cond (is_eq c) r (e ∷ remove_entry (eq_by_cmp R k) r)) p

  pub remove_tied : (k : K) (l : List (K × ℕ)) (e : K × ℕ) (r : List (K × ℕ)) → IsAscending R (l ++ e ∷ r) → R k e.0 ≡ Equal → remove_entry (eq_by_cmp R k) (l ++ e ∷ r) ≡ l ++ r
  remove_tied k l e r s p = remove_past R k l (e ∷ r) (is_above_tied o k l e r s p) ∙ ap (λ c. l ++ cond (is_eq c) r (e ∷ remove_entry (eq_by_cmp R k) r)) p
