-- Entries whose keys ascend, around an entry e.
use Rattle.std.proofs.Common.{◌≡◌, ℕ, List, [], ◌∷◌, ◌++◌, refl, sym, ap, ◌∙◌, subst, append_assoc}
use Rattle.std.specs.List.{AllByRecursion}
use Rattle.std.specs.List.Sorted.{IsStrictlySortedBy}
use Rattle.std.specs.Map.{keys_of}
use Rattle.std.specs.Cmp.{IsTotalOrder}
use Rattle.std.specs.Ordering.{ordering_reverse}
use Rattle.std.specs.declared.cmp.Ordering.{Ordering}
use Rattle.std.specs.declared.cmp.Ordering.TheVariants.{Less, Equal, Greater}
use Rattle.cg_time.specs.Entries.{IsAscending}

-- k is below each key
abbrev pub IsBelow : {K : Type 0} → (K → K → Ordering) → K → List (K × ℕ) → Type 0
IsBelow R k es = AllByRecursion (λ y. R k y ≡ Less) (keys_of es)

-- k is above each key
abbrev pub IsAbove : {K : Type 0} → (K → K → Ordering) → K → List (K × ℕ) → Type 0
IsAbove R k es = AllByRecursion (λ y. R k y ≡ Greater) (keys_of es)

all_front : {K : Type 0} (P : K → Type 0) (l m : List (K × ℕ)) → AllByRecursion P (keys_of (l ++ m)) → AllByRecursion P (keys_of l)
all_front P [] m a = tt
all_front P (x ∷ l) m a = (a.0, all_front P l m a.1)

all_back : {K : Type 0} (P : K → Type 0) (l m : List (K × ℕ)) → AllByRecursion P (keys_of (l ++ m)) → AllByRecursion P (keys_of m)
all_back P [] m a = a
all_back P (x ∷ l) m a = all_back P l m a.1

module _ {K : Type 0} (R : K → K → Ordering) where
  pub ascending_front : (l m : List (K × ℕ)) → IsAscending R (l ++ m) → IsAscending R l
  unfolding IsStrictlySortedBy
  ascending_front [] m s = tt
  ascending_front (x ∷ l) m s = (all_front _ l m s.0, ascending_front l m s.1)

  pub ascending_back : (l m : List (K × ℕ)) → IsAscending R (l ++ m) → IsAscending R m
  unfolding IsStrictlySortedBy
  ascending_back [] m s = s
  ascending_back (x ∷ l) m s = ascending_back l m s.1

  -- those after an entry
  pub ascending_after : (l : List (K × ℕ)) (e : K × ℕ) (r : List (K × ℕ)) → IsAscending R (l ++ e ∷ r) → IsAscending R r
  unfolding IsStrictlySortedBy
  ascending_after [] e r s = s.1
  ascending_after (x ∷ l) e r s = ascending_after l e r s.1

  -- around e, up to an entry f of those after it
  pub ascending_up_to : (l : List (K × ℕ)) (e : K × ℕ) (r a : List (K × ℕ)) (f : K × ℕ) (b : List (K × ℕ)) → IsAscending R (l ++ e ∷ r) → r ≡ a ++ f ∷ b → IsAscending R (l ++ e ∷ a)
  ascending_up_to l e r a f b s is = ascending_front (l ++ e ∷ a) (f ∷ b) (subst (IsAscending R) (ap (λ z. l ++ e ∷ z) is ∙ sym (append_assoc l (e ∷ a) (f ∷ b))) s)

  -- around e, after an entry f of those before it
  pub ascending_from : (l : List (K × ℕ)) (e : K × ℕ) (r a : List (K × ℕ)) (f : K × ℕ) (b : List (K × ℕ)) → IsAscending R (l ++ e ∷ r) → l ≡ a ++ f ∷ b → IsAscending R (b ++ e ∷ r)
  ascending_from l e r a f b s is = ascending_after a f (b ++ e ∷ r) (subst (IsAscending R) (ap (λ z. z ++ e ∷ r) is ∙ append_assoc a (f ∷ b) (e ∷ r)) s)

  pub ascending_tail : (e : K × ℕ) (es : List (K × ℕ)) → IsAscending R (e ∷ es) → IsAscending R es
  unfolding IsStrictlySortedBy
  ascending_tail e es s = s.1

  pub ascending_none : IsAscending R []
  unfolding IsStrictlySortedBy
  ascending_none = tt

  pub ascending_one : (e : K × ℕ) → IsAscending R (e ∷ [])
  unfolding IsStrictlySortedBy
  ascending_one e = (tt, tt)

module _ {K : Type 0} {R : K → K → Ordering} (o : IsTotalOrder R) where
  pub below_chain : (k q : K) (es : List (K × ℕ)) → R k q ≡ Less → IsBelow R q es → IsBelow R k es
  below_chain k q [] p b = tt
  below_chain k q (x ∷ es) p b = (o.trans k q x.0 p b.0, below_chain k q es p b.1)

  -- k is below the entry e and those after it
  pub is_below_back : (k : K) (l : List (K × ℕ)) (e : K × ℕ) (r : List (K × ℕ)) → IsAscending R (l ++ e ∷ r) → R k e.0 ≡ Less → IsBelow R k (e ∷ r)
  unfolding IsStrictlySortedBy
  is_below_back k [] e r s p = (p, below_chain k e.0 r p s.0)
  is_below_back k (x ∷ l) e r s p = is_below_back k l e r s.1 p

  above_by : (k x q : K) (b : Ordering) → R k q ≡ b → R x q ≡ Less → b ≡ Greater → R k x ≡ Greater
  above_by k x q b f p g = o.antisymm k x ∙ ap ordering_reverse (o.trans x q k p (o.antisymm q k ∙ ap ordering_reverse (f ∙ g)))

  -- k, above the key of e, is above those before it
  pub is_above_front : (k : K) (l : List (K × ℕ)) (e : K × ℕ) (r : List (K × ℕ)) → IsAscending R (l ++ e ∷ r) → R k e.0 ≡ Greater → IsAbove R k l
  unfolding IsStrictlySortedBy
  is_above_front k [] e r s p = tt
  is_above_front k (x ∷ l) e r s p = (above_by k x.0 e.0 (R k e.0) refl (all_back _ l (e ∷ r) s.0).0 p, is_above_front k l e r s.1 p)

  -- k, which ties with the key of e, is above those before it
  pub is_above_tied : (k : K) (l : List (K × ℕ)) (e : K × ℕ) (r : List (K × ℕ)) → IsAscending R (l ++ e ∷ r) → R k e.0 ≡ Equal → IsAbove R k l
  unfolding IsStrictlySortedBy
  is_above_tied k [] e r s p = tt
  is_above_tied k (x ∷ l) e r s p = (o.congr k e.0 x.0 p ∙ o.antisymm e.0 x.0 ∙ ap ordering_reverse (all_back _ l (e ∷ r) s.0).0, is_above_tied k l e r s.1 p)
