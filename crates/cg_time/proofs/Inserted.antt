-- Insertion into entries whose keys ascend, around an entry e.
use Rattle.std.proofs.Common.{◌≡◌, ℕ, List, [], ◌∷◌, ◌++◌, refl, ap, ◌∙◌}
use Rattle.std.specs.BTreeMap.{insert_entry}
use Rattle.std.specs.List.{AllByRecursion}
use Rattle.std.specs.List.Sorted.{IsStrictlySortedBy}
use Rattle.std.specs.Map.{keys_of}
use Rattle.std.specs.Cmp.{IsTotalOrder}
use Rattle.std.specs.Ordering.{match_ordering, ordering_reverse}
use Rattle.std.specs.declared.cmp.Ordering.{Ordering}
use Rattle.std.specs.declared.cmp.Ordering.TheVariants.{Less, Equal, Greater}
use Rattle.cg_time.specs.Entries.{IsAscending}
use Rattle.cg_time.proofs.Ascending.{IsAbove, below_chain, is_above_front, is_above_tied}

by_cases : {A : Type 0} (b : Ordering) (x y z x' y' z' m : List A) → x' ≡ x ++ m → y' ≡ y ++ m → z' ≡ z ++ m → match_ordering b x' y' z' ≡ match_ordering b x y z ++ m
by_cases Less x y z x' y' z' m p q r = p
by_cases Equal x y z x' y' z' m p q r = q
by_cases Greater x y z x' y' z' m p q r = r

module _ {K : Type 0} (R : K → K → Ordering) where
  -- below e: into the front
  pub insert_below : (k : K) (v : ℕ) (l : List (K × ℕ)) (e : K × ℕ) (r : List (K × ℕ)) → R k e.0 ≡ Less → insert_entry R (l ++ e ∷ r) k v ≡ insert_entry R l k v ++ e ∷ r
  insert_below k v [] e r p = ap (λ b. match_ordering b ((k, v) ∷ e ∷ r) ((e.0, v) ∷ r) (e ∷ insert_entry R r k v)) p
  insert_below k v (x ∷ l) e r p = by_cases (R k x.0) _ _ _ _ _ _ (e ∷ r) refl refl (ap (λ z. x ∷ z) (insert_below k v l e r p))

  -- above all of l: past it
  pub insert_past : (k : K) (v : ℕ) (l m : List (K × ℕ)) → IsAbove R k l → insert_entry R (l ++ m) k v ≡ l ++ insert_entry R m k v
  insert_past k v [] m a = refl
  insert_past k v (x ∷ l) m a = ap (λ b. match_ordering b ((k, v) ∷ x ∷ (l ++ m)) ((x.0, v) ∷ (l ++ m)) (x ∷ insert_entry R (l ++ m) k v)) a.0 ∙ ap (λ z. x ∷ z) (insert_past k v l m a.1)

module _ {K : Type 0} {R : K → K → Ordering} (o : IsTotalOrder R) where
  pub insert_above : (k : K) (v : ℕ) (l : List (K × ℕ)) (e : K × ℕ) (r : List (K × ℕ)) → IsAscending R (l ++ e ∷ r) → R k e.0 ≡ Greater → insert_entry R (l ++ e ∷ r) k v ≡ l ++ e ∷ insert_entry R r k v
  insert_above k v l e r s p = insert_past R k v l (e ∷ r) (is_above_front o k l e r s p) ∙ ap (λ b. l ++ match_ordering b ((k, v) ∷ e ∷ r) ((e.0, v) ∷ r) (e ∷ insert_entry R r k v)) p

  pub insert_tied : (k : K) (v : ℕ) (l : List (K × ℕ)) (e : K × ℕ) (r : List (K × ℕ)) → IsAscending R (l ++ e ∷ r) → R k e.0 ≡ Equal → insert_entry R (l ++ e ∷ r) k v ≡ l ++ (e.0, v) ∷ r
  insert_tied k v l e r s p = insert_past R k v l (e ∷ r) (is_above_tied o k l e r s p) ∙ ap (λ b. l ++ match_ordering b ((k, v) ∷ e ∷ r) ((e.0, v) ∷ r) (e ∷ insert_entry R r k v)) p

  all_inserted : (P : K → Type 0) (k : K) (v : ℕ) (es : List (K × ℕ)) → P k → AllByRecursion P (keys_of es) → AllByRecursion P (keys_of (insert_entry R es k v))
  all_inserted P k v [] p a = (p, tt)
  all_inserted P k v (x ∷ es) p a = elim (R k x.0) as (λ b. AllByRecursion P (keys_of (match_ordering b ((k, v) ∷ x ∷ es) ((x.0, v) ∷ es) (x ∷ insert_entry R es k v)))) [
    | Less ↦ (p, a)
    | Equal ↦ a
    | Greater ↦ (a.0, all_inserted P k v es p a.1)
  ]

  ascending_by : (k : K) (v : ℕ) (x : K × ℕ) (es : List (K × ℕ)) (b : Ordering) → R k x.0 ≡ b → IsAscending R (x ∷ es) → IsAscending R (insert_entry R es k v) → IsAscending R (match_ordering b ((k, v) ∷ x ∷ es) ((x.0, v) ∷ es) (x ∷ insert_entry R es k v))
  unfolding IsStrictlySortedBy
  ascending_by k v x es Less p s h = ((p, below_chain o k x.0 es p s.0), s)
  ascending_by k v x es Equal p s h = s
  ascending_by k v x es Greater p s h = (all_inserted (λ y. R x.0 y ≡ Less) k v es (o.antisymm x.0 k ∙ ap ordering_reverse p) s.0, h)

  pub ascending_insert : (k : K) (v : ℕ) (es : List (K × ℕ)) → IsAscending R es → IsAscending R (insert_entry R es k v)
  unfolding IsStrictlySortedBy
  ascending_insert k v [] s = (tt, tt)
  ascending_insert k v (x ∷ es) s = ascending_by k v x es (R k x.0) refl s (ascending_insert k v es s.1)
