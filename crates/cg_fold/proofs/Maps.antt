-- What the calls of a tree map say, in the words of finite maps.
use Rattle.std.proofs.Common.{◌≡◌, ℕ, Bool, true, false, cond, List, [], ◌∷◌, Some, None, ap, sym, ◌∙◌, refl, subst}
use Rattle.std.proofs.Math.Dec.{T}
use Rattle.std.specs.Prelude.{not, filter, bytes_eq}
use Rattle.std.specs.BTreeMap.{insert_entry, is_at}
use Rattle.std.specs.Map.{lookup, remove_entry, set_value}
use Rattle.std.specs.Cmp.{IsTotalOrder}
use Rattle.std.specs.Ordering.{eq_by_cmp, is_eq, is_lt, match_ordering}
use Rattle.std.specs.declared.cmp.Ordering.{Ordering}
use Rattle.std.specs.declared.cmp.Ordering.TheVariants.{Less, Equal, Greater}
use Rattle.std.specs.FinMap.{find, is_sorted, put}
use Rattle.std.specs.FinMap.Entries.{by_order}
use Rattle.std.proofs.lemmas.Slice.Eq.{bytes_eq-Decides}
use Rattle.cg_fold.specs.Key.{name_cmp}
use Rattle.cg_fold.specs.Grouped.{is_another}
use Rattle.cg_fold.proofs.Place.{above_all, below_all, both, less}
use Rattle.cg_fold.proofs.Names.{strange, tied}

module _ {K X : Type 0} (R : K → K → Ordering) where
  pub lookup-find : (q : K) (es : List (K × X)) → lookup (is_at (R q)) es ≡ find R q es
  lookup-find q [] = refl
  lookup-find q (e ∷ es) = ap (cond (is_eq (R q e.0)) (Some e.1)) (lookup-find q es)

  pub insert_entry-put : (k : K) (v : X) (es : List (K × X)) → insert_entry R es k v ≡ put R k v es
  insert_entry-put k v [] = refl
  insert_entry-put k v (e ∷ es) = step (R k e.0) (insert_entry-put k v es)
    where
      step : (o : Ordering) → insert_entry R es k v ≡ put R k v es
          → match_ordering o ((k, v) ∷ e ∷ es) ((e.0, v) ∷ es) (e ∷ insert_entry R es k v) ≡ by_order o ((k, v) ∷ e ∷ es) ((e.0, v) ∷ es) (e ∷ put R k v es)
      step Less rest = refl
      step Equal rest = refl
      step Greater rest = ap (λ l. e ∷ l) rest

-- a value written in the place of one that is there
module _ {K X : Type 0} {R : K → K → Ordering} where
  pub set_value-put : IsTotalOrder R → (k : K) (old v : X) (es : List (K × X)) → T (is_sorted R es) → find R k es ≡ Some old → set_value (is_at (R k)) es v ≡ put R k v es
  set_value-put o k old v [] sorted found = absurd cc
  set_value-put o k old v (e ∷ es) sorted found =
      let parts = both (below_all R e.0 es) (is_sorted R es) sorted in
      step (R k e.0) refl parts.0 (set_value-put o k old v es parts.1) found
    where
      step : (r : Ordering) → R k e.0 ≡ r → T (below_all R e.0 es) → (find R k es ≡ Some old → set_value (is_at (R k)) es v ≡ put R k v es) → cond (is_eq r) (Some e.1) (find R k es) ≡ Some old
          → cond (is_eq r) ((e.0, v) ∷ es) (e ∷ set_value (is_at (R k)) es v) ≡ by_order r ((k, v) ∷ e ∷ es) ((e.0, v) ∷ es) (e ∷ put R k v es)
      step Less before above rest here = absurd (let clash : None ≡ Some old = sym (above_all o k e.0 es before above) ∙ here in cc)
      step Equal tie above rest here = refl
      step Greater after above rest here = ap (λ l. e ∷ l) (rest here)

module _ {X : Type 0} (g : List ℕ) where
  all_others : (es : List (List ℕ × X)) → T (below_all name_cmp g es) → filter (λ held. is_another g held.0) es ≡ es
  all_others [] above = refl
  all_others (e ∷ es) above =
      let parts = both (is_lt (name_cmp g e.0)) (below_all name_cmp g es) above in
      ap (λ b. cond (not b) (e ∷ filter (λ held. is_another g held.0) es) (filter (λ held. is_another g held.0) es)) (strange g e.0 (ap is_eq (less (name_cmp g e.0) parts.0)))
      ∙ ap (λ l. e ∷ l) (all_others es parts.1)

  -- the entries without that of a group
  pub remove_entry-filter : (es : List (List ℕ × X)) → T (is_sorted name_cmp es) → remove_entry (is_at (name_cmp g)) es ≡ filter (λ held. is_another g held.0) es
  remove_entry-filter [] sorted = refl
  remove_entry-filter (e ∷ es) sorted =
      let parts = both (below_all name_cmp e.0 es) (is_sorted name_cmp es) sorted in
      step (eq_by_cmp name_cmp g e.0) refl parts.0 (remove_entry-filter es parts.1)
    where
      others : List (List ℕ × X)
      others = filter (λ held. is_another g held.0) es

      step : (b : Bool) → eq_by_cmp name_cmp g e.0 ≡ b → T (below_all name_cmp e.0 es) → remove_entry (is_at (name_cmp g)) es ≡ others
          → cond b es (e ∷ remove_entry (is_at (name_cmp g)) es) ≡ cond (not (bytes_eq e.0 g)) (e ∷ others) others
      step true is above rest =
          let same : g ≡ e.0 = tied g e.0 is in
          sym (all_others es (subst (λ q. T (below_all name_cmp q es)) (sym same) above))
          ∙ sym (ap (λ b. cond (not b) (e ∷ others) others) ((bytes_eq-Decides e.0 g).1 (sym same)))
      step false is above rest = ap (λ l. e ∷ l) rest ∙ sym (ap (λ b. cond (not b) (e ∷ others) others) (strange g e.0 is))
