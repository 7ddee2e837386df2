-- What a change on one side of an entry e makes of the whole.
use Rattle.std.proofs.Common.{◌≡◌, ℕ, Bool, true, false, cond, List, ◌∷◌, ◌++◌, sym, ap, ◌∙◌, subst}
use Rattle.std.specs.BTreeMap.{insert_entry}
use Rattle.std.specs.Map.{remove_entry}
use Rattle.std.specs.Cmp.{IsTotalOrder}
use Rattle.std.specs.Ordering.{eq_by_cmp}
use Rattle.std.specs.declared.cmp.Ordering.{Ordering}
use Rattle.std.specs.declared.cmp.Ordering.TheVariants.{Less, Equal, Greater}
use Rattle.cg_time.specs.Entries.{IsAscending, has_key}
use Rattle.cg_time.proofs.Inserted.{insert_below, insert_above, insert_tied, ascending_insert}
use Rattle.cg_time.proofs.Removed.{remove_below, remove_above, remove_tied, ascending_remove}
use Rattle.cg_time.proofs.Found.{has_key_below, has_key_above}

-- new is what was wanted, and ascends
pub record Becomes {K : Type 0} (R : K → K → Ordering) (wanted new : List (K × ℕ)) : Type 0 where
  pub is : new ≡ wanted
  pub ascending : IsAscending R new

becomes : {K : Type 0} (R : K → K → Ordering) (wanted new : List (K × ℕ)) → new ≡ wanted → IsAscending R wanted → Becomes R wanted new
becomes R wanted new is s = record { is = is; ascending = subst (IsAscending R) (sym is) s }

module _ {K : Type 0} {R : K → K → Ordering} (o : IsTotalOrder R) (d l : List (K × ℕ)) (e : K × ℕ) (r : List (K × ℕ)) (same : d ≡ l ++ e ∷ r) (s : IsAscending R d) (k : K) where
  around : IsAscending R (l ++ e ∷ r)
  around = subst (IsAscending R) same s

  pub inserted_left : (v : ℕ) (new : List (K × ℕ)) → Less ≡ R k e.0 → new ≡ insert_entry R l k v → Becomes R (insert_entry R d k v) (new ++ e ∷ r)
  inserted_left v new p h = becomes R _ _ (ap (λ z. z ++ e ∷ r) h ∙ sym (insert_below R k v l e r (sym p)) ∙ ap (λ z. insert_entry R z k v) (sym same)) (ascending_insert o k v d s)

  pub inserted_right : (v : ℕ) (new : List (K × ℕ)) → Greater ≡ R k e.0 → new ≡ insert_entry R r k v → Becomes R (insert_entry R d k v) (l ++ e ∷ new)
  inserted_right v new p h = becomes R _ _ (ap (λ z. l ++ e ∷ z) h ∙ sym (insert_above o k v l e r around (sym p)) ∙ ap (λ z. insert_entry R z k v) (sym same)) (ascending_insert o k v d s)

  pub inserted_at : (v : ℕ) → Equal ≡ R k e.0 → Becomes R (insert_entry R d k v) (l ++ (e.0, v) ∷ r)
  inserted_at v p = becomes R _ _ (sym (insert_tied o k v l e r around (sym p)) ∙ ap (λ z. insert_entry R z k v) (sym same)) (ascending_insert o k v d s)

  pub removed_left : (new : List (K × ℕ)) → Less ≡ R k e.0 → new ≡ remove_entry (eq_by_cmp R k) l → Becomes R (remove_entry (eq_by_cmp R k) d) (new ++ e ∷ r)
  removed_left new p h = becomes R _ _ (ap (λ z. z ++ e ∷ r) h ∙ sym (remove_below o k l e r around (sym p)) ∙ ap (remove_entry (eq_by_cmp R k)) (sym same)) (ascending_remove R k d s)

  pub removed_right : (new : List (K × ℕ)) → Greater ≡ R k e.0 → new ≡ remove_entry (eq_by_cmp R k) r → Becomes R (remove_entry (eq_by_cmp R k) d) (l ++ e ∷ new)
  removed_right new p h = becomes R _ _ (ap (λ z. l ++ e ∷ z) h ∙ sym (remove_above o k l e r around (sym p)) ∙ ap (remove_entry (eq_by_cmp R k)) (sym same)) (ascending_remove R k d s)

  pub removed_at : Equal ≡ R k e.0 → Becomes R (remove_entry (eq_by_cmp R k) d) (l ++ r)
  removed_at p = becomes R _ _ (sym (remove_tied o k l e r around (sym p)) ∙ ap (remove_entry (eq_by_cmp R k)) (sym same)) (ascending_remove R k d s)

  pub found_left : (b : Bool) → Less ≡ R k e.0 → b ≡ has_key R k l → b ≡ has_key R k d
  found_left b p h = h ∙ sym (has_key_below o k l e r around (sym p)) ∙ ap (has_key R k) (sym same)

  pub found_right : (b : Bool) → Greater ≡ R k e.0 → b ≡ has_key R k r → b ≡ has_key R k d
  found_right b p h = h ∙ sym (has_key_above o k l e r around (sym p)) ∙ ap (has_key R k) (sym same)

  pub moved_left : (v : ℕ) (b : Bool) (new : List (K × ℕ)) → Less ≡ R k e.0 → new ≡ cond b (insert_entry R l k v) l → Becomes R (cond b (insert_entry R d k v) d) (new ++ e ∷ r)
  moved_left v true new p h = inserted_left v new p h
  moved_left v false new p h = becomes R _ _ (ap (λ z. z ++ e ∷ r) h ∙ sym same) s

  pub moved_right : (v : ℕ) (b : Bool) (new : List (K × ℕ)) → Greater ≡ R k e.0 → new ≡ cond b (insert_entry R r k v) r → Becomes R (cond b (insert_entry R d k v) d) (l ++ e ∷ new)
  moved_right v true new p h = inserted_right v new p h
  moved_right v false new p h = becomes R _ _ (ap (λ z. l ++ e ∷ z) h ∙ sym same) s

-- the keys still ascend after a change of a whole list
module _ {K : Type 0} {R : K → K → Ordering} (o : IsTotalOrder R) (d : List (K × ℕ)) (s : IsAscending R d) (k : K) where
  pub ascending_inserted : (v : ℕ) (old new : List (K × ℕ)) → old ≡ d → new ≡ insert_entry R old k v → IsAscending R new
  ascending_inserted v old new same is = subst (IsAscending R) (sym is) (ascending_insert o k v old (subst (IsAscending R) (sym same) s))

  pub ascending_removed : (old new : List (K × ℕ)) → old ≡ d → new ≡ remove_entry (eq_by_cmp R k) old → IsAscending R new
  ascending_removed old new same is = subst (IsAscending R) (sym is) (ascending_remove R k old (subst (IsAscending R) (sym same) s))

  pub ascending_moved : (v : ℕ) (b : Bool) (old new : List (K × ℕ)) → old ≡ d → new ≡ cond b (insert_entry R old k v) old → IsAscending R new
  ascending_moved v true old new same is = ascending_inserted v old new same is
  ascending_moved v false old new same is = subst (IsAscending R) (sym (is ∙ same)) s
