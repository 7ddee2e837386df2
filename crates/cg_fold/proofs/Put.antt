-- An insertion into sorted entries is an insertion into their map.
use Rattle.std.proofs.Common.{◌≡◌, ℕ, ◌<◌, List, length, get_or, set, ap, sym, ◌∙◌, subst, refl, Bool, true, false}
use Rattle.std.proofs.Math.Dec.{T}
use Rattle.std.specs.declared.cmp.Ordering.{Ordering}
use Rattle.std.specs.Prelude.{IsTrue}
use Rattle.std.specs.Cmp.{IsTotalOrder}
use Rattle.std.specs.declared.cmp.Ordering.TheVariants.{Equal}
use Rattle.std.specs.List.{prefix_len, insert}
use Rattle.std.specs.Ordering.{is_lt}
use Rattle.cg_fold.proofs.Place.{put-new, put-same}
use Rattle.std.specs.FinMap as map
use Rattle.std.specs.FinMap.{is_sorted, put}

pub tested : {b : Bool} → IsTrue b → T b
tested is = subst T (sym is) tt

pub is_true : (b : Bool) → T b → IsTrue b
is_true true h = refl
is_true false h = absurd h

module _ {K X : Type 0} {R : K → K → Ordering} (o : IsTotalOrder R) where
  pub sorted-put : (key : K) (v : X) (es : List (K × X)) → T (is_sorted R es) → T (is_sorted R (put R key v es))
  sorted-put key v es sorted =
      let m = map.from_sorted {R = R} es in
      subst (λ l. T (is_sorted R l)) (map.entries-insert o m key v ∙ ap (put R key v) (map.entries-from_sorted R es sorted)) (map.entries_sorted (map.insert m key v))

  pub insert-from_sorted : (key : K) (v : X) (es : List (K × X)) → T (is_sorted R es) → map.insert (map.from_sorted {R = R} es) key v ≡ map.from_sorted (put R key v es)
  insert-from_sorted key v es sorted =
      map.same_entries_map _ _ (map.entries-insert o (map.from_sorted es) key v ∙ ap (put R key v) (map.entries-from_sorted R es sorted)
      ∙ sym (map.entries-from_sorted R (put R key v es) (sorted-put key v es sorted)))

  -- a row that is overwritten, and one that is inserted, in the form of the calls
  pub put_over : (items deref deref' : List (K × X)) (at : ℕ) (key : K) (v : X) (found : K × X)
      → deref ≡ items → deref' ≡ items → at ≡ prefix_len (λ e. is_lt (R e.0 key)) deref
      → (at < length deref') × ((d : K × X) → R (get_or deref' at d).0 key ≡ Equal)
      → found ≡ get_or items at found → set items at (found.0, v) ≡ put R key v items
  put_over items deref deref' at key v found same same' place own is =
      let inside : at < length items = subst (λ l. at < length l) same' own.0 in
      let tie : R (get_or items at found).0 key ≡ Equal = subst (λ l. R (get_or l at found).0 key ≡ Equal) same' (own.1 found) in
      let placed : at ≡ prefix_len (λ e. is_lt (R e.0 key)) items = place ∙ ap (prefix_len (λ (e : K × X). is_lt (R e.0 key))) same in
      ap (λ (e : K × X). set items at (e.0, v)) is ∙ sym (put-same o key v items at found placed inside tie)

  pub put_between : (items deref deref' : List (K × X)) (at : ℕ) (key : K) (v : X)
      → deref ≡ items → deref' ≡ items → at ≡ prefix_len (λ e. is_lt (R e.0 key)) deref
      → ((d : K × X) → at < length deref' → R (get_or deref' at d).0 key ≡ Equal → ⊥)
      → insert items at (key, v) ≡ put R key v items
  put_between items deref deref' at key v same same' place other =
      let placed : at ≡ prefix_len (λ e. is_lt (R e.0 key)) items = place ∙ ap (prefix_len (λ (e : K × X). is_lt (R e.0 key))) same in
      sym (put-new o key v items at placed (λ d inside tie. other d (subst (λ l. at < length l) (sym same') inside) (subst (λ l. R (get_or l at d).0 key ≡ Equal) (sym same') tie)))

  pub put_keeps_order : (key : K) (v : X) (items new : List (K × X)) → new ≡ put R key v items → IsTrue (is_sorted R items) → IsTrue (is_sorted R new)
  put_keeps_order key v items new is sorted = subst (λ l. IsTrue (is_sorted R l)) (sym is) (is_true _ (sorted-put key v items (tested sorted)))
