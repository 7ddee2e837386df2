-- The first group of two sorted lists, and its value in each.
use Rattle.std.proofs.Common.{◌≡◌, ℕ, List, [], ◌∷◌, Some, None, cond, ap, sym, ◌∙◌, refl, subst}
use Rattle.std.specs.Prelude.{IsTrue}
use Rattle.std.specs.Cmp.{tied_itself}
use Rattle.std.specs.Ordering.{is_eq, ordering_reverse}
use Rattle.std.specs.declared.cmp.Ordering.TheVariants.{Less, Equal, Greater}
use Rattle.std.specs.FinMap.{find, is_sorted}
use Rattle.cg_fold.specs.Key.{name_cmp}
use Rattle.cg_fold.specs.Snapshot.{PopsFirst, RemovesFirst, first_side, groups_of_either}
use Rattle.cg_fold.proofs.KeyOrder.{name_total, name_same}
use Rattle.cg_fold.proofs.Place.{above_all, below_all, both}
use Rattle.cg_fold.proofs.Put.{tested}
use Rattle.cg_fold.proofs.Merging.{none_first, left_alone, right_alone, left_first, both_first, right_first}

found_first : {Z : Type 0} (k : List ℕ × Z) (old rest : List (List ℕ × Z)) → old ≡ k ∷ rest → find name_cmp k.0 old ≡ Some k.1
found_first k old rest is = ap (find name_cmp k.0) is ∙ ap (λ r. cond (is_eq r) (Some k.1) (find name_cmp k.0 rest)) (tied_itself name_total k.0)

none_before : {Z : Type 0} (name : List ℕ) (l : List ℕ × Z) (rest : List (List ℕ × Z)) → IsTrue (is_sorted name_cmp (l ∷ rest)) → name_cmp name l.0 ≡ Less → find name_cmp name (l ∷ rest) ≡ None
none_before name l rest sorted before =
    let parts = both (below_all name_cmp l.0 rest) (is_sorted name_cmp rest) (tested sorted) in
    ap (λ r. cond (is_eq r) (Some l.1) (find name_cmp name rest)) before ∙ above_all name_total name l.0 rest before parts.0

own_removed : {Z : Type 0} (k : List ℕ × Z) (old rest : List (List ℕ × Z)) → old ≡ k ∷ rest → RemovesFirst old rest k.0 (Some k.1)
own_removed k old rest is = record { removed = is; found = found_first k old rest is }

none_removed : {Z : Type 0} (name : List ℕ) (l : List ℕ × Z) (rest : List (List ℕ × Z)) → IsTrue (is_sorted name_cmp (l ∷ rest)) → name_cmp name l.0 ≡ Less → RemovesFirst (l ∷ rest) (l ∷ rest) name None
none_removed name l rest sorted before = record { removed = refl; found = none_before name l rest sorted before }

module _ {X Y : Type 0} where
  pub no_side : (left : List (List ℕ × X)) (right : List (List ℕ × Y)) → first_side left right ≡ None → groups_of_either left right ≡ []
  no_side [] [] is = none_first {X = X} {Y = Y} [] [] refl refl
  no_side (k ∷ left) [] is = absurd cc
  no_side [] (l ∷ right) is = absurd cc
  no_side (k ∷ left) (l ∷ right) is = absurd cc

  pub left_side : (left : List (List ℕ × X)) (right : List (List ℕ × Y)) (k : List ℕ × X) (rest : List (List ℕ × X)) → IsTrue (is_sorted name_cmp left) → IsTrue (is_sorted name_cmp right)
      → first_side left right ≡ Some Less → left ≡ k ∷ rest → PopsFirst left right k.0 (Some k.1) None rest right
  left_side [] right k rest sorted also less is = absurd cc
  left_side (j ∷ more) [] k rest sorted also less is = record {
    first = left_alone (j ∷ more) [] k rest sorted also is refl;
    of_left = own_removed k (j ∷ more) rest is;
    of_right = record { removed = refl; found = refl };
  }
  left_side (j ∷ more) (l ∷ right) k rest sorted also less is =
      let here : name_cmp j.0 l.0 ≡ Less = cc in
      let same : j ≡ k = cc in
      let before : name_cmp k.0 l.0 ≡ Less = subst (λ (m : List ℕ × X). name_cmp m.0 l.0 ≡ Less) same here in
      record {
        first = left_first (j ∷ more) (l ∷ right) k rest l right sorted also is refl before;
        of_left = own_removed k (j ∷ more) rest is;
        of_right = none_removed k.0 l right also before;
      }

  pub right_side : (left : List (List ℕ × X)) (right : List (List ℕ × Y)) (l : List ℕ × Y) (rest : List (List ℕ × Y)) → IsTrue (is_sorted name_cmp left) → IsTrue (is_sorted name_cmp right)
      → first_side left right ≡ Some Greater → right ≡ l ∷ rest → PopsFirst left right l.0 None (Some l.1) left rest
  right_side left [] l rest sorted also greater is = absurd cc
  right_side [] (j ∷ more) l rest sorted also greater is = record {
    first = right_alone [] (j ∷ more) l rest sorted also is refl;
    of_left = record { removed = refl; found = refl };
    of_right = own_removed l (j ∷ more) rest is;
  }
  right_side (k ∷ left) (j ∷ more) l rest sorted also greater is =
      let here : name_cmp k.0 j.0 ≡ Greater = cc in
      let same : j ≡ l = cc in
      let after : name_cmp k.0 l.0 ≡ Greater = subst (λ (m : List ℕ × Y). name_cmp k.0 m.0 ≡ Greater) same here in
      let before : name_cmp l.0 k.0 ≡ Less = name_total.antisymm l.0 k.0 ∙ ap ordering_reverse after in
      record {
        first = right_first (k ∷ left) (j ∷ more) k left l rest sorted also refl is after;
        of_left = none_removed l.0 k left sorted before;
        of_right = own_removed l (j ∷ more) rest is;
      }

  pub both_sides : (left : List (List ℕ × X)) (right : List (List ℕ × Y)) (k : List ℕ × X) (left_rest : List (List ℕ × X)) (l : List ℕ × Y) (right_rest : List (List ℕ × Y)) → IsTrue (is_sorted name_cmp left) → IsTrue (is_sorted name_cmp right)
      → first_side left right ≡ Some Equal → left ≡ k ∷ left_rest → right ≡ l ∷ right_rest → PopsFirst left right k.0 (Some k.1) (Some l.1) left_rest right_rest
  both_sides left right k left_rest l right_rest sorted also equal is also_is =
      let sides : first_side (k ∷ left_rest) (l ∷ right_rest) ≡ Some Equal = ap (first_side (k ∷ left_rest)) (sym also_is) ∙ ap (λ m. first_side m right) (sym is) ∙ equal in
      let tie : name_cmp k.0 l.0 ≡ Equal = cc in
      let same : k.0 ≡ l.0 = name_same k.0 l.0 tie in
      record {
        first = both_first left right k left_rest l right_rest sorted also is also_is tie;
        of_left = own_removed k left left_rest is;
        of_right = record {
          removed = also_is ∙ ap (λ g. (g, l.1) ∷ right_rest) (sym same);
          found = ap (λ g. find name_cmp g right) same ∙ found_first l right right_rest also_is;
        };
      }
