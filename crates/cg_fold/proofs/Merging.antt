-- The groups of two sorted lists.
use Rattle.std.proofs.Common.{◌≡◌, ℕ, Bool, true, false, List, [], ◌∷◌, ◌++◌, length, map as each, drop, Some, None, ap, sym, ◌∙◌, refl, subst, arith}
use Rattle.std.proofs.Math.Dec.{T}
use Rattle.std.specs.Prelude.{◌||◌, IsTrue, bytes_eq}
use Rattle.std.specs.List.{list_any}
use Rattle.std.specs.Ordering.{is_lt, ordering_reverse}
use Rattle.std.specs.declared.cmp.Ordering.TheVariants.{Less, Equal, Greater}
use Rattle.std.specs.FinMap.{is_sorted}
use Rattle.std.proofs.lemmas.List.Folds.{list_any-append}
use Rattle.std.proofs.lemmas.Slice.Eq.{bytes_eq-Decides}
use Rattle.cg_fold.specs.Key.{name_cmp}
use Rattle.cg_fold.specs.Grouped.{first_group}
use Rattle.cg_fold.specs.Snapshot.{ComesFirst, groups_of_either}
use Rattle.cg_fold.proofs.KeyOrder.{name_total, name_same}
use Rattle.cg_fold.proofs.Place.{below_all, both, less}
use Rattle.cg_fold.proofs.Put.{tested, is_true}
use Rattle.cg_fold.proofs.Names.{Before, in_order_is, in_order_first}

abbrev groups : {X : Type 0} → List (List ℕ × X) → List (List ℕ)
groups kept = each (λ k. k.0) kept

other : (a b : Bool) → a ≡ false → (a || b) ≡ true → b ≡ true
other true b off e = absurd cc
other false b off e = e

Before-append : (x : List ℕ) (names others : List (List ℕ)) → Before x names → Before x others → Before x (names ++ others)
Before-append x names others before also q there = step (list_any (bytes_eq q) names) refl (sym (list_any-append (bytes_eq q) names others) ∙ there)
  where
    step : (b : Bool) → list_any (bytes_eq q) names ≡ b → (list_any (bytes_eq q) names || list_any (bytes_eq q) others) ≡ true → name_cmp x q ≡ Less
    step true is or = before q is
    step false is or = also q (other _ _ is or)

Before-below : {X : Type 0} (x : List ℕ) (kept : List (List ℕ × X)) → T (below_all name_cmp x kept) → Before x (groups kept)
Before-below x [] below q there = absurd cc
Before-below x (k ∷ kept) below q there =
    let parts = both (is_lt (name_cmp x k.0)) (below_all name_cmp x kept) below in
    step (bytes_eq q k.0) refl there parts.0 (Before-below x kept parts.1)
  where
    step : (b : Bool) → bytes_eq q k.0 ≡ b → (bytes_eq q k.0 || list_any (bytes_eq q) (groups kept)) ≡ true → T (is_lt (name_cmp x k.0)) → Before x (groups kept) → name_cmp x q ≡ Less
    step true is or lt rest = ap (name_cmp x) ((bytes_eq-Decides q k.0).0 is) ∙ less (name_cmp x k.0) lt
    step false is or lt rest = rest q (other _ _ is or)

-- a name that comes before another also comes before all that the other comes before
Before-less : (x y : List ℕ) (names : List (List ℕ)) → name_cmp x y ≡ Less → Before y names → Before x (y ∷ names)
Before-less x y names lt before q there = step (bytes_eq q y) refl there
  where
    step : (b : Bool) → bytes_eq q y ≡ b → (bytes_eq q y || list_any (bytes_eq q) names) ≡ true → name_cmp x q ≡ Less
    step true is or = ap (name_cmp x) ((bytes_eq-Decides q y).0 is) ∙ lt
    step false is or = name_total.trans x y q lt (before q (other _ _ is or))

or_swapped : (a b c : Bool) → (a || (b || c)) ≡ (b || (a || c))
or_swapped true true c = refl
or_swapped true false c = refl
or_swapped false true c = refl
or_swapped false false c = refl

or_once : (a b c : Bool) → ((a || b) || (a || c)) ≡ (a || (b || c))
or_once true b c = refl
or_once false b c = refl

sorted_rest : {Z : Type 0} (k : List ℕ × Z) (kept : List (List ℕ × Z)) → IsTrue (is_sorted name_cmp (k ∷ kept)) → T (below_all name_cmp k.0 kept) × T (is_sorted name_cmp kept)
sorted_rest k kept sorted = both (below_all name_cmp k.0 kept) (is_sorted name_cmp kept) (tested sorted)

module _ {X Y : Type 0} where
  pub none_first : (left : List (List ℕ × X)) (right : List (List ℕ × Y)) → length left ≡ 0 → length right ≡ 0 → groups_of_either left right ≡ []
  none_first [] [] p q = in_order_is [] [] tt (λ q. refl)
  none_first (x ∷ left) right p q = absurd (omega (arith, p))
  none_first [] (y ∷ right) p q = absurd (omega (arith, q))

  first_left : (k : List ℕ × X) (left : List (List ℕ × X)) (right : List (List ℕ × Y)) → IsTrue (is_sorted name_cmp (k ∷ left)) → IsTrue (is_sorted name_cmp right) → Before k.0 (groups right) → ComesFirst (k ∷ left) right k.0 left right
  first_left k left right sorted also before =
      let parts = sorted_rest k left sorted in
      record {
        groups = in_order_first k.0 (groups (k ∷ left) ++ groups right) (groups left ++ groups right) (λ q. refl) (Before-append k.0 (groups left) (groups right) (Before-below k.0 left parts.0) before);
        left_sorted = is_true _ parts.1;
        right_sorted = also;
        fewer = omega arith;
      }

  first_right : (left : List (List ℕ × X)) (k : List ℕ × Y) (right : List (List ℕ × Y)) → IsTrue (is_sorted name_cmp left) → IsTrue (is_sorted name_cmp (k ∷ right)) → Before k.0 (groups left) → ComesFirst left (k ∷ right) k.0 left right
  first_right left k right sorted also before =
      let parts = sorted_rest k right also in
      record {
        groups = in_order_first k.0 (groups left ++ groups (k ∷ right)) (groups left ++ groups right)
            (λ q. list_any-append (bytes_eq q) (groups left) (groups (k ∷ right))
            ∙ or_swapped (list_any (bytes_eq q) (groups left)) (bytes_eq q k.0) (list_any (bytes_eq q) (groups right))
            ∙ ap (λ b. bytes_eq q k.0 || b) (sym (list_any-append (bytes_eq q) (groups left) (groups right))))
            (Before-append k.0 (groups left) (groups right) before (Before-below k.0 right parts.0));
        left_sorted = sorted;
        right_sorted = is_true _ parts.1;
        fewer = omega arith;
      }

  first_both : (k : List ℕ × X) (left : List (List ℕ × X)) (l : List ℕ × Y) (right : List (List ℕ × Y)) → IsTrue (is_sorted name_cmp (k ∷ left)) → IsTrue (is_sorted name_cmp (l ∷ right)) → l.0 ≡ k.0 → ComesFirst (k ∷ left) (l ∷ right) k.0 left right
  first_both k left l right sorted also same =
      let parts = sorted_rest k left sorted in
      let others = sorted_rest l right also in
      record {
        groups = in_order_first k.0 (groups (k ∷ left) ++ groups (l ∷ right)) (groups left ++ groups right)
            (λ q. list_any-append (bytes_eq q) (groups (k ∷ left)) (groups (l ∷ right))
            ∙ ap (λ g. (bytes_eq q k.0 || list_any (bytes_eq q) (groups left)) || (bytes_eq q g || list_any (bytes_eq q) (groups right))) same
            ∙ or_once (bytes_eq q k.0) (list_any (bytes_eq q) (groups left)) (list_any (bytes_eq q) (groups right))
            ∙ ap (λ b. bytes_eq q k.0 || b) (sym (list_any-append (bytes_eq q) (groups left) (groups right))))
            (Before-append k.0 (groups left) (groups right) (Before-below k.0 left parts.0) (subst (λ g. Before g (groups right)) same (Before-below l.0 right others.0)));
        left_sorted = is_true _ parts.1;
        right_sorted = is_true _ others.1;
        fewer = omega arith;
      }

  before_right : (k : List ℕ × X) (l : List ℕ × Y) (right : List (List ℕ × Y)) → IsTrue (is_sorted name_cmp (l ∷ right)) → name_cmp k.0 l.0 ≡ Less → Before k.0 (groups (l ∷ right))
  before_right k l right also lt = Before-less k.0 l.0 (groups right) lt (Before-below l.0 right (sorted_rest l right also).0)

  -- the first group of these lists, in the form of the call

  pub left_alone : (left : List (List ℕ × X)) (right : List (List ℕ × Y)) (k : List ℕ × X) (rest : List (List ℕ × X)) → IsTrue (is_sorted name_cmp left) → IsTrue (is_sorted name_cmp right)
      → left ≡ k ∷ rest → length right ≡ 0 → ComesFirst left right k.0 rest right
  left_alone left [] k rest sorted also is none = rw is (first_left k rest [] (subst (λ l. IsTrue (is_sorted name_cmp l)) is sorted) also (λ q there. absurd cc))
  left_alone left (l ∷ right) k rest sorted also is none = absurd (omega (arith, none))

  pub right_alone : (left : List (List ℕ × X)) (right : List (List ℕ × Y)) (l : List ℕ × Y) (rest : List (List ℕ × Y)) → IsTrue (is_sorted name_cmp left) → IsTrue (is_sorted name_cmp right)
      → right ≡ l ∷ rest → length left ≡ 0 → ComesFirst left right l.0 left rest
  right_alone [] right l rest sorted also is none = rw is (first_right [] l rest sorted (subst (λ r. IsTrue (is_sorted name_cmp r)) is also) (λ q there. absurd cc))
  right_alone (k ∷ left) right l rest sorted also is none = absurd (omega (arith, none))

  pub left_first : (left : List (List ℕ × X)) (right : List (List ℕ × Y)) (k : List ℕ × X) (left_rest : List (List ℕ × X)) (l : List ℕ × Y) (right_rest : List (List ℕ × Y)) → IsTrue (is_sorted name_cmp left) → IsTrue (is_sorted name_cmp right)
      → left ≡ k ∷ left_rest → right ≡ l ∷ right_rest → name_cmp k.0 l.0 ≡ Less → ComesFirst left right k.0 left_rest right
  left_first left right k left_rest l right_rest sorted also is also_is lt =
      rw is (first_left k left_rest right (subst (λ m. IsTrue (is_sorted name_cmp m)) is sorted) also
      (subst (λ r. Before k.0 (groups r)) (sym also_is) (before_right k l right_rest (subst (λ m. IsTrue (is_sorted name_cmp m)) also_is also) lt)))

  pub both_first : (left : List (List ℕ × X)) (right : List (List ℕ × Y)) (k : List ℕ × X) (left_rest : List (List ℕ × X)) (l : List ℕ × Y) (right_rest : List (List ℕ × Y)) → IsTrue (is_sorted name_cmp left) → IsTrue (is_sorted name_cmp right)
      → left ≡ k ∷ left_rest → right ≡ l ∷ right_rest → name_cmp k.0 l.0 ≡ Equal → ComesFirst left right k.0 left_rest right_rest
  both_first left right k left_rest l right_rest sorted also is also_is tie =
      rw (is, also_is) (first_both k left_rest l right_rest (subst (λ m. IsTrue (is_sorted name_cmp m)) is sorted) (subst (λ m. IsTrue (is_sorted name_cmp m)) also_is also) (sym (name_same k.0 l.0 tie)))

  pub right_first : (left : List (List ℕ × X)) (right : List (List ℕ × Y)) (k : List ℕ × X) (left_rest : List (List ℕ × X)) (l : List ℕ × Y) (right_rest : List (List ℕ × Y)) → IsTrue (is_sorted name_cmp left) → IsTrue (is_sorted name_cmp right)
      → left ≡ k ∷ left_rest → right ≡ l ∷ right_rest → name_cmp k.0 l.0 ≡ Greater → ComesFirst left right l.0 left right_rest
  right_first left right k left_rest l right_rest sorted also is also_is gt =
      let lt : name_cmp l.0 k.0 ≡ Less = name_total.antisymm l.0 k.0 ∙ ap ordering_reverse gt in
      let before : Before l.0 (groups left) = subst (λ r. Before l.0 (groups r)) (sym is) (Before-less l.0 k.0 (groups left_rest) lt (Before-below k.0 left_rest (sorted_rest k left_rest (subst (λ m. IsTrue (is_sorted name_cmp m)) is sorted)).0)) in
      rw also_is (first_right left l right_rest sorted (subst (λ m. IsTrue (is_sorted name_cmp m)) also_is also) before)

-- the same, by the first group of each list
named : {X : Type 0} (k : List ℕ × X) (g : List ℕ) → Some k.0 ≡ Some g → k.0 ≡ g
named k g is = cc

module _ {X Y : Type 0} where
  pub no_groups : (left : List (List ℕ × X)) (right : List (List ℕ × Y)) → first_group left ≡ None → first_group right ≡ None → groups_of_either left right ≡ []
  no_groups [] [] is also_is = none_first {X = X} {Y = Y} [] [] refl refl
  no_groups (k ∷ left) right is also_is = absurd cc
  no_groups [] (l ∷ right) is also_is = absurd cc

  pub pass_left : (left left' : List (List ℕ × X)) (right : List (List ℕ × Y)) (g : List ℕ) → IsTrue (is_sorted name_cmp left) → IsTrue (is_sorted name_cmp right)
      → first_group left ≡ Some g → first_group right ≡ None → left' ≡ drop 1 left → ComesFirst left right g left' right
  pass_left [] left' right g sorted also is none rest = absurd cc
  pass_left (k ∷ left) left' (l ∷ right) g sorted also is none rest = absurd cc
  pass_left (k ∷ left) left' [] g sorted also is none rest =
      rw (sym (named k g is), rest) (left_alone (k ∷ left) [] k left sorted also refl refl)

  pub pass_right : (left : List (List ℕ × X)) (right right' : List (List ℕ × Y)) (h : List ℕ) → IsTrue (is_sorted name_cmp left) → IsTrue (is_sorted name_cmp right)
      → first_group left ≡ None → first_group right ≡ Some h → right' ≡ drop 1 right → ComesFirst left right h left right'
  pass_right left [] right' h sorted also none is rest = absurd cc
  pass_right (k ∷ left) (l ∷ right) right' h sorted also none is rest = absurd cc
  pass_right [] (l ∷ right) right' h sorted also none is rest =
      rw (sym (named l h is), rest) (right_alone [] (l ∷ right) l right sorted also refl refl)

  pub pass_less : (left left' : List (List ℕ × X)) (right : List (List ℕ × Y)) (g h : List ℕ) → IsTrue (is_sorted name_cmp left) → IsTrue (is_sorted name_cmp right)
      → first_group left ≡ Some g → first_group right ≡ Some h → name_cmp g h ≡ Less → left' ≡ drop 1 left → ComesFirst left right g left' right
  pass_less [] left' right g h sorted also is also_is less rest = absurd cc
  pass_less (k ∷ left) left' [] g h sorted also is also_is less rest = absurd cc
  pass_less (k ∷ left) left' (l ∷ right) g h sorted also is also_is less rest =
      let lt : name_cmp k.0 l.0 ≡ Less = rw (named k g is, named l h also_is) less in
      rw (sym (named k g is), rest) (left_first (k ∷ left) (l ∷ right) k left l right sorted also refl refl lt)

  pub pass_equal : (left left' : List (List ℕ × X)) (right right' : List (List ℕ × Y)) (g h : List ℕ) → IsTrue (is_sorted name_cmp left) → IsTrue (is_sorted name_cmp right)
      → first_group left ≡ Some g → first_group right ≡ Some h → name_cmp g h ≡ Equal → left' ≡ drop 1 left → right' ≡ drop 1 right → ComesFirst left right g left' right'
  pass_equal [] left' right right' g h sorted also is also_is tie rest other_rest = absurd cc
  pass_equal (k ∷ left) left' [] right' g h sorted also is also_is tie rest other_rest = absurd cc
  pass_equal (k ∷ left) left' (l ∷ right) right' g h sorted also is also_is tie rest other_rest =
      let same : name_cmp k.0 l.0 ≡ Equal = rw (named k g is, named l h also_is) tie in
      rw (sym (named k g is), rest, other_rest) (both_first (k ∷ left) (l ∷ right) k left l right sorted also refl refl same)

  pub pass_greater : (left : List (List ℕ × X)) (right right' : List (List ℕ × Y)) (g h : List ℕ) → IsTrue (is_sorted name_cmp left) → IsTrue (is_sorted name_cmp right)
      → first_group left ≡ Some g → first_group right ≡ Some h → name_cmp g h ≡ Greater → right' ≡ drop 1 right → ComesFirst left right h left right'
  pass_greater [] right right' g h sorted also is also_is greater rest = absurd cc
  pass_greater (k ∷ left) [] right' g h sorted also is also_is greater rest = absurd cc
  pass_greater (k ∷ left) (l ∷ right) right' g h sorted also is also_is greater rest =
      let gt : name_cmp k.0 l.0 ≡ Greater = rw (named k g is, named l h also_is) greater in
      rw (sym (named l h also_is), rest) (right_first (k ∷ left) (l ∷ right) k left l right sorted also refl refl gt)
