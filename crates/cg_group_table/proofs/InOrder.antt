-- Groups in the order of the bytes of their ids.
use Rattle.std.proofs.Common.{◌≡◌, ℕ, true, false, cond, List, [], ◌∷◌, ◌++◌, find, is_some, Some, None, refl, sym, ap, ◌∙◌, subst}
use Rattle.std.proofs.lemmas.Bool.{false≢true}
use Rattle.std.proofs.lemmas.Cmp.{nat_list_cmp_total, nat_list_eq_equiv}
use Rattle.std.proofs.lemmas.Map.Text.{is_eq-slice_cmp}
use Rattle.std.specs.Cmp.Lexicographic.{slice_cmp}
use Rattle.std.specs.List.{AllByRecursion}
use Rattle.std.specs.List.Sorted.{IsStrictlySortedBy}
use Rattle.std.specs.Ordering.{nat_cmp, is_eq, match_ordering, ordering_reverse}
use Rattle.std.specs.declared.cmp.Ordering.TheVariants.{Less, Equal, Greater}
use Rattle.cg_group_state.specs.declared.group.Group.{Group}
use Rattle.cg_fold.proofs.Names.{equal}
use Rattle.cg_group_table.specs.Kept.{Ascending, ComeBefore, ComesBefore, Each}
use Rattle.cg_group_table.specs.GroupTable.{InOrder, IsHeld, find_group, with_group}
use Rattle.cg_request.specs.Names.{is_same}
use Rattle.cg_group_table.proofs.KeptLists.{differs_from_order, each-found, group_ids, id-found, same_names, same_self}

-- how names compare

pub same_order : (x : List ℕ) → slice_cmp nat_cmp x x ≡ Equal
same_order x = equal (slice_cmp nat_cmp x x) (is_eq-slice_cmp x x ∙ same_self x)

pub equal_is : (x y : List ℕ) → slice_cmp nat_cmp x y ≡ Equal → x ≡ y
equal_is x y e = same_names x y (sym (is_eq-slice_cmp x y) ∙ ap is_eq e)

pub less_greater : (x y : List ℕ) → slice_cmp nat_cmp x y ≡ Less → slice_cmp nat_cmp y x ≡ Greater
less_greater x y e = nat_list_cmp_total.antisymm y x ∙ ap ordering_reverse e

-- a later name differs from an earlier one
pub differs_behind : (x y : List ℕ) → slice_cmp nat_cmp x y ≡ Less → is_same y x ≡ false
differs_behind x y e = nat_list_eq_equiv.symm y x ∙ differs_from_order x y Less e refl

-- only one group has its id

others_apart : (x id : List ℕ) (g : Group) (gs : List Group) → x ≡ id → ComesBefore x (group_ids gs) → Each (λ h. is_same h.id id ≡ true → h ≡ g) gs
others_apart x id g [] e h = tt
others_apart x id g (k ∷ ks) e h =
    let P : List ℕ → Type 0 = λ y. is_same k.id y ≡ false in
    (λ t. absurd (false≢true (sym (subst P e (differs_behind x k.id h.0)) ∙ t)), others_apart x id g ks e h.1)

pub found_alone : (id : List ℕ) (gs : List Group) (g : Group) → InOrder gs → find_group id gs ≡ Some g → Each (λ h. is_same h.id id ≡ true → h ≡ g) gs
unfolding find_group
found_alone id [] g o e = tt
found_alone id (x ∷ xs) g o e =
    (elim (is_same x.id id) as (λ b. is_same x.id id ≡ b → cond b (Some x) (find (λ y. is_same y.id id) xs) ≡ Some g → Each (λ h. is_same h.id id ≡ true → h ≡ g) (x ∷ xs)) [
      | true ↦ λ t e. (λ _. cc, others_apart x.id id g xs (same_names x.id id t) o.0)
      | false ↦ λ t e. (λ u. absurd (false≢true (sym t ∙ u)), found_alone id xs g o.1 e)
    ]) refl e

pub none_found : (id : List ℕ) (gs : List Group) → find_group id gs ≡ None → Each (λ h. is_same h.id id ≡ false) gs
unfolding find_group
none_found id [] e = tt
none_found id (x ∷ xs) e =
    (elim (is_same x.id id) as (λ b. is_same x.id id ≡ b → cond b (Some x) (find (λ y. is_same y.id id) xs) ≡ None → Each (λ h. is_same h.id id ≡ false) (x ∷ xs)) [
      | true ↦ λ t e. cc
      | false ↦ λ t e. (t, none_found id xs e)
    ]) refl e

-- a group that is found comes after those before it
pub ids_each : (x : List ℕ) (gs : List Group) → ComesBefore x (group_ids gs) → Each (λ g. slice_cmp nat_cmp x g.id ≡ Less) gs
ids_each x [] h = tt
ids_each x (g ∷ gs) h = (h.0, ids_each x gs h.1)

pub before_found : (x id : List ℕ) (gs : List Group) (g : Group) → ComesBefore x (group_ids gs) → find_group id gs ≡ Some g → slice_cmp nat_cmp x g.id ≡ Less
before_found x id gs g h e = each-found (λ g. slice_cmp nat_cmp x g.id ≡ Less) id gs g e (ids_each x gs h)

pub found_named : (id : List ℕ) (gs : List Group) (g : Group) → find_group id gs ≡ Some g → g.id ≡ id
found_named id gs g e = same_names g.id id (id-found id gs g e)

-- a loaded group is found
pub held_found : {C : Type 0} (id : List ℕ) (gs : List Group) → IsHeld gs id → find_group id gs ≡ None → C
held_found id gs held none = absurd (false≢true (sym (ap is_some none) ∙ held))

-- a group that is inserted in its own place changes nothing
pub with_group-found : (id : List ℕ) (gs : List Group) (g : Group) → InOrder gs → find_group id gs ≡ Some g → with_group g gs ≡ gs
unfolding find_group with_group
with_group-found id [] g o e = cc
with_group-found id (x ∷ xs) g o e =
    (elim (is_same x.id id) as (λ b. is_same x.id id ≡ b → cond b (Some x) (find (λ y. is_same y.id id) xs) ≡ Some g → match_ordering (slice_cmp nat_cmp g.id x.id) (g ∷ x ∷ xs) (g ∷ xs) (x ∷ with_group g xs) ≡ x ∷ xs) [
      | true ↦ λ t e.
          let own : x ≡ g = cc in
          let same : slice_cmp nat_cmp g.id x.id ≡ Equal = ap (λ (y : Group). slice_cmp nat_cmp g.id y.id) own ∙ same_order g.id in
          ap (λ o. match_ordering o (g ∷ x ∷ xs) (g ∷ xs) (x ∷ with_group g xs)) same ∙ ap (λ y. y ∷ xs) (sym own)
      | false ↦ λ t e.
          ap (λ o. match_ordering o (g ∷ x ∷ xs) (g ∷ xs) (x ∷ with_group g xs)) (less_greater x.id g.id (before_found x.id id xs g o.0 e))
          ∙ ap (λ ys. x ∷ ys) (with_group-found id xs g o.1 e)
    ]) refl e

-- a group that replaces one that was put in its place
pub with_group-again : (g k : Group) (gs : List Group) → k.id ≡ g.id → with_group g (with_group k gs) ≡ with_group g gs
unfolding with_group
with_group-again g k [] same = ap (λ o. match_ordering o (g ∷ k ∷ []) (g ∷ []) (k ∷ g ∷ [])) (ap (slice_cmp nat_cmp g.id) same ∙ same_order g.id)
with_group-again g k (x ∷ xs) same =
    let level : slice_cmp nat_cmp k.id x.id ≡ slice_cmp nat_cmp g.id x.id = ap (λ i. slice_cmp nat_cmp i x.id) same in
    let own : slice_cmp nat_cmp g.id k.id ≡ Equal = ap (slice_cmp nat_cmp g.id) same ∙ same_order g.id in
    ap (λ o. with_group g (match_ordering o (k ∷ x ∷ xs) (k ∷ xs) (x ∷ with_group k xs))) level
    ∙ (elim (slice_cmp nat_cmp g.id x.id) as (λ o. slice_cmp nat_cmp g.id x.id ≡ o → with_group g (match_ordering o (k ∷ x ∷ xs) (k ∷ xs) (x ∷ with_group k xs)) ≡ match_ordering o (g ∷ x ∷ xs) (g ∷ xs) (x ∷ with_group g xs)) [
      | Less ↦ λ _. ap (λ o. match_ordering o (g ∷ k ∷ x ∷ xs) (g ∷ x ∷ xs) (k ∷ with_group g (x ∷ xs))) own
      | Equal ↦ λ _. ap (λ o. match_ordering o (g ∷ k ∷ xs) (g ∷ xs) (k ∷ with_group g xs)) own
      | Greater ↦ λ e.
          ap (λ o. match_ordering o (g ∷ x ∷ with_group k xs) (g ∷ with_group k xs) (x ∷ with_group g (with_group k xs))) e
          ∙ ap (λ ys. x ∷ ys) (with_group-again g k xs same)
    ]) refl

-- a group that comes after all others is inserted last
pub with_group-last : (g : Group) (gs : List Group) → ComeBefore (group_ids gs) g.id → with_group g gs ≡ gs ++ g ∷ []
unfolding with_group
with_group-last g [] h = refl
with_group-last g (x ∷ xs) h =
    ap (λ o. match_ordering o (g ∷ x ∷ xs) (g ∷ xs) (x ∷ with_group g xs)) (less_greater x.id g.id h.0)
    ∙ ap (λ ys. x ∷ ys) (with_group-last g xs h.1)

-- names in ascending order, split at one of them

pub come_before : (front : List (List ℕ)) (x : List ℕ) (rest : List (List ℕ)) → Ascending (front ++ x ∷ rest) → ComeBefore front x
come_before [] x rest h = tt
come_before (y ∷ ys) x rest h = (behind y ys h.0, come_before ys x rest h.1)
  where
    behind : (y : List ℕ) (ys : List (List ℕ)) → ComesBefore y (ys ++ x ∷ rest) → slice_cmp nat_cmp y x ≡ Less
    behind y [] h = h.0
    behind y (z ∷ zs) h = behind y zs h.1

pub ascending_from_sorted : (xs : List (List ℕ)) → IsStrictlySortedBy (slice_cmp nat_cmp) xs → Ascending xs
unfolding IsStrictlySortedBy
ascending_from_sorted [] h = tt
ascending_from_sorted (x ∷ xs) h = (front xs h.0, ascending_from_sorted xs h.1)
  where
    front : (ys : List (List ℕ)) → AllByRecursion (λ y. slice_cmp nat_cmp x y ≡ Less) ys → ComesBefore x ys
    front [] h = tt
    front (y ∷ ys) h = (h.0, front ys h.1)
