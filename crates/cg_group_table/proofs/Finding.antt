-- Which group has an id after one is inserted, replaced or removed.
use Rattle.std.proofs.Common.{◌≡◌, ℕ, Bool, true, false, cond, List, [], ◌∷◌, find, Some, None, refl, sym, ap, ◌∙◌}
use Rattle.std.specs.Prelude.{◌||◌, if◌then◌else◌}
use Rattle.std.specs.List.{list_any}
use Rattle.std.proofs.lemmas.Bool.{or_left, or_right}
use Rattle.std.proofs.lemmas.Cmp.{nat_list_eq_equiv}
use Rattle.std.specs.Cmp.Lexicographic.{slice_cmp}
use Rattle.std.specs.Ordering.{nat_cmp, match_ordering}
use Rattle.std.specs.declared.cmp.Ordering.TheVariants.{Less, Equal, Greater}
use Rattle.cg_group_state.specs.declared.group.Group.{Group}
use Rattle.cg_group_table.specs.GroupTable.{find_group, with_group, without_group}
use Rattle.cg_group_state.specs.Membership.{is_same}
use Rattle.cg_group_table.proofs.InOrder.{equal_is}
use Rattle.cg_group_table.proofs.KeptLists.{differs_from_order, same_names, same_self}

-- an inserted group has its id
pub find-own : (g : Group) (gs : List Group) → find_group g.id (with_group g gs) ≡ Some g
unfolding find_group with_group
find-own g [] = ap (λ b. cond b (Some g) None) (same_self g.id)
find-own g (h ∷ hs) =
    (elim (slice_cmp nat_cmp g.id h.id) as (λ o. slice_cmp nat_cmp g.id h.id ≡ o → find_group g.id (match_ordering o (g ∷ h ∷ hs) (g ∷ hs) (h ∷ with_group g hs)) ≡ Some g) [
      | Less ↦ λ e. ap (λ b. cond b (Some g) (find_group g.id (h ∷ hs))) (same_self g.id)
      | Equal ↦ λ e. ap (λ b. cond b (Some g) (find_group g.id hs)) (same_self g.id)
      | Greater ↦ λ e.
          ap (λ b. cond b (Some h) (find_group g.id (with_group g hs))) (nat_list_eq_equiv.symm h.id g.id ∙ differs_from_order g.id h.id Greater e refl)
          ∙ find-own g hs
    ]) refl

-- groups with other ids stay as they are
pub find-other : (x : List ℕ) (g : Group) (gs : List Group) → is_same g.id x ≡ false → find_group x (with_group g gs) ≡ find_group x gs
unfolding find_group with_group
find-other x g [] e = ap (λ b. cond b (Some g) None) e
find-other x g (h ∷ hs) e =
    (elim (slice_cmp nat_cmp g.id h.id) as (λ o. slice_cmp nat_cmp g.id h.id ≡ o → find_group x (match_ordering o (g ∷ h ∷ hs) (g ∷ hs) (h ∷ with_group g hs)) ≡ find_group x (h ∷ hs)) [
      | Less ↦ λ c. ap (λ b. cond b (Some g) (find_group x (h ∷ hs))) e
      | Equal ↦ λ c.
          ap (λ b. cond b (Some g) (find_group x hs)) e
          ∙ sym (ap (λ b. cond b (Some h) (find_group x hs)) (ap (λ i. is_same i x) (sym (equal_is g.id h.id c)) ∙ e))
      | Greater ↦ λ c. ap (λ o. cond (is_same h.id x) (Some h) o) (find-other x g hs e)
    ]) refl

pub find-without : (id x : List ℕ) (gs : List Group) → is_same id x ≡ false → find_group x (without_group id gs) ≡ find_group x gs
unfolding find_group without_group
find-without id x [] d = refl
find-without id x (g ∷ gs) d =
    (elim (is_same g.id id) as (λ b. is_same g.id id ≡ b → find_group x (if b then gs else g ∷ without_group id gs) ≡ find_group x (g ∷ gs)) [
      | true ↦ λ e. sym (ap (λ b. cond b (Some g) (find_group x gs)) (ap (λ i. is_same i x) (same_names g.id id e) ∙ d))
      | false ↦ λ e. ap (λ o. cond (is_same g.id x) (Some g) o) (find-without id x gs d)
    ]) refl

-- if the element that is found passes a test, some element passes it
pub any_found : {X : Type 0} (p q : X → Bool) (xs : List X) (x : X) → find p xs ≡ Some x → q x ≡ true → list_any q xs ≡ true
any_found p q [] x e h = cc
any_found p q (y ∷ ys) x e h =
    (elim (p y) as (λ b. cond b (Some y) (find p ys) ≡ Some x → (q y || list_any q ys) ≡ true) [
      | true ↦ λ e. let same : y ≡ x = cc in or_left (q y) (list_any q ys) (ap q same ∙ h)
      | false ↦ λ e. or_right (q y) (list_any q ys) (any_found p q ys x e h)
    ]) e

pub any_group : (q : Group → Bool) (id : List ℕ) (gs : List Group) (g : Group) → find_group id gs ≡ Some g → q g ≡ true → list_any q gs ≡ true
unfolding find_group
any_group q id gs g e h = any_found (λ x. is_same x.id id) q gs g e h
