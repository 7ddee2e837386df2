-- The groups without one of them.
use Rattle.std.proofs.Common.{◌≡◌, ℕ, true, false, List, [], ◌∷◌, cond, is_some, refl, sym, ap, ◌∙◌, subst, Some, None}
use Rattle.std.specs.Prelude.{if◌then◌else◌}
use Rattle.std.proofs.lemmas.Bool.{false≢true}
use Rattle.std.proofs.lemmas.Cmp.{nat_list_eq_equiv}
use Rattle.std.proofs.lemmas.Map.Text.{is_eq-slice_cmp}
use Rattle.std.specs.Cmp.Lexicographic.{slice_cmp}
use Rattle.std.specs.Ordering.{nat_cmp, is_eq, match_ordering}
use Rattle.std.specs.declared.cmp.Ordering.TheVariants.{Less, Equal, Greater}
use Rattle.cg_group_state.specs.declared.group.Group.{Group}
use Rattle.cg_group_table.specs.Kept.{Ascending, ComesBefore, Each}
use Rattle.cg_group_table.specs.GroupTable.{find_group, with_group, without_group}
use Rattle.cg_group_state.specs.Membership.{is_same}
use Rattle.cg_group_table.proofs.KeptLists.{each-after, group_ids, same_names, same_self}

before-without : (x id : List ℕ) (gs : List Group) → ComesBefore x (group_ids gs) → ComesBefore x (group_ids (without_group id gs))
unfolding without_group
before-without x id [] h = tt
before-without x id (g ∷ gs) h =
    elim (is_same g.id id) as (λ b. ComesBefore x (group_ids (if b then gs else g ∷ without_group id gs))) [ true ↦ h.1 | false ↦ (h.0, before-without x id gs h.1) ]

pub ascending-without : (id : List ℕ) (gs : List Group) → Ascending (group_ids gs) → Ascending (group_ids (without_group id gs))
unfolding without_group
ascending-without id [] h = tt
ascending-without id (g ∷ gs) h =
    elim (is_same g.id id) as (λ b. Ascending (group_ids (if b then gs else g ∷ without_group id gs))) [ true ↦ h.1 | false ↦ (before-without g.id id gs h.0, ascending-without id gs h.1) ]

pub each-without : (P : Group → Type 0) (id : List ℕ) (gs : List Group) → Each P gs → Each P (without_group id gs)
unfolding without_group
each-without P id [] h = tt
each-without P id (g ∷ gs) h =
    elim (is_same g.id id) as (λ b. Each P (if b then gs else g ∷ without_group id gs)) [ true ↦ h.1 | false ↦ (h.0, each-without P id gs h.1) ]

-- a fact about each group carries over to the groups that stay, if it does for groups with another id
pub each-without-over : (P Q : Group → Type 0) (id : List ℕ) (gs : List Group) → ((k : Group) → is_same id k.id ≡ false → P k → Q k) → Ascending (group_ids gs) → Each P gs → Each Q (without_group id gs)
unfolding without_group
each-without-over P Q id [] over a h = tt
each-without-over P Q id (g ∷ gs) over a h =
    (elim (is_same g.id id) as (λ b. is_same g.id id ≡ b → Each Q (if b then gs else g ∷ without_group id gs)) [
      | true ↦ λ e. let B : List ℕ → Type 0 = λ x. ComesBefore x (group_ids gs) in each-after P Q id gs over (subst B (same_names g.id id e) a.0) h.1
      | false ↦ λ e. (over g (nat_list_eq_equiv.symm id g.id ∙ e) h.0, each-without-over P Q id gs over a.1 h.1)
    ]) refl

pub found-without : (id x : List ℕ) (gs : List Group) → is_same id x ≡ false → is_some (find_group x gs) ≡ true → is_some (find_group x (without_group id gs)) ≡ true
unfolding without_group find_group
found-without id x [] d h = h
found-without id x (g ∷ gs) d h =
    (elim (is_same g.id id) as (λ b. is_same g.id id ≡ b → is_some (find_group x (if b then gs else g ∷ without_group id gs)) ≡ true) [
      | true ↦ λ e.
          let other : is_same g.id x ≡ false = ap (λ i. is_same i x) (same_names g.id id e) ∙ d in
          sym (ap (λ b. is_some (cond b (Some g) (find_group x gs))) other) ∙ h
      | false ↦ λ e.
          elim (is_same g.id x) as (λ b. is_some (cond b (Some g) (find_group x gs)) ≡ true → is_some (cond b (Some g) (find_group x (without_group id gs))) ≡ true) [
            | true ↦ λ k. refl
            | false ↦ λ k. found-without id x gs d k
          ] h
    ]) refl

not_first : (id : List ℕ) (h : Group) (hs : List Group) → find_group id (h ∷ hs) ≡ None → (is_same h.id id ≡ false) × (find_group id hs ≡ None)
unfolding find_group
not_first id h hs e = (elim (is_same h.id id) as (λ b. cond b (Some h) (find_group id hs) ≡ None → (b ≡ false) × (find_group id hs ≡ None)) [ true ↦ λ e. cc | false ↦ λ e. (refl, e) ]) e

-- inserting a new group and removing it again changes nothing
pub without_with : (g : Group) (gs : List Group) → find_group g.id gs ≡ None → without_group g.id (with_group g gs) ≡ gs
unfolding with_group without_group
without_with g [] e = ap (λ b. if b then [] else g ∷ []) (same_self g.id)
without_with g (h ∷ hs) e =
    let p = not_first g.id h hs e in
    (elim (slice_cmp nat_cmp g.id h.id) as (λ o. slice_cmp nat_cmp g.id h.id ≡ o → without_group g.id (match_ordering o (g ∷ h ∷ hs) (g ∷ hs) (h ∷ with_group g hs)) ≡ h ∷ hs) [
      | Less ↦ λ _. ap (λ b. if b then h ∷ hs else g ∷ without_group g.id (h ∷ hs)) (same_self g.id)
      | Equal ↦ λ t. absurd (false≢true (sym p.0 ∙ nat_list_eq_equiv.symm h.id g.id ∙ sym (is_eq-slice_cmp g.id h.id) ∙ ap is_eq t))
      | Greater ↦ λ _. ap (λ b. if b then with_group g hs else h ∷ without_group g.id (with_group g hs)) p.0 ∙ ap (λ r. h ∷ r) (without_with g hs p.1)
    ]) refl
