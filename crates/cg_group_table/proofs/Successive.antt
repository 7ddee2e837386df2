-- Loops over groups in the ascending order of their ids: each group has its step, one after another.
use Rattle.std.proofs.Common.{◌≡◌, ℕ, true, false, List, [], ◌∷◌, ◌++◌, cond, find, Option, Some, None, refl, sym, ap, ◌∙◌, subst}
use Rattle.std.proofs.lemmas.List.{append_assoc, append-nil}
use Rattle.cg_group_state.specs.declared.group.Group.{Group}
use Rattle.cg_group_state.specs.declared.turn.Turn.{Turn}
use Rattle.cg_group_rules.specs.Rebalance.{turn_of}
use Rattle.cg_request.specs.Names.{is_same}
use Rattle.cg_group_table.specs.GroupChanges.{KeepIds, among, is_one_of}
use Rattle.cg_group_table.specs.GroupTable.{InOrder, find_group, groups_after, with_group}
use Rattle.cg_group_table.specs.Kept.{Ascending, ComeBefore, Each}
use Rattle.cg_group_table.proofs.Changed.{before_one_of, calm_among, id-among, none_after, put_next, same_groups, stayed, unheld_same}
use Rattle.cg_group_table.proofs.InOrder.{come_before, found_named}
use Rattle.cg_group_table.proofs.KeptLists.{group_ids, same_names}

-- invariant of a loop over these elements: it holds of a prefix of them

abbrev pub Along : {X : Type 0} → (List X → Type 0) → List X → List X → Type 0
Along {X = X} P all left = (front : List X) × (all ≡ front ++ left) × P front

pub along_step : {X : Type 0} (P Q : List X → Type 0) (all left rest : List X) (x : X) → left ≡ x ∷ rest → ((front : List X) → all ≡ front ++ x ∷ rest → P front → Q (front ++ x ∷ [])) → Along P all left → Along Q all rest
along_step P Q all left rest x first next (front, split, h) =
    let here : all ≡ front ++ x ∷ rest = split ∙ ap (λ ys. front ++ ys) first in
    (front ++ x ∷ [], here ∙ sym (append_assoc front (x ∷ []) rest), next front here h)

pub along_next : (P Q : List (List ℕ) → Type 0) (all left rest : List (List ℕ)) (x : List ℕ) → Ascending all → left ≡ x ∷ rest → ((ids : List (List ℕ)) → ComeBefore ids x → P ids → Q (ids ++ x ∷ [])) → Along P all left → Along Q all rest
along_next P Q all left rest x o first next h =
    let B : List (List ℕ) → Type 0 = λ xs. Ascending xs in
    along_step P Q all left rest x first (λ front here p. next front (come_before front x rest (subst B here o)) p) h

pub along_end : {X : Type 0} (P : List X → Type 0) (all left : List X) → left ≡ [] → Along P all left → P all
along_end P all left none (front, split, h) =
    let whole : all ≡ front = split ∙ ap (λ ys. front ++ ys) none ∙ append-nil front in
    subst P (sym whole) h

-- the groups with these ids had their steps so far

abbrev pub HaveStepped : (Group → Turn) → List Group → List Group → List (List ℕ) → Type 0
HaveStepped turn groups after ids = after ≡ groups_after (among ids turn) groups

pub stepped_none : (turn : Group → Turn) (groups : List Group) → HaveStepped turn groups groups []
stepped_none turn groups = sym (none_after turn groups)

pub stepped_all : (turn : Group → Turn) (groups after : List Group) (ids : List (List ℕ)) → Each (λ (g : Group). is_one_of ids g.id ≡ false → turn g ≡ turn_of g) groups → HaveStepped turn groups after ids → after ≡ groups_after turn groups
stepped_all turn groups after ids calm h = h ∙ same_groups (among ids turn) turn groups (calm_among turn ids groups calm)

module _ (turn : Group → Turn) (stays : KeepIds turn) where
  ids_after : (ids : List (List ℕ)) (gs : List Group) → group_ids (groups_after (among ids turn) gs) ≡ group_ids gs
  ids_after ids [] = refl
  ids_after ids (g ∷ gs) = ap (λ i. i ∷ group_ids (groups_after (among ids turn) gs)) (id-among turn stays ids g) ∙ ap (λ is. g.id ∷ is) (ids_after ids gs)

  -- a group that had no step yet
  found_before : (ids : List (List ℕ)) (x : List ℕ) (gs : List Group) → is_one_of ids x ≡ false → find_group x (groups_after (among ids turn) gs) ≡ find_group x gs
  unfolding find_group
  found_before ids x [] apart = refl
  found_before ids x (g ∷ gs) apart =
      let y : Group = (among ids turn g).group in
      let rest = groups_after (among ids turn) gs in
      ap (λ i. cond (is_same i x) (Some y) (find (λ k. is_same k.id x) rest)) (id-among turn stays ids g)
      ∙ (elim (is_same g.id x) as (λ b. is_same g.id x ≡ b → cond b (Some y) (find (λ k. is_same k.id x) rest) ≡ cond b (Some g) (find (λ k. is_same k.id x) gs)) [
        | true ↦ λ t. ap (λ (u : Turn). Some u.group) (stayed turn ids g (ap (is_one_of ids) (same_names g.id x t) ∙ apart))
        | false ↦ λ t. found_before ids x gs apart
      ]) refl

  pub found_still : (groups was : List Group) (ids : List (List ℕ)) (x : List ℕ) → ComeBefore ids x → HaveStepped turn groups was ids → find_group x was ≡ find_group x groups
  found_still groups was ids x b h = ap (find_group x) h ∙ found_before ids x groups (before_one_of ids x b)

  pub stepped_next : (groups was after : List Group) (x : List ℕ) → InOrder was → ((g : Group) → find_group x was ≡ Some g → after ≡ with_group (turn g).group was) → (find_group x was ≡ None → after ≡ was)
      → (ids : List (List ℕ)) → ComeBefore ids x → HaveStepped turn groups was ids → HaveStepped turn groups after (ids ++ x ∷ [])
  stepped_next groups was after x o there absent ids b h = go (find_group x groups) refl
    where
      A : List (List ℕ) → Type 0
      A is = Ascending is

      same : find_group x was ≡ find_group x groups
      same = found_still groups was ids x b h

      in_order : InOrder groups
      in_order = subst A (ap group_ids h ∙ ids_after ids groups) o

      go : (found : Option Group) → find_group x groups ≡ found → HaveStepped turn groups after (ids ++ x ∷ [])
      go None e = absent (same ∙ e) ∙ h ∙ same_groups (among ids turn) (among (ids ++ x ∷ []) turn) groups (unheld_same turn groups ids x e)
      go (Some g) e =
          let own : g.id ≡ x = found_named x groups g e in
          let F : List ℕ → Type 0 = λ y. find_group y groups ≡ Some g in
          let B : List ℕ → Type 0 = λ y. ComeBefore ids y in
          let R : List ℕ → Type 0 = λ y. HaveStepped turn groups after (ids ++ y ∷ []) in
          subst R own (there g (same ∙ e) ∙ ap (with_group (turn g).group) h ∙ put_next turn stays ids g groups in_order (subst F (sym own) e) (subst B (sym own) b))
