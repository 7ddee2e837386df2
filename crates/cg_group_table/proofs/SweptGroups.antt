-- What a tick comes to in all groups, one after another.
use Rattle.std.proofs.Common.{◌≡◌, ℕ, Bool, true, false, cond, find, List, [], ◌∷◌, ◌++◌, Some, refl, sym, ap, ◌∙◌, subst, append_assoc, append-nil, not}
use Rattle.std.proofs.lemmas.Bool.{false≢true, or_left, or_right}
use Rattle.std.proofs.lemmas.List.Folds.{list_any-append}
use Rattle.std.specs.Cmp.Lexicographic.{slice_cmp}
use Rattle.std.specs.Ordering.{nat_cmp}
use Rattle.std.specs.declared.cmp.Ordering.TheVariants.{Less}
use Rattle.cg_group_state.specs.declared.group.Group.{Group}
use Rattle.cg_group_state.specs.declared.turn.Turn.{Turn}
use Rattle.cg_group_rules.specs.Rebalance.{turn_of}
use Rattle.cg_group_rules.specs.Tick.{ticked}
use Rattle.cg_request.specs.Names.{is_same}
use Rattle.cg_group_rules.specs.TickDeadline.{tick_touches}
use Rattle.cg_group_table.specs.GroupChanges.{is_one_of}
use Rattle.cg_group_table.specs.Expiry.{is_nil}
use Rattle.cg_group_table.specs.DueGroups.{AreDue, IsDue, due_ids, id_if, ids_of}
use Rattle.cg_group_table.specs.declared.due_groups.Due.{Due}
use Rattle.cg_group_table.specs.GroupTable.{InOrder, find_group}
use Rattle.cg_group_table.specs.Kept.{Ascending, ComesBefore, Each}
use Rattle.cg_group_table.proofs.Homing.{each_both}
use Rattle.cg_group_table.proofs.InOrder.{ids_each}
use Rattle.cg_group_table.proofs.KeptLists.{differs_from_order, same_self}
use Rattle.cg_group_table.proofs.Untouched.{calm_ticked}

-- each group is found by its id
pub all_found : (gs : List Group) → InOrder gs → Each (λ g. find_group g.id gs ≡ Some g) gs
unfolding find_group
all_found [] o = tt
all_found (x ∷ xs) o =
    let here : find_group x.id (x ∷ xs) ≡ Some x = ap (λ b. cond b (Some x) (find (λ (y : Group). is_same y.id x.id) xs)) (same_self x.id) in
    (here, each_both (λ (g : Group). slice_cmp nat_cmp x.id g.id ≡ Less) (λ g. find_group g.id xs ≡ Some g) (λ g. find_group g.id (x ∷ xs) ≡ Some g) (λ g less found. ap (λ b. cond b (Some x) (find (λ (y : Group). is_same y.id g.id) xs)) (differs_from_order x.id g.id Less less refl) ∙ found) xs (ids_each x.id xs o.0) (all_found xs o.1))

-- the ids of the groups that pass a test are in order
ids_behind : (x : List ℕ) (passes : Group → Bool) (gs : List Group) → Each (λ (g : Group). slice_cmp nat_cmp x g.id ≡ Less) gs → ComesBefore x (ids_of passes gs)
ids_behind x passes [] h = tt
ids_behind x passes (g ∷ gs) h =
    elim (passes g) as (λ b. ComesBefore x (id_if b g ++ ids_of passes gs)) [
      | true ↦ (h.0, ids_behind x passes gs h.1)
      | false ↦ ids_behind x passes gs h.1
    ]

pub ascending_ids : (passes : Group → Bool) (gs : List Group) → InOrder gs → Ascending (ids_of passes gs)
ascending_ids passes [] o = tt
ascending_ids passes (g ∷ gs) o =
    elim (passes g) as (λ b. Ascending (id_if b g ++ ids_of passes gs)) [
      | true ↦ (ids_behind g.id passes gs (ids_each g.id gs o.0), ascending_ids passes gs o.1)
      | false ↦ ascending_ids passes gs o.1
    ]

-- a tick leaves a group as it is whose id is not among those of the groups that it touches
one_of_there : (front rest : List (List ℕ)) (x : List ℕ) → is_one_of (front ++ x ∷ rest) x ≡ true
one_of_there front rest x = list_any-append (is_same x) front (x ∷ rest) ∙ or_right (is_one_of front x) (is_one_of (x ∷ rest) x) (or_left (is_same x x) (is_one_of rest x) (same_self x))

calm_here : (now : ℕ) (front rest : List (List ℕ)) (g : Group) → is_one_of (front ++ (id_if (tick_touches now g) g ++ rest)) g.id ≡ false → ticked now g ≡ turn_of g
calm_here now front rest g none = go (tick_touches now g) refl
  where
    go : (b : Bool) → tick_touches now g ≡ b → ticked now g ≡ turn_of g
    go false calm = calm_ticked now g calm
    go true touched = absurd (false≢true (sym none ∙ ap (λ b. is_one_of (front ++ (id_if b g ++ rest)) g.id) touched ∙ one_of_there front rest g.id))

calm_after : (now : ℕ) (front : List (List ℕ)) (gs : List Group) → Each (λ (g : Group). is_one_of (front ++ ids_of (tick_touches now) gs) g.id ≡ false → ticked now g ≡ turn_of g) gs
calm_after now front [] = tt
calm_after now front (g ∷ gs) =
    let E : List (List ℕ) → Type 0 = λ ids. Each (λ (h : Group). is_one_of ids h.id ≡ false → ticked now h ≡ turn_of h) gs in
    let rest = ids_of (tick_touches now) gs in
    (calm_here now front rest g, subst E (append_assoc front (id_if (tick_touches now g) g) rest) (calm_after now (front ++ id_if (tick_touches now g) g) gs))

pub all_due : (now : ℕ) (groups : List Group) (dues : List Due) → InOrder groups → due_ids dues ≡ ids_of (tick_touches now) groups → Each (IsDue now groups) dues → AreDue now groups dues
all_due now groups dues o ids planned = record {
  ascending = subst Ascending (sym ids) (ascending_ids (tick_touches now) groups o);
  planned = planned;
  others =
      let E : List (List ℕ) → Type 0 = λ xs. Each (λ (h : Group). is_one_of xs h.id ≡ false → ticked now h ≡ turn_of h) groups in
      subst E (sym ids) (calm_after now [] groups);
}

-- the two parts of a tick in a group, after what was made before
pub both_parts : {A : Type 0} (was timeouts stale middle later : List A) → middle ≡ was ++ timeouts → later ≡ middle ++ stale → later ≡ was ++ (timeouts ++ stale)
both_parts was timeouts stale middle later first second = second ∙ ap (λ xs. xs ++ stale) first ∙ append_assoc was timeouts stale

pub first_part : {A : Type 0} (was timeouts stale middle : List A) → middle ≡ was ++ timeouts → stale ≡ [] → middle ≡ was ++ (timeouts ++ stale)
first_part was timeouts stale middle first none = first ∙ ap (λ xs. was ++ xs) (sym (append-nil timeouts) ∙ ap (λ xs. timeouts ++ xs) (sym none))

pub nothing_there : {A : Type 0} (xs : List A) → not (is_nil xs) ≡ false → xs ≡ []
nothing_there [] none = refl
nothing_there (x ∷ xs) none = cc

-- a group that the tick does not touch makes nothing
pub calm_made : {A : Type 0} (f : Turn → List A) (now : ℕ) (g : Group) (was : List A) → f (turn_of g) ≡ [] → tick_touches now g ≡ false → was ≡ was ++ f (ticked now g)
calm_made f now g was nothing calm = sym (append-nil was) ∙ ap (λ xs. was ++ xs) (sym nothing ∙ sym (ap f (calm_ticked now g calm)))
