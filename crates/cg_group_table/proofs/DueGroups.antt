-- What a tick comes to in the groups that are due, one after another.
use Rattle.std.proofs.Common.{◌≡◌, ℕ, false, List, [], ◌∷◌, ◌++◌, is_some, Some, None, refl, sym, ap, ◌∙◌, subst}
use Rattle.std.proofs.lemmas.List.{map-append}
use Rattle.std.proofs.lemmas.Bool.{or_parts}
use Rattle.std.specs.List.{flat_map, list_any}
use Rattle.std.specs.Cmp.Lexicographic.{slice_cmp}
use Rattle.std.specs.Ordering.{nat_cmp}
use Rattle.std.specs.declared.cmp.Ordering.TheVariants.{Less}
use Rattle.cg_group_state.specs.declared.effects.Effects.{Effects}
use Rattle.cg_group_state.specs.declared.group.Group.{Group}
use Rattle.cg_group_state.specs.declared.turn.Turn.{Turn}
use Rattle.cg_group_rules.specs.Rebalance.{turn_of, turned}
use Rattle.cg_group_rules.specs.Tick.{ticked}
use Rattle.cg_group_rules.specs.TickPlan.{carried}
use Rattle.cg_group_rules.specs.TickDeadline.{tick_touches}
use Rattle.cg_group_table.specs.declared.due_groups.Due.{Due}
use Rattle.cg_group_table.specs.GroupChanges.{KeepIds, among, is_one_of}
use Rattle.cg_group_table.specs.DueGroups.{AreDue, HavePlanned, IsDue, due_ids}
use Rattle.cg_group_table.specs.GroupTable.{InOrder, IsHeld, effects_of, find_group, groups_after, with_group}
use Rattle.cg_group_table.specs.Kept.{Ascending, ComeBefore, Each}
use Rattle.cg_group_table.specs.SessionIndex.{parked_calls}
use Rattle.cg_group_table.proofs.Changed.{calm_among, calm_same, made_next, none_made, same_effects, same_made, same_push, stayed, unheld_same}
use Rattle.cg_group_table.proofs.Framed.{each-append, framed-ticked}
use Rattle.cg_group_table.proofs.Homing.{each_both}
use Rattle.cg_group_table.proofs.InOrder.{come_before, found_named, held_found}
use Rattle.cg_group_table.proofs.Successive.{HaveStepped, Along, found_still, along_end, along_step, stepped_all, stepped_next, stepped_none}
use Rattle.cg_group_table.proofs.Untouched.{calm_ticked}

-- a tick keeps the ids
pub tick_keeps : (now : ℕ) → KeepIds (ticked now)
tick_keeps now = λ g. (framed-ticked now g).0

-- lists with one more element

each-front : {X : Type 0} (P : X → Type 0) (xs ys : List X) → Each P (xs ++ ys) → Each P xs
each-front P [] ys h = tt
each-front P (x ∷ xs) ys h = (h.0, each-front P xs ys h.1)

each-rest : {X : Type 0} (P : X → Type 0) (xs ys : List X) → Each P (xs ++ ys) → Each P ys
each-rest P [] ys h = h
each-rest P (x ∷ xs) ys h = each-rest P xs ys h.1

ascending-push : (xs : List (List ℕ)) (y : List ℕ) → Ascending xs → ComeBefore xs y → Ascending (xs ++ y ∷ [])
ascending-push [] y o b = (tt, tt)
ascending-push (x ∷ xs) y o b = (each-append (λ z. slice_cmp nat_cmp x z ≡ Less) xs (y ∷ []) o.0 (b.0, tt), ascending-push xs y o.1 b.1)

ids-push : (dues : List Due) (d : Due) → due_ids (dues ++ d ∷ []) ≡ due_ids dues ++ d.id ∷ []
ids-push dues d = map-append (λ (d : Due). d.id) dues (d ∷ [])

each-same : {X Y : Type 0} (f : X → Y) (xs : List X) → Each (λ x. f x ≡ f x) xs
each-same f [] = tt
each-same f (x ∷ xs) = (refl, each-same f xs)

module _ (now : ℕ) (groups : List Group) where
  -- before the first group
  pub planned_none : (effects : Effects) → effects.commands ≡ [] → effects.replies ≡ [] → HavePlanned now groups [] [] effects
  planned_none effects commands replies = record {
    before = λ id b. tt;
    ascending = tt;
    planned = tt;
    others = each-same (among [] (ticked now)) groups;
    commands = commands ∙ sym (none_made (ticked now) (λ t. t.commands) (λ g. refl) groups);
    replies = replies ∙ sym (none_made (ticked now) (λ t. t.replies) (λ g. refl) groups);
  }

  -- one more id, whose group has no step
  planned_same : (ids : List (List ℕ)) (x : List ℕ) (dues : List Due) (effects : Effects) → Each (λ h. among ids (ticked now) h ≡ among (ids ++ x ∷ []) (ticked now) h) groups → HavePlanned now groups ids dues effects → HavePlanned now groups (ids ++ x ∷ []) dues effects
  planned_same ids x dues effects same h = record {
    before = λ id b. h.before id (each-front (λ y. slice_cmp nat_cmp y id ≡ Less) ids (x ∷ []) b);
    ascending = h.ascending;
    planned = h.planned;
    others = each_both (λ g. among ids (ticked now) g ≡ among (ids ++ x ∷ []) (ticked now) g) (λ g. among ids (ticked now) g ≡ among (due_ids dues) (ticked now) g) (λ g. among (ids ++ x ∷ []) (ticked now) g ≡ among (due_ids dues) (ticked now) g) (λ g a b. sym a ∙ b) groups same h.others;
    commands = h.commands ∙ same_made (λ t. t.commands) (among ids (ticked now)) (among (ids ++ x ∷ []) (ticked now)) groups same;
    replies = h.replies ∙ same_made (λ t. t.replies) (among ids (ticked now)) (among (ids ++ x ∷ []) (ticked now)) groups same;
  }

  pub planned_unheld : (ids : List (List ℕ)) (x : List ℕ) (dues : List Due) (effects : Effects) → find_group x groups ≡ None → HavePlanned now groups ids dues effects → HavePlanned now groups (ids ++ x ∷ []) dues effects
  planned_unheld ids x dues effects none h = planned_same ids x dues effects (unheld_same (ticked now) groups ids x none) h

  pub planned_untouched : (ids : List (List ℕ)) (x : List ℕ) (g : Group) (dues : List Due) (effects : Effects) → InOrder groups → find_group x groups ≡ Some g → tick_touches now g ≡ false → HavePlanned now groups ids dues effects → HavePlanned now groups (ids ++ x ∷ []) dues effects
  planned_untouched ids x g dues effects o found calm h =
      let own : g.id ≡ x = found_named x groups g found in
      let F : List ℕ → Type 0 = λ y. find_group y groups ≡ Some g in
      let S : List ℕ → Type 0 = λ y. Each (λ h. among ids (ticked now) h ≡ among (ids ++ y ∷ []) (ticked now) h) groups in
      planned_same ids x dues effects (subst S own (calm_same (ticked now) groups ids g o (subst F (sym own) found) (calm_ticked now g calm))) h

  -- what the groups with these ids make
  abbrev made_among : {A : Type 0} → (Turn → List A) → List (List ℕ) → List A
  made_among f ids = flat_map (λ h. f (among ids (ticked now) h)) groups

  -- one more group, with its step
  module _ (ids : List (List ℕ)) (x : List ℕ) (g : Group) (o : InOrder groups) (found : find_group x groups ≡ Some g) (b : ComeBefore ids x) where
    made_more : {A : Type 0} (f : Turn → List A) → ((g : Group) → f (turn_of g) ≡ []) → (was after new : List A) → was ≡ made_among f ids → new ≡ f (ticked now g) → after ≡ was ++ new → after ≡ made_among f (ids ++ x ∷ [])
    made_more f none was after new before is put =
        let own : g.id ≡ x = found_named x groups g found in
        let F : List ℕ → Type 0 = λ y. find_group y groups ≡ Some g in
        let B : List ℕ → Type 0 = λ y. ComeBefore ids y in
        put ∙ ap (λ ys. ys ++ new) before ∙ ap (λ ys. made_among f ids ++ ys) is ∙ sym (made_next (ticked now) f none ids g groups o (subst F (sym own) found) (subst B (sym own) b)) ∙ ap (λ y. made_among f (ids ++ y ∷ [])) own

    pub planned_touched : (was dues : List Due) (due : Due) (before after made : Effects) → due.id ≡ x → ticked now g ≡ turned (carried now due.plan g) made → due.calls.items ≡ parked_calls g.members
        → dues ≡ was ++ due ∷ [] → after.commands ≡ before.commands ++ made.commands → after.replies ≡ before.replies ++ made.replies
        → HavePlanned now groups ids was before → HavePlanned now groups (ids ++ x ∷ []) dues after
    planned_touched was dues due before after made named is parked put commands replies h =
        let is_due : IsDue now groups due = record {
          group = g;
          found = ap (λ y. find_group y groups) named ∙ found;
          planned = ap (λ (t : Turn). t.group) is;
          parked = parked;
        } in
        let D : List Due → Type 0 = λ ds. HavePlanned now groups (ids ++ x ∷ []) ds after in
        let later : (y : List ℕ) → ComeBefore (ids ++ x ∷ []) y → ComeBefore (due_ids (was ++ due ∷ [])) y =
        λ y more.
        let B : List (List ℕ) → Type 0 = λ ys. ComeBefore ys y in
        let N : List ℕ → Type 0 = λ z. slice_cmp nat_cmp z y ≡ Less in
        subst B (sym (ids-push was due)) (each-append N (due_ids was) (due.id ∷ []) (h.before y (each-front N ids (x ∷ []) more)) (subst N (sym named) (each-rest N ids (x ∷ []) more).0, tt)) in
        let A : List (List ℕ) → Type 0 = λ ys. Ascending ys in
        let C : List ℕ → Type 0 = λ y. ComeBefore (due_ids was) y in
        let O : List (List ℕ) → Type 0 = λ ys. Each (λ k. among (ids ++ x ∷ []) (ticked now) k ≡ among ys (ticked now) k) groups in
        subst D (sym put) (record {
          before = later;
          ascending = subst A (sym (ids-push was due)) (ascending-push (due_ids was) due.id h.ascending (subst C (sym named) (h.before x b)));
          planned = each-append (IsDue now groups) was (due ∷ []) h.planned (is_due, tt);
          others = subst O (ap (λ y. due_ids was ++ y ∷ []) (sym named) ∙ sym (ids-push was due)) (same_push (ticked now) groups ids (due_ids was) x h.others);
          commands = made_more (λ t. t.commands) (λ k. refl) before.commands after.commands made.commands h.commands (ap (λ (t : Turn). t.commands) (sym is)) commands;
          replies = made_more (λ t. t.replies) (λ k. refl) before.replies after.replies made.replies h.replies (ap (λ (t : Turn). t.replies) (sym is)) replies;
        })

  -- after the last group: the tick does not change the groups with other ids
  module _ (ids : List (List ℕ)) (dues : List Due) (effects : Effects) (calm : Each (λ (g : Group). is_one_of ids g.id ≡ false → ticked now g ≡ turn_of g) groups) (h : HavePlanned now groups ids dues effects) where
    all_stepped : Each (λ g. among ids (ticked now) g ≡ ticked now g) groups
    all_stepped = calm_among (ticked now) ids groups calm

    pub planned_all : AreDue now groups dues
    planned_all = record {
      ascending = h.ascending;
      planned = h.planned;
      others = each_both (λ g. among ids (ticked now) g ≡ ticked now g) (λ g. among ids (ticked now) g ≡ among (due_ids dues) (ticked now) g) (λ (g : Group). is_one_of (due_ids dues) g.id ≡ false → ticked now g ≡ turn_of g) (λ g steps same none. sym steps ∙ same ∙ stayed (ticked now) (due_ids dues) g none) groups all_stepped h.others;
    }

    pub effects_all : effects ≡ effects_of (ticked now) groups
    effects_all =
        same_effects effects (effects_of (ticked now) groups) (h.commands ∙ same_made (λ t. t.commands) (among ids (ticked now)) (ticked now) groups all_stepped) (h.replies ∙ same_made (λ t. t.replies) (among ids (ticked now)) (ticked now) groups all_stepped)

-- the groups of the plans, one after another

abbrev pub HaveCarried : ℕ → List Group → List Group → List Due → Type 0
HaveCarried now groups after front = HaveStepped (ticked now) groups after (due_ids front)

each-middle : {X : Type 0} (P : X → Type 0) (front : List X) (x : X) (rest : List X) → Each P (front ++ x ∷ rest) → P x
each-middle P [] x rest h = h.0
each-middle P (y ∷ ys) x rest h = each-middle P ys x rest h.1

-- where a tick changes no group, it leaves each as it is, whichever ids are due
pub untouched : (now : ℕ) (ids : List (List ℕ)) (groups : List Group) → list_any (tick_touches now) groups ≡ false → Each (λ (g : Group). is_one_of ids g.id ≡ false → ticked now g ≡ turn_of g) groups
untouched now ids [] calm = tt
untouched now ids (g ∷ gs) calm =
    let parts = or_parts (tick_touches now g) (list_any (tick_touches now) gs) calm in
    (λ _. calm_ticked now g parts.0, untouched now ids gs parts.1)

-- a group that is changed as its plan says has its step
pub due_stepped : (now : ℕ) (groups after : List Group) (due : Due) → IsDue now groups due → ((g : Group) → find_group due.id groups ≡ Some g → after ≡ with_group (carried now due.plan g) groups) → (g : Group) → find_group due.id groups ≡ Some g → after ≡ with_group (ticked now g).group groups
due_stepped now groups after due is changed g found =
    let both : Some is.group ≡ Some g = sym is.found ∙ found in
    let same : is.group ≡ g = cc in
    changed g found ∙ ap (λ k. with_group k groups) (sym (subst (λ (k : Group). (ticked now k).group ≡ carried now due.plan k) same is.planned))

pub due_parked : (now : ℕ) (groups : List Group) (due : Due) → IsDue now groups due → (g : Group) → find_group due.id groups ≡ Some g → due.calls.items ≡ parked_calls g.members
due_parked now groups due is g found =
    let both : Some is.group ≡ Some g = sym is.found ∙ found in
    let same : is.group ≡ g = cc in
    is.parked ∙ ap (λ (k : Group). parked_calls k.members) same

module _ (now : ℕ) (groups : List Group) (dues : List Due) (are : AreDue now groups dues) (was : List Group) (left rest : List Due) (due : Due) (first : left ≡ due ∷ rest) where
  before_due : (front : List Due) → dues ≡ front ++ due ∷ rest → ComeBefore (due_ids front) due.id
  before_due front here =
      let A : List (List ℕ) → Type 0 = λ ids. Ascending ids in
      come_before (due_ids front) due.id (due_ids rest) (subst A (ap due_ids here ∙ map-append (λ (d : Due). d.id) front (due ∷ rest)) are.ascending)

  -- a group that has not had its step is as it was
  pub due_still : Along (HaveCarried now groups was) dues left → IsDue now was due
  due_still (front, split, h) =
      let here : dues ≡ front ++ due ∷ rest = split ∙ ap (λ ys. front ++ ys) first in
      let E : List Due → Type 0 = λ ds. Each (IsDue now groups) ds in
      let is = each-middle (IsDue now groups) front due rest (subst E here are.planned) in
      record {
        group = is.group;
        found = found_still (ticked now) (tick_keeps now) groups was (due_ids front) due.id (before_due front here) h ∙ is.found;
        planned = is.planned;
        parked = is.parked;
      }

  pub carried_next : (after : List Group) → InOrder was → ((g : Group) → find_group due.id was ≡ Some g → after ≡ with_group (ticked now g).group was) → Along (HaveCarried now groups was) dues left → Along (HaveCarried now groups after) dues rest
  carried_next after o stepped h =
      let is = due_still h in
      let loaded : IsHeld was due.id = ap is_some is.found in
      along_step (HaveCarried now groups was) (HaveCarried now groups after) dues left rest due first
      (λ front here k.
      let S : List (List ℕ) → Type 0 = λ ids. HaveStepped (ticked now) groups after ids in
      subst S (sym (ids-push front due)) (stepped_next (ticked now) (tick_keeps now) groups was after due.id o stepped (held_found due.id was loaded) (due_ids front) (before_due front here) k))
      h

pub carried_none : (now : ℕ) (groups : List Group) (dues : List Due) → Along (HaveCarried now groups groups) dues dues
carried_none now groups dues = ([], refl, stepped_none (ticked now) groups)

pub carried_all : (now : ℕ) (groups after : List Group) (dues left : List Due) → AreDue now groups dues → left ≡ [] → Along (HaveCarried now groups after) dues left → after ≡ groups_after (ticked now) groups
carried_all now groups after dues left are none h = stepped_all (ticked now) groups after (due_ids dues) are.others (along_end (HaveCarried now groups after) dues left none h)
