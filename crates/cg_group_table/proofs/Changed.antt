-- The steps of groups in their order.
use Rattle.std.proofs.Common.{◌≡◌, ℕ, Bool, true, false, ◌||◌, List, [], ◌∷◌, ◌++◌, cond, Some, None, refl, sym, ap, ◌∙◌, subst}
use Rattle.std.specs.Prelude.{if◌then◌else◌}
use Rattle.std.specs.List.{flat_map}
use Rattle.std.specs.Cmp.Lexicographic.{slice_cmp}
use Rattle.std.specs.Ordering.{nat_cmp, match_ordering}
use Rattle.std.specs.declared.cmp.Ordering.TheVariants.{Less, Equal}
use Rattle.std.proofs.lemmas.Bool.{or_from, or_left, or_right}
use Rattle.std.proofs.lemmas.Cmp.{nat_list_cmp_total}
use Rattle.std.proofs.lemmas.List.{append_assoc, append-nil}
use Rattle.std.proofs.lemmas.List.Folds.{list_any-append}
use Rattle.cg_record.specs.declared.command.Command.{Command}
use Rattle.cg_group_state.specs.declared.effects.Effects.{Effects}
use Rattle.cg_group_state.specs.declared.group.Group.{Group}
use Rattle.cg_group_state.specs.declared.reply.Reply.{Reply}
use Rattle.cg_request.specs.declared.ticket.Ticket.{Ticket}
use Rattle.cg_group_state.specs.declared.turn.Turn.{Turn}
use Rattle.cg_group_table.specs.GroupChanges.{among, is_one_of}
use Rattle.cg_group_table.specs.GroupTable.{InOrder, find_group, groups_after, with_group}
use Rattle.cg_group_table.specs.Kept.{ComeBefore, ComesBefore, Each}
use Rattle.cg_request.specs.Names.{is_same}
use Rattle.cg_group_rules.specs.Rebalance.{turn_of}
use Rattle.cg_group_table.proofs.InOrder.{before_found, differs_behind, found_alone, less_greater, none_found, same_order}
use Rattle.cg_group_table.proofs.KeptLists.{group_ids, same_names, same_self}

-- an id among others

one_of-push : (ids : List (List ℕ)) (x y : List ℕ) → is_same y x ≡ false → is_one_of (ids ++ x ∷ []) y ≡ is_one_of ids y
one_of-push ids x y apart = list_any-append (is_same y) ids (x ∷ []) ∙ last (is_one_of ids y) (or_from (is_same y x) false apart refl)
  where
    last : (b : Bool) {c : Bool} → c ≡ false → (b || c) ≡ b
    last true e = refl
    last false e = e

one_of-last : (ids : List (List ℕ)) (x : List ℕ) → is_one_of (ids ++ x ∷ []) x ≡ true
one_of-last ids x = list_any-append (is_same x) ids (x ∷ []) ∙ or_right (is_one_of ids x) (is_same x x || false) (or_left (is_same x x) false (same_self x))

one_of_named : (ids : List (List ℕ)) (y x : List ℕ) → is_same y x ≡ true → is_one_of (ids ++ x ∷ []) y ≡ true
one_of_named ids y x same = ap (is_one_of (ids ++ x ∷ [])) (same_names y x same) ∙ one_of-last ids x

pub before_one_of : (ids : List (List ℕ)) (x : List ℕ) → ComeBefore ids x → is_one_of ids x ≡ false
before_one_of [] x h = refl
before_one_of (y ∷ ys) x h = or_from (is_same x y) (is_one_of ys x) (differs_behind y x h.0) (before_one_of ys x h.1)

come_before-trans : (ids : List (List ℕ)) (x y : List ℕ) → slice_cmp nat_cmp x y ≡ Less → ComeBefore ids x → ComeBefore ids y
come_before-trans [] x y e h = tt
come_before-trans (z ∷ zs) x y e h = (nat_list_cmp_total.trans z x y h.0 e, come_before-trans zs x y e h.1)

-- an id that comes before others is not among those that come before it
none_behind : (ids : List (List ℕ)) (x : List ℕ) (gs : List Group) → ComeBefore ids x → ComesBefore x (group_ids gs) → Each (λ (h : Group). is_one_of ids h.id ≡ false) gs
none_behind ids x [] b h = tt
none_behind ids x (g ∷ gs) b h = (before_one_of ids g.id (come_before-trans ids x g.id h.0 b), none_behind ids x gs b h.1)

none_behind-push : (ids : List (List ℕ)) (x : List ℕ) (gs : List Group) → ComeBefore ids x → ComesBefore x (group_ids gs) → Each (λ (h : Group). is_one_of (ids ++ x ∷ []) h.id ≡ false) gs
none_behind-push ids x [] b h = tt
none_behind-push ids x (g ∷ gs) b h =
    (one_of-push ids x g.id (differs_behind x g.id h.0) ∙ before_one_of ids g.id (come_before-trans ids x g.id h.0 b), none_behind-push ids x gs b h.1)

-- the same step of each group
pub same_groups : (turn more : Group → Turn) (gs : List Group) → Each (λ h. turn h ≡ more h) gs → groups_after turn gs ≡ groups_after more gs
same_groups turn more [] h = refl
same_groups turn more (g ∷ gs) h = ap (λ (t : Turn). t.group ∷ groups_after turn gs) h.0 ∙ ap (λ ys. (more g).group ∷ ys) (same_groups turn more gs h.1)

pub same_made : {A : Type 0} (f : Turn → List A) (turn more : Group → Turn) (gs : List Group) → Each (λ h. turn h ≡ more h) gs → flat_map (λ g. f (turn g)) gs ≡ flat_map (λ g. f (more g)) gs
same_made f turn more [] h = refl
same_made f turn more (g ∷ gs) h = ap (λ t. f t ++ flat_map (λ g. f (turn g)) gs) h.0 ∙ ap (λ ys. f (more g) ++ ys) (same_made f turn more gs h.1)

module _ (turn : Group → Turn) where
  took : (ids : List (List ℕ)) (g : Group) → is_one_of ids g.id ≡ true → among ids turn g ≡ turn g
  took ids g e = ap (λ b. if b then turn g else turn_of g) e

  pub stayed : (ids : List (List ℕ)) (g : Group) → is_one_of ids g.id ≡ false → among ids turn g ≡ turn_of g
  stayed ids g e = ap (λ b. if b then turn g else turn_of g) e

  among-push : (ids : List (List ℕ)) (x : List ℕ) (g : Group) → is_same g.id x ≡ false → among (ids ++ x ∷ []) turn g ≡ among ids turn g
  among-push ids x g e = ap (λ b. if b then turn g else turn_of g) (one_of-push ids x g.id e)

  -- where no group has one of the ids, no group changes
  still : (ids : List (List ℕ)) (gs : List Group) → Each (λ (h : Group). is_one_of ids h.id ≡ false) gs → groups_after (among ids turn) gs ≡ gs
  still ids [] h = refl
  still ids (g ∷ gs) h = ap (λ (t : Turn). t.group ∷ groups_after (among ids turn) gs) (stayed ids g h.0) ∙ ap (λ ys. g ∷ ys) (still ids gs h.1)

  quiet : {A : Type 0} (f : Turn → List A) → ((g : Group) → f (turn_of g) ≡ []) → (ids : List (List ℕ)) (gs : List Group) → Each (λ (h : Group). is_one_of ids h.id ≡ false) gs → flat_map (λ g. f (among ids turn g)) gs ≡ []
  quiet f none ids [] h = refl
  quiet f none ids (g ∷ gs) h = ap (λ xs. xs ++ flat_map (λ g. f (among ids turn g)) gs) (ap f (stayed ids g h.0) ∙ none g) ∙ quiet f none ids gs h.1

  -- the step of one more group, which comes after all that had theirs
  pub made_next : {A : Type 0} (f : Turn → List A) → ((g : Group) → f (turn_of g) ≡ []) → (ids : List (List ℕ)) (g : Group) (gs : List Group) → InOrder gs → find_group g.id gs ≡ Some g → ComeBefore ids g.id
      → flat_map (λ h. f (among (ids ++ g.id ∷ []) turn h)) gs ≡ flat_map (λ h. f (among ids turn h)) gs ++ f (turn g)
  unfolding find_group
  made_next f none ids g [] o found b = cc
  made_next f none ids g (x ∷ xs) o found b =
      let more : List (List ℕ) = ids ++ g.id ∷ [] in
      let rest = flat_map (λ h. f (among ids turn h)) xs in
      (elim (is_same x.id g.id) as (λ t. is_same x.id g.id ≡ t → cond t (Some x) (find_group g.id xs) ≡ Some g → flat_map (λ h. f (among more turn h)) (x ∷ xs) ≡ flat_map (λ h. f (among ids turn h)) (x ∷ xs) ++ f (turn g)) [
        | true ↦ λ t e.
            let own : x ≡ g = cc in
            let B : Group → Type 0 = λ y. ComesBefore y.id (group_ids xs) in
            let behind = subst B own o.0 in
            ap (λ ys. f (among more turn x) ++ ys) (quiet f none more xs (none_behind-push ids g.id xs b behind))
            ∙ append-nil (f (among more turn x))
            ∙ ap (λ (y : Group). f (among more turn y)) own
            ∙ ap f (took more g (one_of-last ids g.id))
            ∙ sym (
            ap (λ ys. (f (among ids turn x) ++ ys) ++ f (turn g)) (quiet f none ids xs (none_behind ids g.id xs b behind))
            ∙ ap (λ ys. (ys ++ []) ++ f (turn g)) (ap (λ (y : Group). f (among ids turn y)) own ∙ ap f (stayed ids g (before_one_of ids g.id b)) ∙ none g))
        | false ↦ λ t e.
            ap (λ y. f y ++ flat_map (λ h. f (among more turn h)) xs) (among-push ids g.id x t)
            ∙ ap (λ ys. f (among ids turn x) ++ ys) (made_next f none ids g xs o.1 e b)
            ∙ sym (append_assoc (f (among ids turn x)) rest (f (turn g)))
      ]) refl found

  module _ (stays : (g : Group) → (turn g).group.id ≡ g.id) where
    pub id-among : (ids : List (List ℕ)) (g : Group) → (among ids turn g).group.id ≡ g.id
    id-among ids g = elim (is_one_of ids g.id) as (λ b. (if b then turn g else turn_of g).group.id ≡ g.id) [ true ↦ stays g | false ↦ refl ]

    pub put_next : (ids : List (List ℕ)) (g : Group) (gs : List Group) → InOrder gs → find_group g.id gs ≡ Some g → ComeBefore ids g.id
        → with_group (turn g).group (groups_after (among ids turn) gs) ≡ groups_after (among (ids ++ g.id ∷ []) turn) gs
    unfolding find_group with_group
    put_next ids g [] o found b = cc
    put_next ids g (x ∷ xs) o found b =
        let more : List (List ℕ) = ids ++ g.id ∷ [] in
        let c : Group = (turn g).group in
        let y : Group = (among ids turn x).group in
        let rest = groups_after (among ids turn) xs in
        (elim (is_same x.id g.id) as (λ t. is_same x.id g.id ≡ t → cond t (Some x) (find_group g.id xs) ≡ Some g → match_ordering (slice_cmp nat_cmp c.id y.id) (c ∷ y ∷ rest) (c ∷ rest) (y ∷ with_group c rest) ≡ groups_after (among more turn) (x ∷ xs)) [
          | true ↦ λ t e.
              let own : x ≡ g = cc in
              let B : Group → Type 0 = λ z. ComesBefore z.id (group_ids xs) in
              let behind = subst B own o.0 in
              let ids_are : c.id ≡ y.id = stays g ∙ sym (id-among ids x ∙ ap (λ (z : Group). z.id) own) in
              let level : slice_cmp nat_cmp c.id y.id ≡ Equal = ap (λ z. slice_cmp nat_cmp z y.id) ids_are ∙ same_order y.id in
              ap (λ o. match_ordering o (c ∷ y ∷ rest) (c ∷ rest) (y ∷ with_group c rest)) level
              ∙ ap (λ zs. c ∷ zs) (still ids xs (none_behind ids g.id xs b behind) ∙ sym (still more xs (none_behind-push ids g.id xs b behind)))
              ∙ ap (λ (z : Turn). z.group ∷ groups_after (among more turn) xs) (sym (ap (among more turn) own ∙ took more g (one_of-last ids g.id)))
          | false ↦ λ t e.
              let apart = before_found x.id g.id xs g o.0 e in
              let P : List ℕ → Type 0 = λ z. slice_cmp nat_cmp z c.id ≡ Less in
              let Q : List ℕ → Type 0 = λ z. slice_cmp nat_cmp x.id z ≡ Less in
              let behind = subst P (sym (id-among ids x)) (subst Q (sym (stays g)) apart) in
              ap (λ o. match_ordering o (c ∷ y ∷ rest) (c ∷ rest) (y ∷ with_group c rest)) (less_greater y.id c.id behind)
              ∙ ap (λ zs. y ∷ zs) (put_next ids g xs o.1 e b)
              ∙ ap (λ (z : Turn). z.group ∷ groups_after (among more turn) xs) (sym (among-push ids g.id x t))
        ]) refl found

  -- no group has the id
  pub unheld_same : (groups : List Group) (ids : List (List ℕ)) (x : List ℕ) → find_group x groups ≡ None → Each (λ h. among ids turn h ≡ among (ids ++ x ∷ []) turn h) groups
  unheld_same groups ids x none = each groups (none_found x groups none)
    where
      each : (gs : List Group) → Each (λ (h : Group). is_same h.id x ≡ false) gs → Each (λ h. among ids turn h ≡ among (ids ++ x ∷ []) turn h) gs
      each [] h = tt
      each (g ∷ gs) h = (sym (among-push ids x g h.0), each gs h.1)

  -- the event does not change the group with the id
  pub calm_same : (groups : List Group) (ids : List (List ℕ)) (g : Group) → InOrder groups → find_group g.id groups ≡ Some g → turn g ≡ turn_of g → Each (λ h. among ids turn h ≡ among (ids ++ g.id ∷ []) turn h) groups
  calm_same groups ids g o found calm = each groups (found_alone g.id groups g o found)
    where
      calm_here : (x : Group) → x ≡ g → (i j : Bool) → (if i then turn x else turn_of x) ≡ (if j then turn x else turn_of x)
      calm_here x e =
          let same : turn x ≡ turn_of x = ap turn e ∙ calm ∙ ap turn_of (sym e) in
          λ i j. chosen i ∙ sym (chosen j)
        where
          chosen : (i : Bool) → (if i then turn x else turn_of x) ≡ turn_of x
          chosen true = ap turn e ∙ calm ∙ ap turn_of (sym e)
          chosen false = refl

      each : (gs : List Group) → Each (λ (h : Group). is_same h.id g.id ≡ true → h ≡ g) gs → Each (λ h. among ids turn h ≡ among (ids ++ g.id ∷ []) turn h) gs
      each [] h = tt
      each (x ∷ xs) h = (
        (elim (is_same x.id g.id) as (λ b. is_same x.id g.id ≡ b → among ids turn x ≡ among (ids ++ g.id ∷ []) turn x) [
          | true ↦ λ t. calm_here x (h.0 t) (is_one_of ids x.id) (is_one_of (ids ++ g.id ∷ []) x.id)
          | false ↦ λ t. sym (among-push ids g.id x t)
        ]) refl,
        each xs h.1,
      )

  -- before the first step
  nobody : (gs : List Group) → Each (λ (h : Group). is_one_of [] h.id ≡ false) gs
  nobody [] = tt
  nobody (g ∷ gs) = (refl, nobody gs)

  pub none_after : (groups : List Group) → groups_after (among [] turn) groups ≡ groups
  none_after groups = still [] groups (nobody groups)

  pub none_made : {A : Type 0} (f : Turn → List A) → ((g : Group) → f (turn_of g) ≡ []) → (groups : List Group) → flat_map (λ g. f (among [] turn g)) groups ≡ []
  none_made f none groups = quiet f none [] groups (nobody groups)

  -- the groups with these ids had their steps, and the event does not change the others
  pub calm_among : (ids : List (List ℕ)) (gs : List Group) → Each (λ (g : Group). is_one_of ids g.id ≡ false → turn g ≡ turn_of g) gs → Each (λ h. among ids turn h ≡ turn h) gs
  calm_among ids [] h = tt
  calm_among ids (g ∷ gs) h = (
    (elim (is_one_of ids g.id) as (λ b. is_one_of ids g.id ≡ b → (if b then turn g else turn_of g) ≡ turn g) [
      | true ↦ λ e. refl
      | false ↦ λ e. sym (h.0 e)
    ]) refl,
    calm_among ids gs h.1,
  )

  -- the group with the id is one more in both
  pub same_push : (groups : List Group) (ids more : List (List ℕ)) (x : List ℕ) → Each (λ h. among ids turn h ≡ among more turn h) groups → Each (λ h. among (ids ++ x ∷ []) turn h ≡ among (more ++ x ∷ []) turn h) groups
  same_push [] ids more x h = tt
  same_push (g ∷ gs) ids more x h = (
    (elim (is_same g.id x) as (λ b. is_same g.id x ≡ b → among (ids ++ x ∷ []) turn g ≡ among (more ++ x ∷ []) turn g) [
      | true ↦ λ t. took (ids ++ x ∷ []) g (one_of_named ids g.id x t) ∙ sym (took (more ++ x ∷ []) g (one_of_named more g.id x t))
      | false ↦ λ t. among-push ids x g t ∙ h.0 ∙ sym (among-push more x g t)
    ]) refl,
    same_push gs ids more x h.1,
  )

-- effects with the same commands and replies
pub same_effects : (e f : Effects) → e.commands ≡ f.commands → e.replies ≡ f.replies → e ≡ f
same_effects e f commands replies =
    let with_these : List Command → List (Ticket × Reply) → Effects = λ cs rs. record { commands = cs; replies = rs } in
    ap (λ cs. with_these cs e.replies) commands ∙ ap (with_these f.commands) replies
