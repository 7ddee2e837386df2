-- From facts about each group and its record to the machine and the records.
use Rattle.std.proofs.Common.{◌≡◌, ℕ, Bool, true, false, ◌||◌, List, [], ◌∷◌, ◌++◌, cond, is_some, refl, sym, ap, ◌∙◌, subst, Option, Some, None, Result, Ok, Err}
use Rattle.std.specs.List.{flat_map}
use Rattle.std.proofs.lemmas.Bool.{or_left, or_right, false≢true}
use Rattle.cg_names.specs.declared.code.Code.{Code}
use Rattle.cg_record.specs.declared.command.Command.{Command}
use Rattle.cg_fold.specs.declared.group_record.GroupRecord.{GroupRecord}
use Rattle.cg_group_state.specs.declared.group.Group.{Group}
use Rattle.cg_request.specs.declared.ticket.Ticket.{Ticket}
use Rattle.cg_group_state.specs.declared.turn.Turn.{Turn}
use Rattle.cg_group_table.specs.Kept.{Each, ComesBefore, Ascending, Kept}
use Rattle.cg_group_table.proofs.Kept.{kept_after}
use Rattle.cg_record.specs.declared.command.Command.TheVariants as command
use Rattle.cg_group.specs.Machine.{concluded, deleted}
use Rattle.cg_group_table.specs.GroupTable.{Machine, everywhere, find_group, groups_after, with_group, without_group}
use Rattle.cg_group_table.proofs.Removing.{ascending-without, each-without-over, found-without}
use Rattle.cg_group_state.specs.Membership.{is_same}
use Rattle.cg_group_table.proofs.Framed.{Framed, OfGroup}
use Rattle.cg_group_table.proofs.KeptLists.{kept_after-append, kept_after-none, kept_after-one, kept_after-other, differs_from_order, same_names, group_ids, ascending-with_group, each-after, each-with_group, found-with_group}
use Rattle.cg_group.proofs.Requests.{Fine}
use Rattle.std.proofs.lemmas.Cmp.{nat_list_eq_equiv}
use Rattle.std.specs.declared.cmp.Ordering.TheVariants.{Less}

pub each-over : {X : Type 0} (P Q : X → Type 0) → ((x : X) → P x → Q x) → (xs : List X) → Each P xs → Each Q xs
each-over P Q over [] h = tt
each-over P Q over (x ∷ xs) h = (over x h.0, each-over P Q over xs h.1)

-- the groups are in the order of their ids, each agrees with its record, and each group with a record is loaded
pub record Invariant (I : Group → Option GroupRecord → Type 0) (groups : List Group) (kept : Kept) : Type 0 where
  pub ascending : Ascending (group_ids groups)
  pub each : Each (λ g. I g (kept g.id)) groups
  pub held : (id : List ℕ) → is_some (kept id) ≡ true → is_some (find_group id groups) ≡ true

-- a step in a group, and the fact after it
pub record Fits (I : Group → Option GroupRecord → Type 0) (kept : Kept) (t : Turn) : Type 0 where
  pub own : OfGroup t.group.id t.commands
  pub good : I t.group (kept_after kept t.commands t.group.id)

pub fits_framed : (I : Group → Option GroupRecord → Type 0) (kept : Kept) (id : List ℕ) (t : Turn) → Framed id t → I t.group (kept_after kept t.commands id) → Fits I kept t
fits_framed I kept id t f h =
    let P : List ℕ → Type 0 = λ i. OfGroup i t.commands in
    let Q : List ℕ → Type 0 = λ i. I t.group (kept_after kept t.commands i) in
    record { own = subst P (sym f.0) f.1; good = subst Q (sym f.0) h }

-- the same groups are loaded after their steps
pub found-turns : (turn : Group → Turn) → ((g : Group) → Framed g.id (turn g)) → (id : List ℕ) (gs : List Group) → is_some (find_group id (groups_after turn gs)) ≡ is_some (find_group id gs)
unfolding find_group
found-turns turn framed id [] = refl
found-turns turn framed id (g ∷ gs) =
    let P : List ℕ → Type 0 = λ i. is_some (cond (is_same (turn g).group.id id) (Some (turn g).group) (find_group id (groups_after turn gs))) ≡ is_some (cond (is_same i id) (Some g) (find_group id gs)) in
    subst P (framed g).0 (elim (is_same (turn g).group.id id) as (λ b. is_some (cond b (Some (turn g).group) (find_group id (groups_after turn gs))) ≡ is_some (cond b (Some g) (find_group id gs))) [ true ↦ refl | false ↦ found-turns turn framed id gs ])

module _ (I : Group → Option GroupRecord → Type 0) where
  taken_held : (groups : List Group) (kept : Kept) (t : Turn) (id : List ℕ) → OfGroup t.group.id t.commands → ((i : List ℕ) → is_some (kept i) ≡ true → is_some (find_group i groups) ≡ true) → is_some (kept_after kept t.commands id) ≡ true → (is_same t.group.id id || is_some (find_group id groups)) ≡ true
  taken_held groups kept t id own held e =
      (elim (is_same t.group.id id) as (λ b. is_same t.group.id id ≡ b → (b || is_some (find_group id groups)) ≡ true) [
        | true ↦ λ d. refl
        | false ↦ λ d. held id (ap is_some (sym (kept_after-other t.group.id id kept t.commands own d)) ∙ e)
      ]) refl

  pub invariant-taken : (groups : List Group) (kept : Kept) (t : Turn) → Fits I kept t → Invariant I groups kept → Invariant I (with_group t.group groups) (kept_after kept t.commands)
  invariant-taken groups kept t f v = record {
    ascending = ascending-with_group t.group groups v.ascending;
    each = each-with_group (λ g. I g (kept g.id)) (λ g. I g (kept_after kept t.commands g.id)) t.group groups f.good
        (λ k d h. let P : Option GroupRecord → Type 0 = λ o. I k o in subst P (sym (kept_after-other t.group.id k.id kept t.commands f.own d)) h) v.ascending v.each;
    held = λ id e. found-with_group id t.group groups (taken_held groups kept t id f.own v.held e);
  }

  pub invariant-concluded : (s : Machine) (kept : Kept) (ticket : Ticket) (o : Result Turn Code) → Fine (Fits I kept) o → Invariant I s.groups kept → Invariant I (concluded s ticket o).after.groups (kept_after kept (concluded s ticket o).effects.commands)
  unfolding concluded
  invariant-concluded s kept ticket (Ok t) f v = invariant-taken s.groups kept t f v
  invariant-concluded s kept ticket (Err code) f v = let P : Kept → Type 0 = λ k. Invariant I s.groups k in subst P (sym (kept_after-none kept)) v

  module _ (turn : Group → Turn) (framed : (g : Group) → Framed g.id (turn g)) (keeps : (g : Group) (kept : Kept) → I g (kept g.id) → I (turn g).group (kept_after kept (turn g).commands g.id)) where
    ids_after : (gs : List Group) → group_ids (groups_after turn gs) ≡ group_ids gs
    ids_after [] = refl
    ids_after (g ∷ gs) = ap (λ x. x ∷ group_ids (groups_after turn gs)) (framed g).0 ∙ ap (λ xs. g.id ∷ xs) (ids_after gs)

    kept-before : (x : List ℕ) (kept : Kept) (gs : List Group) → ComesBefore x (group_ids gs) → kept_after kept (flat_map (λ g. (turn g).commands) gs) x ≡ kept x
    kept-before x kept [] h = ap (λ k. k x) (kept_after-none kept)
    kept-before x kept (g ∷ gs) h =
        ap (λ k. k x) (kept_after-append kept (turn g).commands (flat_map (λ g. (turn g).commands) gs))
        ∙ kept-before x (kept_after kept (turn g).commands) gs h.1
        ∙ kept_after-other g.id x kept (turn g).commands (framed g).1 (nat_list_eq_equiv.symm g.id x ∙ differs_from_order x g.id Less h.0 refl)

    each-turns : (kept : Kept) (gs : List Group) → Ascending (group_ids gs) → Each (λ g. I g (kept g.id)) gs → Each (λ g. I g (kept_after kept (flat_map (λ g. (turn g).commands) gs) g.id)) (groups_after turn gs)
    each-turns kept [] a h = tt
    each-turns kept (g ∷ gs) a h =
        let first : Kept = kept_after kept (turn g).commands in
        let rest : List Command = flat_map (λ g. (turn g).commands) gs in
        let whole : kept_after kept ((turn g).commands ++ rest) ≡ kept_after first rest = kept_after-append kept (turn g).commands rest in
        let P : Kept → Type 0 = λ k. Each (λ g. I g (k g.id)) (groups_after turn (g ∷ gs)) in
        let Q : Option GroupRecord → Type 0 = λ o. I (turn g).group o in
        let own : kept_after first rest (turn g).group.id ≡ kept_after kept (turn g).commands g.id = ap (kept_after first rest) (framed g).0 ∙ kept-before g.id first gs a.0 in
        let others : Each (λ k. I k (first k.id)) gs = each-after (λ k. I k (kept k.id)) (λ k. I k (first k.id)) g.id gs (λ k d i. let R : Option GroupRecord → Type 0 = λ o. I k o in subst R (sym (kept_after-other g.id k.id kept (turn g).commands (framed g).1 d)) i) a.0 h.1 in
        subst P (sym whole) (subst Q (sym own) (keeps g kept h.0), each-turns first gs a.1 others)

    held-turns : (id : List ℕ) (kept : Kept) (gs : List Group) → is_some (kept_after kept (flat_map (λ g. (turn g).commands) gs) id) ≡ true → (is_some (kept id) || is_some (find_group id gs)) ≡ true
    unfolding find_group
    held-turns id kept [] e = or_left (is_some (kept id)) false (ap (λ k. is_some (k id)) (sym (kept_after-none kept)) ∙ e)
    held-turns id kept (g ∷ gs) e =
        let first : Kept = kept_after kept (turn g).commands in
        let rest : List Command = flat_map (λ g. (turn g).commands) gs in
        let whole : is_some (kept_after first rest id) ≡ true = ap (λ k. is_some (k id)) (sym (kept_after-append kept (turn g).commands rest)) ∙ e in
        (elim (is_same g.id id) as (λ b. is_same g.id id ≡ b → (is_some (kept id) || is_some (cond b (Some g) (find_group id gs))) ≡ true) [
          | true ↦ λ d. or_right (is_some (kept id)) true refl
          | false ↦ λ d. ap (λ o. is_some o || is_some (find_group id gs)) (sym (kept_after-other g.id id kept (turn g).commands (framed g).1 d)) ∙ held-turns id first gs whole
        ]) refl

    either : (a b : Bool) → (a || b) ≡ true → (a ≡ true → b ≡ true) → b ≡ true
    either true b e k = k refl
    either false b e k = e

    pub invariant-everywhere : (s : Machine) (kept : Kept) → Invariant I s.groups kept → Invariant I (everywhere turn s).after.groups (kept_after kept (everywhere turn s).effects.commands)
    unfolding everywhere
    invariant-everywhere s kept v = record {
      ascending = subst (λ (xs : List (List ℕ)). Ascending xs) (sym (ids_after s.groups)) v.ascending;
      each = each-turns kept s.groups v.ascending v.each;
      held = λ id e. found-turns turn framed id s.groups ∙ either (is_some (kept id)) (is_some (find_group id s.groups)) (held-turns id kept s.groups e) (v.held id);
    }

-- a deleted group has no record
module _ (I : Group → Option GroupRecord → Type 0) where
  kept-deleted : (kept : Kept) (id : List ℕ) → kept_after kept (command.Deleted (record { group = id }) ∷ []) id ≡ None
  kept-deleted kept id = kept_after-one kept (command.Deleted (record { group = id })) id refl

  pub kept-undeleted : (kept : Kept) (id other : List ℕ) → is_same id other ≡ false → kept_after kept (command.Deleted (record { group = id }) ∷ []) other ≡ kept other
  kept-undeleted kept id other d = kept_after-other id other kept (command.Deleted (record { group = id }) ∷ []) (refl, tt) d

  held-deleted : (s : Machine) (kept : Kept) (id x : List ℕ) → Invariant I s.groups kept → is_some (kept_after kept (command.Deleted (record { group = id }) ∷ []) x) ≡ true → is_some (find_group x (without_group id s.groups)) ≡ true
  held-deleted s kept id x v e =
      (elim (is_same id x) as (λ b. is_same id x ≡ b → is_some (find_group x (without_group id s.groups)) ≡ true) [
        | true ↦ λ d.
            let gone : kept_after kept (command.Deleted (record { group = id }) ∷ []) x ≡ None = ap (kept_after kept (command.Deleted (record { group = id }) ∷ [])) (sym (same_names id x d)) ∙ kept-deleted kept id in
            absurd (false≢true (sym (ap is_some gone) ∙ e))
        | false ↦ λ d. found-without id x s.groups d (v.held x (ap is_some (sym (kept-undeleted kept id x d)) ∙ e))
      ]) refl

  pub invariant-deleted : (s : Machine) (kept : Kept) (ticket : Ticket) (o : Result (List ℕ) Code) → Invariant I s.groups kept → Invariant I (deleted s ticket o).after.groups (kept_after kept (deleted s ticket o).effects.commands)
  unfolding deleted
  invariant-deleted s kept ticket (Err code) v = let P : Kept → Type 0 = λ k. Invariant I s.groups k in subst P (sym (kept_after-none kept)) v
  invariant-deleted s kept ticket (Ok id) v = record {
    ascending = ascending-without id s.groups v.ascending;
    each = each-without-over (λ g. I g (kept g.id)) (λ g. I g (kept_after kept (command.Deleted (record { group = id }) ∷ []) g.id)) id s.groups
        (λ k d h. let P : Option GroupRecord → Type 0 = λ o. I k o in subst P (sym (kept-undeleted kept id k.id d)) h) v.ascending v.each;
    held = λ x e. held-deleted s kept id x v e;
  }
