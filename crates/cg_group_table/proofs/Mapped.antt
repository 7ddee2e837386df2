-- A map of groups, each under its own id: a change of an entry is a change of the list of groups.
use Rattle.std.proofs.Common.{◌≡◌, ℕ, Bool, true, false, cond, List, [], ◌∷◌, find, is_some, Option, Some, None, Result, Ok, Err, MatchOption, refl, sym, ap, ◌∙◌, subst}
use Rattle.std.specs.Prelude.{if◌then◌else◌}
use Rattle.std.proofs.lemmas.Cmp.{nat_list_eq_equiv}
use Rattle.std.proofs.lemmas.Map.Text.{is_eq-slice_cmp}
use Rattle.std.specs.BTreeMap.{insert_entry, is_at}
use Rattle.std.specs.Cmp.Lexicographic.{slice_cmp}
use Rattle.std.specs.Map.{lookup, remove_entry, set_value, values_of}
use Rattle.std.specs.Ordering.{nat_cmp, match_ordering}
use Rattle.std.specs.declared.cmp.Ordering.TheVariants.{Less, Equal, Greater}
use Rattle.cg_group_state.specs.declared.effects.Effects.{Effects}
use Rattle.cg_group_state.specs.declared.group.Group.{Group}
use Rattle.cg_group_state.specs.declared.turn.Turn.{Turn}
use Rattle.cg_group_table.specs.GroupChanges.{IsChanged, KeepsId, StepsTo}
use Rattle.cg_group_table.specs.GroupTable.{IsHeld, StandUnderIds, InOrder, find_group, with_group, without_group}
use Rattle.cg_request.specs.Names.{is_same}
use Rattle.cg_group_state.specs.Membership.{hearing}
use Rattle.cg_group_rules.specs.Rebalance.{turned}
use Rattle.cg_group_table.proofs.InOrder.{before_found, equal_is, found_named, less_greater, same_order}
use Rattle.cg_group_table.proofs.KeptLists.{ascending-with_group, same_names}

abbrev Entries : Type 0
Entries = List (List ℕ × Group)

-- a query matches a key if the group there has its id
at_own : (x k id : List ℕ) → k ≡ id → is_at (slice_cmp nat_cmp x) k ≡ is_same id x
at_own x k id e = is_eq-slice_cmp x k ∙ nat_list_eq_equiv.symm x k ∙ ap (λ y. is_same y x) e

pub lookup-own : (x : List ℕ) (es : Entries) → StandUnderIds es → lookup (is_at (slice_cmp nat_cmp x)) es ≡ find_group x (values_of es)
unfolding find_group
lookup-own x [] h = refl
lookup-own x (e ∷ es) h =
    ap (λ b. cond b (Some e.1) (lookup (is_at (slice_cmp nat_cmp x)) es)) (at_own x e.0 e.1.id h.0)
    ∙ ap (λ o. cond (is_same e.1.id x) (Some e.1) o) (lookup-own x es h.1)

pub values-insert_entry : (k : List ℕ) (g : Group) (es : Entries) → StandUnderIds es → k ≡ g.id → values_of (insert_entry (slice_cmp nat_cmp) es k g) ≡ with_group g (values_of es)
unfolding with_group
values-insert_entry k g [] h own = refl
values-insert_entry k g (e ∷ es) h own =
    let rest = values-insert_entry k g es h.1 own in
    let same : slice_cmp nat_cmp k e.0 ≡ slice_cmp nat_cmp g.id e.1.id = ap (λ y. slice_cmp nat_cmp y e.0) own ∙ ap (slice_cmp nat_cmp g.id) h.0 in
    ap (λ o. values_of (match_ordering o ((k, g) ∷ e ∷ es) ((e.0, g) ∷ es) (e ∷ insert_entry (slice_cmp nat_cmp) es k g))) same
    ∙ (elim (slice_cmp nat_cmp g.id e.1.id) as (λ o. values_of (match_ordering o ((k, g) ∷ e ∷ es) ((e.0, g) ∷ es) (e ∷ insert_entry (slice_cmp nat_cmp) es k g)) ≡ match_ordering o (g ∷ e.1 ∷ values_of es) (g ∷ values_of es) (e.1 ∷ with_group g (values_of es))) [
      | Less ↦ refl
      | Equal ↦ refl
      | Greater ↦ ap (λ ys. e.1 ∷ ys) rest
    ])

pub stand-insert_entry : (k : List ℕ) (g : Group) (es : Entries) → StandUnderIds es → k ≡ g.id → StandUnderIds (insert_entry (slice_cmp nat_cmp) es k g)
stand-insert_entry k g [] h own = (own, tt)
stand-insert_entry k g (e ∷ es) h own =
    (elim (slice_cmp nat_cmp k e.0) as (λ o. slice_cmp nat_cmp k e.0 ≡ o → StandUnderIds (match_ordering o ((k, g) ∷ e ∷ es) ((e.0, g) ∷ es) (e ∷ insert_entry (slice_cmp nat_cmp) es k g))) [
      | Less ↦ λ c. (own, h)
      | Equal ↦ λ c. (sym (equal_is k e.0 c) ∙ own, h.1)
      | Greater ↦ λ c. (h.0, stand-insert_entry k g es h.1 own)
    ]) refl

-- a group in the place of the one with its id
pub values-set_value : (x : List ℕ) (g k : Group) (es : Entries) → StandUnderIds es → InOrder (values_of es) → find_group x (values_of es) ≡ Some k → k.id ≡ g.id → values_of (set_value (is_at (slice_cmp nat_cmp x)) es g) ≡ with_group g (values_of es)
unfolding find_group with_group
values-set_value x g k [] h o found same = cc
values-set_value x g k (e ∷ es) h o found same =
    ap (λ b. values_of (cond b ((e.0, g) ∷ es) (e ∷ set_value (is_at (slice_cmp nat_cmp x)) es g))) (at_own x e.0 e.1.id h.0)
    ∙ (elim (is_same e.1.id x) as (λ b. cond b (Some e.1) (find (λ y. is_same y.id x) (values_of es)) ≡ Some k → values_of (cond b ((e.0, g) ∷ es) (e ∷ set_value (is_at (slice_cmp nat_cmp x)) es g)) ≡ match_ordering (slice_cmp nat_cmp g.id e.1.id) (g ∷ e.1 ∷ values_of es) (g ∷ values_of es) (e.1 ∷ with_group g (values_of es))) [
      | true ↦ λ f.
          let own : e.1 ≡ k = cc in
          let level : slice_cmp nat_cmp g.id e.1.id ≡ Equal = ap (slice_cmp nat_cmp g.id) (ap (λ (y : Group). y.id) own ∙ same) ∙ same_order g.id in
          sym (ap (λ o. match_ordering o (g ∷ e.1 ∷ values_of es) (g ∷ values_of es) (e.1 ∷ with_group g (values_of es))) level)
      | false ↦ λ f.
          let P : List ℕ → Type 0 = λ y. slice_cmp nat_cmp e.1.id y ≡ Less in
          let behind = subst P same (before_found e.1.id x (values_of es) k o.0 f) in
          ap (λ ys. e.1 ∷ ys) (values-set_value x g k es h.1 o.1 f same)
          ∙ sym (ap (λ o. match_ordering o (g ∷ e.1 ∷ values_of es) (g ∷ values_of es) (e.1 ∷ with_group g (values_of es))) (less_greater e.1.id g.id behind))
    ]) found

pub stand-set_value : (x : List ℕ) (g : Group) (es : Entries) → StandUnderIds es → x ≡ g.id → StandUnderIds (set_value (is_at (slice_cmp nat_cmp x)) es g)
stand-set_value x g [] h own = tt
stand-set_value x g (e ∷ es) h own =
    let P : Bool → Type 0 = λ b. StandUnderIds (cond b ((e.0, g) ∷ es) (e ∷ set_value (is_at (slice_cmp nat_cmp x)) es g)) in
    subst P (sym (at_own x e.0 e.1.id h.0)) ((elim (is_same e.1.id x) as (λ b. is_same e.1.id x ≡ b → P b) [
      | true ↦ λ t. (h.0 ∙ same_names e.1.id x t ∙ own, h.1)
      | false ↦ λ t. (h.0, stand-set_value x g es h.1 own)
    ]) refl)

pub values-remove_entry : (x : List ℕ) (es : Entries) → StandUnderIds es → values_of (remove_entry (is_at (slice_cmp nat_cmp x)) es) ≡ without_group x (values_of es)
unfolding without_group
values-remove_entry x [] h = refl
values-remove_entry x (e ∷ es) h =
    ap (λ b. values_of (cond b es (e ∷ remove_entry (is_at (slice_cmp nat_cmp x)) es))) (at_own x e.0 e.1.id h.0)
    ∙ (elim (is_same e.1.id x) as (λ b. values_of (cond b es (e ∷ remove_entry (is_at (slice_cmp nat_cmp x)) es)) ≡ (if b then values_of es else e.1 ∷ without_group x (values_of es))) [
      | true ↦ refl
      | false ↦ ap (λ ys. e.1 ∷ ys) (values-remove_entry x es h.1)
    ])

pub stand-remove_entry : (x : List ℕ) (es : Entries) → StandUnderIds es → StandUnderIds (remove_entry (is_at (slice_cmp nat_cmp x)) es)
stand-remove_entry x [] h = tt
stand-remove_entry x (e ∷ es) h =
    elim (is_at (slice_cmp nat_cmp x) e.0) as (λ b. StandUnderIds (cond b es (e ∷ remove_entry (is_at (slice_cmp nat_cmp x)) es))) [ true ↦ h.1 | false ↦ (h.0, stand-remove_entry x es h.1) ]

-- the same, for a group with its own id
pub replaced : (g : Group) (es : Entries) → StandUnderIds es → InOrder (values_of es) → IsHeld (values_of es) g.id → values_of (set_value (is_at (slice_cmp nat_cmp g.id)) es g) ≡ with_group g (values_of es)
replaced g es h o held = go (find_group g.id (values_of es)) refl held
  where
    go : (found : Option Group) → find_group g.id (values_of es) ≡ found → is_some found ≡ true → values_of (set_value (is_at (slice_cmp nat_cmp g.id)) es g) ≡ with_group g (values_of es)
    go None e t = cc
    go (Some k) e t = values-set_value g.id g k es h o e (found_named g.id (values_of es) k e)

pub id-hearing : (now : ℕ) (id : List ℕ) (g : Group) → (hearing now id g).id ≡ g.id
unfolding hearing
id-hearing now id g = refl

-- a loaded group is changed in its place
module _ {X : Type 0} (x : List ℕ) (becomes : Group → Group → X → Type 0) (keeps : KeepsId becomes) (es later : Entries) (h : StandUnderIds es) (o : InOrder (values_of es)) where
  abbrev pub Put : Group → X → Type 0
  Put g y = (after : Group) × becomes g after y × (later ≡ set_value (is_at (slice_cmp nat_cmp x)) es after)

  put_values : (g : Group) → find_group x (values_of es) ≡ Some g → (y : X) (p : Put g y) → values_of later ≡ with_group p.0 (values_of es)
  put_values g found y p = ap values_of p.2 ∙ values-set_value x p.0 g es h o found (sym (keeps g p.0 y p.1))

  pub changed_there : (g : Group) → find_group x (values_of es) ≡ Some g → (r : Option X) → MatchOption r ⊥ (Put g) → MatchOption r ⊥ (IsChanged becomes (values_of es) (values_of later) g)
  changed_there g found None p = p
  changed_there g found (Some y) p = record { after = p.0; became = p.1; put = put_values g found y p }

  put_whole : (g : Group) → find_group x (values_of es) ≡ Some g → (r : Option X) → MatchOption r ⊥ (Put g) → StandUnderIds later × InOrder (values_of later)
  put_whole g found None p = absurd p
  put_whole g found (Some y) p =
      let S : Entries → Type 0 = λ es. StandUnderIds es in
      let O : List Group → Type 0 = λ gs. InOrder gs in (
        subst S (sym p.2) (stand-set_value x p.0 es h (sym (keeps g p.0 y p.1 ∙ found_named x (values_of es) g found))),
        subst O (sym (put_values g found y p)) (ascending-with_group p.0 (values_of es) o),
      )

  pub changed_whole : (r : Option X) → ((g : Group) → find_group x (values_of es) ≡ Some g → MatchOption r ⊥ (Put g)) → (find_group x (values_of es) ≡ None → later ≡ es) → StandUnderIds later × InOrder (values_of later)
  changed_whole r some none =
      let P : Entries → Type 0 = λ es. StandUnderIds es × InOrder (values_of es) in
      (elim (find_group x (values_of es)) as (λ f. find_group x (values_of es) ≡ f → StandUnderIds later × InOrder (values_of later)) [
        | None ↦ λ e. subst P (sym (none e)) (h, o)
        | Some g ↦ λ e. put_whole g e r (some g e)
      ]) refl

-- a change that is a function of the group
pub changed_by : {X : Type 0} (becomes : Group → Group → X → Type 0) (step : Group → Group) → ((g after : Group) (x : X) → becomes g after x → after ≡ step g) → (groups later : List Group) (g : Group) (r : Option X)
    → MatchOption r ⊥ (IsChanged becomes groups later g) → later ≡ with_group (step g) groups
changed_by becomes step is groups later g None p = absurd p
changed_by becomes step is groups later g (Some x) p = p.put ∙ ap (λ k. with_group k groups) (is g p.after x p.became)

-- a change that is a step keeps the id of its group, if every such step does
pub keeps_step : {E : Type 0} (kind : Group → Turn → Type 0) → ((g : Group) (t : Turn) → kind g t → t.group.id ≡ g.id) → KeepsId {X = Result Effects E} (λ g. StepsTo (kind g) g)
keeps_step kind keeps g after (Ok e) is = keeps g (turned after e) is
keeps_step kind keeps g after (Err x) same = ap (λ (k : Group). k.id) same
