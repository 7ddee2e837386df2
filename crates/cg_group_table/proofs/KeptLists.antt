-- Records of commands, group by group; and groups in the order of the bytes of their ids.
use Rattle.std.proofs.Common.{◌≡◌, ℕ, true, false, ◌||◌, List, [], ◌∷◌, ◌++◌, map, find, cond, is_some, refl, sym, ap, ◌∙◌, subst, Option, Some, None}
use Rattle.std.proofs.lemmas.Bool.{cond-true, cond-false}
use Rattle.std.proofs.lemmas.Cmp.{nat_list_cmp_total, nat_list_eq_equiv}
use Rattle.std.proofs.lemmas.Slice.Eq.{bytes_eq-Decides}
use Rattle.std.proofs.lemmas.Map.Text.{is_eq-slice_cmp}
use Rattle.std.specs.Cmp.Lexicographic.{slice_cmp}
use Rattle.std.specs.Ordering.{nat_cmp, is_eq, match_ordering, ordering_reverse}
use Rattle.std.specs.declared.cmp.Ordering.{Ordering}
use Rattle.std.specs.declared.cmp.Ordering.TheVariants.{Less, Equal, Greater}
use Rattle.cg_record.specs.declared.command.Command.{Command}
use Rattle.cg_group_state.specs.declared.group.Group.{Group}
use Rattle.cg_group_table.specs.Kept.{Each, ComesBefore, Ascending, Kept}
use Rattle.cg_group_table.proofs.Kept.{effect, group_of, kept_after, left_by}
use Rattle.cg_group_table.specs.GroupTable.{find_group, with_group}
use Rattle.cg_group_state.specs.Membership.{is_same}
use Rattle.cg_group_table.proofs.Framed.{OfGroup}

-- a name has the same bytes as itself
pub same_self : (x : List ℕ) → is_same x x ≡ true
same_self x = nat_list_eq_equiv.refl x

pub same_names : (x y : List ℕ) → is_same x y ≡ true → x ≡ y
same_names x y e = (bytes_eq-Decides x y).0 e

pub differs_from_order : (x y : List ℕ) (o : Ordering) → slice_cmp nat_cmp x y ≡ o → is_eq o ≡ false → is_same x y ≡ false
differs_from_order x y o e d = sym (is_eq-slice_cmp x y) ∙ ap is_eq e ∙ d

-- the record of another group stays as it was
pub kept_after-other : (id other : List ℕ) (kept : Kept) (cs : List Command) → OfGroup id cs → is_same id other ≡ false → kept_after kept cs other ≡ kept other
unfolding kept_after
kept_after-other id other kept [] h d = refl
kept_after-other id other kept (c ∷ cs) h d =
    kept_after-other id other (effect kept c) cs h.1 d ∙ cond-false (is_same (group_of c) other) (left_by c (kept other)) (kept other) (ap (λ x. is_same x other) h.0 ∙ d)

pub kept_after-append : (kept : Kept) (cs ds : List Command) → kept_after kept (cs ++ ds) ≡ kept_after (kept_after kept cs) ds
unfolding kept_after
kept_after-append kept [] ds = refl
kept_after-append kept (c ∷ cs) ds = kept_after-append (effect kept c) cs ds

pub kept_after-one : (kept : Kept) (c : Command) (id : List ℕ) → group_of c ≡ id → kept_after kept (c ∷ []) id ≡ left_by c (kept id)
unfolding kept_after
kept_after-one kept c id e = cond-true (is_same (group_of c) id) (left_by c (kept id)) (kept id) (ap (λ x. is_same x id) e ∙ same_self id)

pub kept_after-none : (kept : Kept) → kept_after kept [] ≡ kept
unfolding kept_after
kept_after-none kept = refl

-- a name that comes before another also comes before all that the other comes before
pub before-trans : (x y : List ℕ) (zs : List (List ℕ)) → slice_cmp nat_cmp x y ≡ Less → ComesBefore y zs → ComesBefore x zs
before-trans x y [] e h = tt
before-trans x y (z ∷ zs) e h = (nat_list_cmp_total.trans x y z e h.0, before-trans x y zs e h.1)

pub before-same : (x y : List ℕ) (zs : List (List ℕ)) → slice_cmp nat_cmp x y ≡ Equal → ComesBefore y zs → ComesBefore x zs
before-same x y [] e h = tt
before-same x y (z ∷ zs) e h = (nat_list_cmp_total.congr x y z e ∙ h.0, before-same x y zs e h.1)

greater-less : (x y : List ℕ) → slice_cmp nat_cmp x y ≡ Greater → slice_cmp nat_cmp y x ≡ Less
greater-less x y e = nat_list_cmp_total.antisymm y x ∙ ap ordering_reverse e

-- the ids of the groups
abbrev pub group_ids : List Group → List (List ℕ)
group_ids groups = map (λ g. g.id) groups

before-with_group : (x : List ℕ) (g : Group) (gs : List Group) → slice_cmp nat_cmp x g.id ≡ Less → ComesBefore x (group_ids gs) → ComesBefore x (group_ids (with_group g gs))
unfolding with_group
before-with_group x g [] e h = (e, tt)
before-with_group x g (k ∷ ks) e h =
    elim (slice_cmp nat_cmp g.id k.id) as (λ o. ComesBefore x (group_ids (match_ordering o (g ∷ k ∷ ks) (g ∷ ks) (k ∷ with_group g ks)))) [
      | Less ↦ (e, h)
      | Equal ↦ (e, h.1)
      | Greater ↦ (h.0, before-with_group x g ks e h.1)
    ]

pub ascending-with_group : (g : Group) (gs : List Group) → Ascending (group_ids gs) → Ascending (group_ids (with_group g gs))
unfolding with_group
ascending-with_group g [] h = (tt, tt)
ascending-with_group g (k ∷ ks) h =
    (elim (slice_cmp nat_cmp g.id k.id) as (λ o. slice_cmp nat_cmp g.id k.id ≡ o → Ascending (group_ids (match_ordering o (g ∷ k ∷ ks) (g ∷ ks) (k ∷ with_group g ks)))) [
      | Less ↦ λ e. ((e, before-trans g.id k.id (group_ids ks) e h.0), h)
      | Equal ↦ λ e. (before-same g.id k.id (group_ids ks) e h.0, h.1)
      | Greater ↦ λ e. (before-with_group k.id g ks (greater-less g.id k.id e) h.0, ascending-with_group g ks h.1)
    ]) refl

-- a fact about each group carries over to the groups after an insertion, if it does for groups with another id
pub each-after : (P Q : Group → Type 0) (x : List ℕ) (gs : List Group) → ((k : Group) → is_same x k.id ≡ false → P k → Q k) → ComesBefore x (group_ids gs) → Each P gs → Each Q gs
each-after P Q x [] over h e = tt
each-after P Q x (k ∷ ks) over h e = (over k (differs_from_order x k.id Less h.0 refl) e.0, each-after P Q x ks over h.1 e.1)

pub each-with_group : (P Q : Group → Type 0) (g : Group) (gs : List Group) → Q g → ((k : Group) → is_same g.id k.id ≡ false → P k → Q k) → Ascending (group_ids gs) → Each P gs → Each Q (with_group g gs)
unfolding with_group
each-with_group P Q g [] q over h e = (q, tt)
each-with_group P Q g (k ∷ ks) q over h e =
    (elim (slice_cmp nat_cmp g.id k.id) as (λ o. slice_cmp nat_cmp g.id k.id ≡ o → Each Q (match_ordering o (g ∷ k ∷ ks) (g ∷ ks) (k ∷ with_group g ks))) [
      | Less ↦ λ i. (q, (over k (differs_from_order g.id k.id Less i refl) e.0, each-after P Q g.id ks over (before-trans g.id k.id (group_ids ks) i h.0) e.1))
      | Equal ↦ λ i. (q, each-after P Q g.id ks over (before-same g.id k.id (group_ids ks) i h.0) e.1)
      | Greater ↦ λ i. (over k (differs_from_order g.id k.id Greater i refl) e.0, each-with_group P Q g ks q over h.1 e.1)
    ]) refl

-- which ids are loaded after an insertion
pub found-with_group : (id : List ℕ) (g : Group) (gs : List Group) → (is_same g.id id || is_some (find_group id gs)) ≡ true → is_some (find_group id (with_group g gs)) ≡ true
unfolding with_group find_group
found-with_group id g [] h =
    (elim (is_same g.id id) as (λ b. (b || false) ≡ true → is_some (cond b (Some g) None) ≡ true) [ true ↦ λ e. refl | false ↦ λ e. e ]) h
found-with_group id g (k ∷ ks) h =
    (elim (slice_cmp nat_cmp g.id k.id) as (λ o. slice_cmp nat_cmp g.id k.id ≡ o → is_some (find_group id (match_ordering o (g ∷ k ∷ ks) (g ∷ ks) (k ∷ with_group g ks))) ≡ true) [
      | Less ↦ λ e. first (find_group id (k ∷ ks)) h
      | Equal ↦ λ e. level (same_names g.id k.id (sym (is_eq-slice_cmp g.id k.id) ∙ ap is_eq e))
      | Greater ↦ λ e. last (found-with_group id g ks)
    ]) refl
  where
    first : (o : Option Group) → (is_same g.id id || is_some o) ≡ true → is_some (cond (is_same g.id id) (Some g) o) ≡ true
    first o = elim (is_same g.id id) as (λ b. (b || is_some o) ≡ true → is_some (cond b (Some g) o) ≡ true) [ true ↦ λ e. refl | false ↦ λ e. e ]

    level : g.id ≡ k.id → is_some (cond (is_same g.id id) (Some g) (find_group id ks)) ≡ true
    level e =
        let P : List ℕ → Type 0 = λ i. (is_same g.id id || is_some (cond (is_same i id) (Some k) (find_group id ks))) ≡ true in
        (elim (is_same g.id id) as (λ b. (b || is_some (cond b (Some k) (find_group id ks))) ≡ true → is_some (cond b (Some g) (find_group id ks)) ≡ true) [ true ↦ λ e. refl | false ↦ λ e. e ]) (subst P (sym e) h)

    last : ((is_same g.id id || is_some (find_group id ks)) ≡ true → is_some (find_group id (with_group g ks)) ≡ true) → is_some (cond (is_same k.id id) (Some k) (find_group id (with_group g ks))) ≡ true
    last rec =
        (elim (is_same k.id id) as (λ b. (is_same g.id id || is_some (cond b (Some k) (find_group id ks))) ≡ true → is_some (cond b (Some k) (find_group id (with_group g ks))) ≡ true) [ true ↦ λ e. refl | false ↦ λ e. rec e ]) h

pub each-found : (P : Group → Type 0) (id : List ℕ) (gs : List Group) (g : Group) → find_group id gs ≡ Some g → Each P gs → P g
unfolding find_group
each-found P id [] g e h = cc
each-found P id (x ∷ xs) g e h =
    (elim (is_same x.id id) as (λ b. cond b (Some x) (find (λ y. is_same y.id id) xs) ≡ Some g → P g) [
      | true ↦ λ e. let same : x ≡ g = cc in subst P same h.0
      | false ↦ λ e. each-found P id xs g e h.1
    ]) e

pub id-found : (id : List ℕ) (gs : List Group) (g : Group) → find_group id gs ≡ Some g → is_same g.id id ≡ true
unfolding find_group
id-found id [] g e = cc
id-found id (x ∷ xs) g e =
    (elim (is_same x.id id) as (λ b. is_same x.id id ≡ b → cond b (Some x) (find (λ y. is_same y.id id) xs) ≡ Some g → is_same g.id id ≡ true) [
      | true ↦ λ t e. let same : x ≡ g = cc in let P : Group → Type 0 = λ y. is_same y.id id ≡ true in subst P same t
      | false ↦ λ t e. id-found id xs g e
    ]) refl e

pub each-put : (P : Group → Type 0) (g : Group) (gs : List Group) → P g → Each P gs → Each P (with_group g gs)
unfolding with_group
each-put P g [] p h = (p, tt)
each-put P g (k ∷ ks) p h =
    elim (slice_cmp nat_cmp g.id k.id) as (λ o. Each P (match_ordering o (g ∷ k ∷ ks) (g ∷ ks) (k ∷ with_group g ks))) [
      | Less ↦ (p, h)
      | Equal ↦ (p, h.1)
      | Greater ↦ (h.0, each-put P g ks p h.1)
    ]
