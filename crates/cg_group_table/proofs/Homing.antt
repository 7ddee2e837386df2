-- The session index keeps each parked call after an event.
use Rattle.std.proofs.Common.{◌≡◌, ℕ, zero, suc, ◌+◌, ◌<◌, ◌≤◌, Bool, true, false, cond, List, [], ◌∷◌, length, get_or, is_some, inl, inr, Option, Some, None, refl, sym, ap, ◌∙◌, subst, arith}
use Rattle.std.proofs.lemmas.Bool.{cases_lt, eqb-true, false≢true}
use Rattle.std.specs.Prelude.{◌⊎◌, ◌==◌, nat_lt}
use Rattle.std.specs.declared.cmp.Ordering.TheVariants.{Less, Equal, Greater}
use Rattle.std.specs.BTreeMap.{BTreeMap, get, is_at}
use Rattle.std.specs.Cmp.Lexicographic.{slice_cmp}
use Rattle.std.proofs.lemmas.Map.Text.{is_eq-slice_cmp}
use Rattle.std.specs.Ordering.{nat_cmp, is_eq}
use Rattle.std.proofs.lemmas.List.{get_or_default}
use Rattle.cg_group_state.specs.declared.group.Group.{Group}
use Rattle.cg_group_state.specs.declared.member.Member.{Member}
use Rattle.cg_group_state.specs.declared.member.Waits.{Waits}
use Rattle.cg_group_state.specs.declared.member.Waits.TheVariants.{Nothing, Join, Sync}
use Rattle.cg_group_table.specs.declared.session_index.Home.{Home}
use Rattle.cg_group_table.specs.declared.session_index.Home.TheVariants.{Certain}
use Rattle.cg_group_table.specs.Kept.{Each}
use Rattle.cg_group_table.specs.GroupTable.{InOrder, find_group}
use Rattle.cg_request.specs.Names.{is_same}
use Rattle.cg_group_table.specs.SessionIndex.{AreKnown, Known, is_certain_in, is_known, is_lived_in, is_noted}
use Rattle.cg_group_table.proofs.InOrder.{found_alone, found_named, none_found}
use Rattle.cg_group_table.proofs.KeptLists.{same_names, same_self}

-- the entries of other groups stay
pub others_stay : (id x : List ℕ) (before after : Option Home) → after ≡ cond (is_at (slice_cmp nat_cmp id) x) None before → (x ≡ id → ⊥) → is_some before ≡ true → is_some after ≡ true
others_stay id x before after is apart h =
    ap is_some (is ∙ ap (λ b. cond b None before) (is_eq-slice_cmp id x))
    ∙ (elim (is_same id x) as (λ b. is_same id x ≡ b → is_some (cond b None before) ≡ true) [
      | true ↦ λ e. absurd (apart (sym (same_names id x e)))
      | false ↦ λ e. h
    ]) refl

-- an entry that says that a call is parked stays
pub lived_in_stay : (id x : List ℕ) (before after : Option Home) → after ≡ cond (is_at (slice_cmp nat_cmp id) x) None before → (x ≡ id → is_lived_in before ≡ false) → is_lived_in before ≡ true → is_lived_in after ≡ true
lived_in_stay id x before after is doubtful h =
    ap is_lived_in (is ∙ ap (λ b. cond b None before) (is_eq-slice_cmp id x))
    ∙ (elim (is_same id x) as (λ b. is_same id x ≡ b → is_lived_in (cond b None before) ≡ true) [
      | true ↦ λ e. absurd (false≢true (sym (doubtful (sym (same_names id x e))) ∙ h))
      | false ↦ λ e. h
    ]) refl

-- with more sessions in the index, what was known stays known
pub known_more : (sessions more : ℕ → Bool) → ((q : ℕ) → sessions q ≡ true → more q ≡ true) → (w : Waits) → is_known sessions w ≡ true → is_known more w ≡ true
known_more sessions more kept Nothing h = refl
known_more sessions more kept (Join t) h = kept t.session h
known_more sessions more kept (Sync t) h = kept t.session h

pub known_members : (sessions more : ℕ → Bool) → ((q : ℕ) → sessions q ≡ true → more q ≡ true) → (ms : List Member) → Each (λ (m : Member). is_known sessions m.waits ≡ true) ms → Each (λ (m : Member). is_known more m.waits ≡ true) ms
known_members sessions more kept [] h = tt
known_members sessions more kept (m ∷ ms) h = (known_more sessions more kept m.waits h.0, known_members sessions more kept ms h.1)

-- from a fact about each element to the element at an index
pub each_to_place : {X : Type 0} (P : X → Type 0) (xs : List X) → Each P xs → (k : ℕ) (d : X) → k < length xs → P (get_or xs k d)
each_to_place P [] h k d lt = absurd (omega arith)
each_to_place P (x ∷ xs) h zero d lt = h.0
each_to_place P (x ∷ xs) h (suc k) d lt = each_to_place P xs h.1 k d (omega arith)

pub each_from_place : {X : Type 0} (P : X → Type 0) (xs : List X) → ((k : ℕ) (d : X) → k < length xs → P (get_or xs k d)) → Each P xs
each_from_place P [] h = tt
each_from_place P (x ∷ xs) h = (h 0 x (omega arith), each_from_place P xs (λ k d lt. h (suc k) d (omega arith)))

-- what two facts about each element give
pub each_both : {X : Type 0} (P Q R : X → Type 0) → ((x : X) → P x → Q x → R x) → (xs : List X) → Each P xs → Each Q xs → Each R xs
each_both P Q R both [] p q = tt
each_both P Q R both (x ∷ xs) p q = (both x p.0 q.0, each_both P Q R both xs p.1 q.1)

-- the group in which the event happened, and the others
module _ (before after : ℕ → List ℕ → Bool) (id : List ℕ) (others : (q : ℕ) (x : List ℕ) → (x ≡ id → ⊥) → before q x ≡ true → after q x ≡ true) where
  apart_stays : (g : Group) → is_same g.id id ≡ false → Known (λ q. before q g.id) g → Known (λ q. after q g.id) g
  apart_stays g e h = known_members (λ q. before q g.id) (λ q. after q g.id) (λ q k. others q g.id (λ same. false≢true (sym e ∙ own g.id id same)) k) g.members h
    where
      own : (x y : List ℕ) → x ≡ y → is_same x y ≡ true
      own x y e = sym (is_eq-slice_cmp x y) ∙ level x y e
        where
          level : (x y : List ℕ) → x ≡ y → is_eq (slice_cmp nat_cmp x y) ≡ true
          level x y e = ap (λ z. is_eq (slice_cmp nat_cmp x z)) (sym e) ∙ is_eq-slice_cmp x x ∙ same_self x

  -- no group has the id
  pub settled_unheld : (gs : List Group) → find_group id gs ≡ None → AreKnown before gs → AreKnown after gs
  settled_unheld gs none h = go gs (none_found id gs none) h
    where
      go : (hs : List Group) → Each (λ (g : Group). is_same g.id id ≡ false) hs → AreKnown before hs → AreKnown after hs
      go [] e h = tt
      go (g ∷ gs) e h = (apart_stays g e.0 h.0, go gs e.1 h.1)

  -- the parked calls of the group are still in the index
  pub settled_held : (gs : List Group) (g : Group) → InOrder gs → find_group id gs ≡ Some g → (Known (λ q. before q id) g → Known (λ q. after q id) g) → AreKnown before gs → AreKnown after gs
  settled_held gs g o found stays h = go gs (found_alone id gs g o found) h
    where
      here : (x : Group) → x ≡ g → Known (λ q. before q x.id) x → Known (λ q. after q x.id) x
      here x same k =
          let own : x.id ≡ id = ap (λ (y : Group). y.id) same ∙ found_named id gs g found in
          let B : List ℕ → Type 0 = λ i. Known (λ q. before q i) x in
          let A : List ℕ → Type 0 = λ i. Known (λ q. after q i) x in
          let BG : Group → Type 0 = λ y. Known (λ q. before q id) y in
          let AG : Group → Type 0 = λ y. Known (λ q. after q id) y in
          subst A (sym own) (subst AG (sym same) (stays (subst BG same (subst B own k))))

      go : (hs : List Group) → Each (λ (h : Group). is_same h.id id ≡ true → h ≡ g) hs → AreKnown before hs → AreKnown after hs
      go [] e h = tt
      go (x ∷ xs) e h = (
        (elim (is_same x.id id) as (λ b. is_same x.id id ≡ b → Known (λ q. after q x.id) x) [
          | true ↦ λ t. here x (e.0 t) h.0
          | false ↦ λ t. apart_stays x t h.0
        ]) refl,
        go xs e.1 h.1,
      )

-- an entry that says that a call is parked is an entry
lived_in : (o : Option Home) → is_lived_in o ≡ true → is_some o ≡ true
lived_in None h = h
lived_in (Some home) h = refl

pub certain_home : (id : List ℕ) (groups : Option (BTreeMap (List ℕ) Home)) → is_certain_in id groups ≡ true → is_noted id groups ≡ true
certain_home id None h = h
certain_home id (Some groups) h = lived_in (get (slice_cmp nat_cmp) groups id) h

-- one more member, whose parked call is in the index for certain
pub affirmed : (first before sure after : ℕ → Bool) (ms : List Member) (i : ℕ) (m : Member) → i < length ms → m ≡ get_or ms i m
    → ((q : ℕ) → first q ≡ true → before q ≡ true) → ((q : ℕ) → sure q ≡ true → after q ≡ true)
    → (is_known before m.waits ≡ true → is_known after m.waits ≡ true)
    → ((k : ℕ) (d : Member) → k < i → is_known first (get_or ms k d).waits ≡ true → is_known sure (get_or ms k d).waits ≡ true)
    → (k : ℕ) (d : Member) → k < i + 1 → is_known first (get_or ms k d).waits ≡ true → is_known after (get_or ms k d).waits ≡ true
affirmed first before sure after ms i m below here kept certain own h k d lt known = choose (cases_lt k i)
  where
    choose : (k < i) ⊎ (i ≤ k) → is_known after (get_or ms k d).waits ≡ true
    choose (inl less) = known_more sure after certain (get_or ms k d).waits (h k d less known)
    choose (inr more) =
        let at : i ≡ k = omega arith in
        let same : m ≡ get_or ms k d = here ∙ get_or_default ms i m d below ∙ ap (λ n. get_or ms n d) at in
        let P : Member → Type 0 = λ x. is_known after x.waits ≡ true in
        let Q : Member → Type 0 = λ x. is_known first x.waits ≡ true in
        subst P same (own (known_more first before kept m.waits (subst Q (sym same) known)))

-- a fact about each element before an index, and about the one at it
pub each_more : {X : Type 0} (P : X → Type 0) (xs : List X) (i : ℕ) (x : X) → i < length xs → x ≡ get_or xs i x → P x → ((k : ℕ) (d : X) → k < i → P (get_or xs k d)) → (k : ℕ) (d : X) → k < i + 1 → P (get_or xs k d)
each_more P xs i x below here own h k d lt = choose (cases_lt k i)
  where
    choose : (k < i) ⊎ (i ≤ k) → P (get_or xs k d)
    choose (inl less) = h k d less
    choose (inr more) = let at : i ≡ k = omega arith in subst P (here ∙ get_or_default xs i x d below ∙ ap (λ n. get_or xs n d) at) own

-- the parked calls of the group are still in the index, if it is loaded
pub settled_any : (before after : ℕ → List ℕ → Bool) (id : List ℕ) → ((q : ℕ) (x : List ℕ) → (x ≡ id → ⊥) → before q x ≡ true → after q x ≡ true) → (gs : List Group) → InOrder gs
    → ((g : Group) → find_group id gs ≡ Some g → Known (λ q. before q id) g → Known (λ q. after q id) g) → AreKnown before gs → AreKnown after gs
settled_any before after id others gs o stays h = go (find_group id gs) refl
  where
    go : (found : Option Group) → find_group id gs ≡ found → AreKnown after gs
    go None e = settled_unheld before after id others gs e h
    go (Some g) e = settled_held before after id others gs g o e (stays g e) h

-- a value that is written at a key adds no key
pub written_adds_none : (id x : List ℕ) (before after first : Option Home) (home : Home) → after ≡ cond (is_at (slice_cmp nat_cmp id) x) (Some home) before → (x ≡ id → before ≡ first) → is_some first ≡ true → is_some after ≡ true → is_some before ≡ true
written_adds_none id x before after first home is same there h =
    (elim (is_same id x) as (λ b. is_same id x ≡ b → is_some before ≡ true) [
      | true ↦ λ e. ap is_some (same (sym (same_names id x e))) ∙ there
      | false ↦ λ e. sym (ap is_some (is ∙ ap (λ b. cond b (Some home) before) (is_eq-slice_cmp id x ∙ e))) ∙ h
    ]) refl

-- an entry that is inserted is the only new one
pub inserted_alone : (id x : List ℕ) (before after : Option Home) (home : Home) → after ≡ cond (is_at (slice_cmp nat_cmp id) x) (Some home) before → is_some after ≡ true → (is_some before ≡ true) ⊎ (x ≡ id)
inserted_alone id x before after home is h =
    (elim (is_same id x) as (λ b. is_same id x ≡ b → (is_some before ≡ true) ⊎ (x ≡ id)) [
      | true ↦ λ e. inr (sym (same_names id x e))
      | false ↦ λ e. inl (sym (ap is_some (is ∙ ap (λ b. cond b (Some home) before) (is_eq-slice_cmp id x ∙ e))) ∙ h)
    ]) refl

-- numbers that compare as equal are equal
same_number : (a b : ℕ) → is_eq (nat_cmp a b) ≡ true → a ≡ b
same_number a b =
    elim (nat_lt a b) as (λ l. is_eq (cond l Less (cond (a == b) Equal Greater)) ≡ true → a ≡ b) [
      | true ↦ λ e. absurd (false≢true e)
      | false ↦
          (elim (a == b) as (λ s. (a == b) ≡ s → is_eq (cond s Equal Greater) ≡ true → a ≡ b) [
            | true ↦ λ s _. eqb-true a b s
            | false ↦ λ _ e. absurd (false≢true e)
          ]) refl
    ]

-- the first group of a session
pub noted_first : (session q : ℕ) (id x : List ℕ) (before after : Option (BTreeMap (List ℕ) Home)) (groups : BTreeMap (List ℕ) Home)
    → after ≡ cond (is_at (nat_cmp session) q) (Some groups) before → get (slice_cmp nat_cmp) groups x ≡ cond (is_at (slice_cmp nat_cmp id) x) (Some Certain) None
    → is_noted x after ≡ true → (is_noted x before ≡ true) ⊎ ((session ≡ q) × (x ≡ id))
noted_first session q id x before after groups is own h =
    (elim (is_at (nat_cmp session) q) as (λ b. is_at (nat_cmp session) q ≡ b → (is_noted x before ≡ true) ⊎ ((session ≡ q) × (x ≡ id))) [
      | true ↦ λ e. here (same_number session q e) (inserted_alone id x None (get (slice_cmp nat_cmp) groups x) Certain own (sym (ap (is_noted x) (is ∙ ap (λ b. cond b (Some groups) before) e)) ∙ h))
      | false ↦ λ e. inl (sym (ap (is_noted x) (is ∙ ap (λ b. cond b (Some groups) before) e)) ∙ h)
    ]) refl
  where
    here : session ≡ q → (false ≡ true) ⊎ (x ≡ id) → (is_noted x before ≡ true) ⊎ ((session ≡ q) × (x ≡ id))
    here s (inl none) = absurd (false≢true none)
    here s (inr own) = inr (s, own)
