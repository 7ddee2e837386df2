-- The session index has no more than the parked calls.
use Rattle.std.proofs.Common.{◌≡◌, ℕ, Bool, true, false, cond, List, [], ◌∷◌, ◌++◌, inl, inr, Option, Some, None, refl, sym, ap, ◌∙◌, subst}
use Rattle.std.specs.Prelude.{◌⊎◌, ◌||◌, ◌==◌, if◌then◌else◌, is_some, option_to_list}
use Rattle.std.proofs.lemmas.Bool.{eqb-true, false≢true}
use Rattle.std.specs.BTreeMap.{BTreeMap, get, is_at}
use Rattle.std.specs.Map.{lookup}
use Rattle.std.specs.Cmp.Lexicographic.{slice_cmp}
use Rattle.std.specs.Ordering.{nat_cmp}
use Rattle.std.proofs.lemmas.Map.Text.{is_eq-slice_cmp}
use Rattle.std.specs.List.{list_any}
use Rattle.cg_group_state.specs.declared.calls.Calls.TheVariants.{Any, OfSession}
use Rattle.cg_group_state.specs.declared.group.Group.{Group}
use Rattle.cg_group_state.specs.declared.member.Member.{Member}
use Rattle.cg_group_state.specs.declared.member.Waits.{Waits}
use Rattle.cg_group_state.specs.declared.member.Waits.TheVariants.{Nothing, Join, Sync}
use Rattle.cg_group_state.specs.Membership.{hearing, has_id, heard, is_same, with_member}
use Rattle.cg_group_state.specs.Waiting.{called, is_waiting}
use Rattle.cg_request.specs.declared.ticket.Ticket.{Ticket}
use Rattle.cg_group_table.specs.declared.session_index.Home.{Home}
use Rattle.cg_group_table.specs.GroupTable.{find_group, with_group, without_group}
use Rattle.cg_group_table.specs.Kept.{Each}
use Rattle.cg_group_table.specs.SessionIndex.{IfParked, IsFilled, IsLetGo, IsSettled, IsTight, StayParked, has_homes, is_certain, is_noted, is_parked, parked_calls}
use Rattle.cg_group_rules.specs.TickDeadline.{gone_touches}
use Rattle.cg_group_table.proofs.Finding.{any_group, find-other, find-own, find-without}
use Rattle.cg_group_table.proofs.InOrder.{found_named}
use Rattle.cg_group_table.proofs.KeptLists.{same_names, same_self}
use Rattle.cg_group_table.proofs.Mapped.{id-hearing}

-- what holds of the sessions of all parked calls holds of the session of one
pub at_call : (P : ℕ → Type 0) (q : ℕ) (w : Waits) → IfParked P (called Any w) → is_some (called (OfSession q) w) ≡ true → P q
at_call P q Nothing h e = absurd (false≢true e)
at_call P q (Join t) h e =
    (elim (t.session == q) as (λ b. (t.session == q) ≡ b → is_some (if b then Some t else None) ≡ true → P q) [
      | true ↦ λ s _. subst P (eqb-true t.session q s) h
      | false ↦ λ _ e. absurd (false≢true e)
    ]) refl e
at_call P q (Sync t) h e =
    (elim (t.session == q) as (λ b. (t.session == q) ≡ b → is_some (if b then Some t else None) ≡ true → P q) [
      | true ↦ λ s _. subst P (eqb-true t.session q s) h
      | false ↦ λ _ e. absurd (false≢true e)
    ]) refl e

pub at_calls : (P : ℕ → Type 0) (q : ℕ) (ms : List Member) → Each (λ (m : Member). IfParked P (called Any m.waits)) ms → list_any (is_waiting (OfSession q)) ms ≡ true → P q
at_calls P q [] h e = absurd (false≢true e)
at_calls P q (m ∷ ms) h e =
    (elim (is_waiting (OfSession q) m) as (λ b. is_waiting (OfSession q) m ≡ b → (b || list_any (is_waiting (OfSession q)) ms) ≡ true → P q) [
      | true ↦ λ w _. at_call P q m.waits h.0 w
      | false ↦ λ _ e. at_calls P q ms h.1 e
    ]) refl e

-- the same, where it holds of the sessions of the calls by themselves
each_call : (P : ℕ → Type 0) (ms : List Member) → Each (λ (t : Ticket). P t.session) (parked_calls ms) → Each (λ (m : Member). IfParked P (called Any m.waits)) ms
each_call P [] h = tt
each_call P (m ∷ ms) h = let both = first (called Any m.waits) h in (both.0, each_call P ms both.1)
  where
    first : (call : Option Ticket) → Each (λ (t : Ticket). P t.session) (option_to_list call ++ parked_calls ms) → IfParked P call × Each (λ (t : Ticket). P t.session) (parked_calls ms)
    first None h = (tt, h)
    first (Some t) h = h

pub at_parked : (P : ℕ → Type 0) (q : ℕ) (ms : List Member) → Each (λ (t : Ticket). P t.session) (parked_calls ms) → list_any (is_waiting (OfSession q)) ms ≡ true → P q
at_parked P q ms h e = at_calls P q ms (each_call P ms h) e

-- what two facts about the session of a parked call give
pub if_both : (P Q R : ℕ → Type 0) → ((q : ℕ) → P q → Q q → R q) → (call : Option Ticket) → IfParked P call → IfParked Q call → IfParked R call
if_both P Q R both None p q = tt
if_both P Q R both (Some t) p q = both t.session p q

pub if_more : (P R : ℕ → Type 0) → ((q : ℕ) → P q → R q) → (call : Option Ticket) → IfParked P call → IfParked R call
if_more P R more None p = tt
if_more P R more (Some t) p = more t.session p

-- after an update of the index: doubted sessions keep the group only if a call of them is parked in it
pub let_go : (doubted sure final : BTreeMap ℕ (BTreeMap (List ℕ) Home)) (groups : List Group) (id : List ℕ)
    → ((q : ℕ) → is_certain final q id ≡ true → is_certain sure q id ≡ true)
    → ((q : ℕ) → is_certain sure q id ≡ true → (is_certain doubted q id ≡ true) ⊎ (is_parked q (find_group id groups) ≡ true))
    → (q : ℕ) → is_certain doubted q id ≡ false → IsSettled final q id → IsLetGo final groups id q
let_go doubted sure final groups id stays waits q doubtful settled here = choose (waits q (stays q (settled.0 here)))
  where
    choose : (is_certain doubted q id ≡ true) ⊎ (is_parked q (find_group id groups) ≡ true) → is_parked q (find_group id groups) ≡ true
    choose (inl before) = absurd (false≢true (sym doubtful ∙ before))
    choose (inr waits) = waits

-- the index after a group took the place of the one with its id
pub tight_put : (g : Group) (gs : List Group) (before after : ℕ → List ℕ → Bool) (noted : ℕ → Type 0)
    → ((q : ℕ) (x : List ℕ) → before q x ≡ true → is_parked q (find_group x gs) ≡ true)
    → ((q : ℕ) (x : List ℕ) → after q x ≡ true → (before q x ≡ true) ⊎ (noted q × (x ≡ g.id)))
    → ((q : ℕ) → after q g.id ≡ true → (is_parked q (find_group g.id gs) ≡ true) ⊎ noted q → is_parked q (find_group g.id (with_group g gs)) ≡ true)
    → (q : ℕ) (x : List ℕ) → after q x ≡ true → is_parked q (find_group x (with_group g gs)) ≡ true
tight_put g gs before after noted tight fewer gone q x here =
    (elim (is_same g.id x) as (λ b. is_same g.id x ≡ b → is_parked q (find_group x (with_group g gs)) ≡ true) [
      | true ↦ λ s.
          let own : g.id ≡ x = same_names g.id x s in
          let A : List ℕ → Type 0 = λ i. after q i ≡ true in
          let B : List ℕ → Type 0 = λ i. is_parked q (find_group i gs) ≡ true in
          let R : List ℕ → Type 0 = λ i. is_parked q (find_group i (with_group g gs)) ≡ true in
          subst R own (gone q (subst A (sym own) here) (elim (fewer q x here) as (λ _. (is_parked q (find_group g.id gs) ≡ true) ⊎ noted q) [
            | inl b ↦ inl (subst B (sym own) (tight q x b))
            | inr n ↦ inr n.0
          ]))
      | false ↦ λ d.
          elim (fewer q x here) as (λ _. is_parked q (find_group x (with_group g gs)) ≡ true) [
            | inl b ↦ ap (is_parked q) (find-other x g gs d) ∙ tight q x b
            | inr n ↦ absurd (false≢true (sym d ∙ ap (is_same g.id) n.1 ∙ same_self g.id))
          ]
    ]) refl

-- a session that the index has has a parked call
pub has_parked : (homes : BTreeMap ℕ (BTreeMap (List ℕ) Home)) (groups : List Group) (session : ℕ) → IsTight homes groups → has_homes homes session ≡ true → list_any (gone_touches session) groups ≡ true
has_parked homes groups session tight known = go (get nat_cmp homes session) refl known (tight.1 session)
  where
    named : (id : List ℕ) (found : Option Group) → find_group id groups ≡ found → is_parked session found ≡ true → list_any (gone_touches session) groups ≡ true
    named id None e h = absurd (false≢true h)
    named id (Some g) e h = any_group (gone_touches session) id groups g e h

    at_first : (ids : BTreeMap (List ℕ) Home) (es : List (List ℕ × Home)) → get nat_cmp homes session ≡ Some ids → ids.entries ≡ es → IsFilled (Some ids) → list_any (gone_touches session) groups ≡ true
    at_first ids [] at e filled = absurd (filled e)
    at_first ids (x ∷ es) at e filled =
        let here : is_some (lookup (is_at (slice_cmp nat_cmp x.0)) (x ∷ es)) ≡ true = ap (λ b. is_some (cond b (Some x.1) (lookup (is_at (slice_cmp nat_cmp x.0)) es))) (is_eq-slice_cmp x.0 x.0 ∙ same_self x.0) in
        let noted : is_noted x.0 (Some ids) ≡ true = ap (λ l. is_some (lookup (is_at (slice_cmp nat_cmp x.0)) l)) e ∙ here in
        named x.0 (find_group x.0 groups) refl (tight.0 session x.0 (ap (is_noted x.0) at ∙ noted))

    go : (o : Option (BTreeMap (List ℕ) Home)) → get nat_cmp homes session ≡ o → is_some o ≡ true → IsFilled o → list_any (gone_touches session) groups ≡ true
    go None at known filled = absurd (false≢true known)
    go (Some ids) at known filled = at_first ids ids.entries at refl filled

-- the index of groups in which all parked calls stay
pub tight_stay : (homes : BTreeMap ℕ (BTreeMap (List ℕ) Home)) (groups others : List Group) → StayParked groups others → IsTight homes groups → IsTight homes others
tight_stay homes groups others stay h = (λ q x here. stay q x (h.0 q x here), h.1)

-- a member that is heard waits as before
waits-with_member : (q : ℕ) (now : ℕ) (id : List ℕ) (ms : List Member) → list_any (is_waiting (OfSession q)) (with_member id (heard now) ms) ≡ list_any (is_waiting (OfSession q)) ms
unfolding with_member
waits-with_member q now id [] = refl
waits-with_member q now id (m ∷ ms) =
    elim (has_id id m) as (λ b. list_any (is_waiting (OfSession q)) (if b then heard now m ∷ ms else m ∷ with_member id (heard now) ms) ≡ list_any (is_waiting (OfSession q)) (m ∷ ms)) [
      | true ↦ refl
      | false ↦ ap (λ b. is_waiting (OfSession q) m || b) (waits-with_member q now id ms)
    ]

pub parked-hearing : (q now : ℕ) (id : List ℕ) (g : Group) → is_parked q (Some (hearing now id g)) ≡ is_parked q (Some g)
unfolding hearing
parked-hearing q now id g = waits-with_member q now id g.members

-- all calls stay parked where a group takes the place of one with the same parked calls
pub stay_put : (x : List ℕ) (g new : Group) (groups : List Group) → find_group x groups ≡ Some g → new.id ≡ g.id → ((q : ℕ) → is_parked q (Some g) ≡ true → is_parked q (Some new) ≡ true) → StayParked groups (with_group new groups)
stay_put x g new groups found same stays q y parked =
    let own : new.id ≡ x = same ∙ found_named x groups g found in
    (elim (is_same new.id y) as (λ b. is_same new.id y ≡ b → is_parked q (find_group y (with_group new groups)) ≡ true) [
      | true ↦ λ s.
          let at : new.id ≡ y = same_names new.id y s in
          let here : find_group y groups ≡ Some g = ap (λ i. find_group i groups) (sym at ∙ own) ∙ found in
          ap (λ i. is_parked q (find_group i (with_group new groups))) (sym at)
          ∙ ap (is_parked q) (find-own new groups)
          ∙ stays q (sym (ap (is_parked q) here) ∙ parked)
      | false ↦ λ d. ap (is_parked q) (find-other y new groups d) ∙ parked
    ]) refl

pub stay_heard : (now : ℕ) (id own : List ℕ) (groups after : List Group) (g : Group) → find_group own groups ≡ Some g → after ≡ with_group (hearing now id g) groups → StayParked groups after
stay_heard now id own groups after g found put =
    let P : List Group → Type 0 = λ gs. StayParked groups gs in
    subst P (sym put) (stay_put own g (hearing now id g) groups found (id-hearing now id g) (λ q h. parked-hearing q now id g ∙ h))

-- all calls stay parked where a group is new
pub stay_added : (g : Group) (groups : List Group) → find_group g.id groups ≡ None → StayParked groups (with_group g groups)
stay_added g groups none q y parked =
    (elim (is_same g.id y) as (λ b. is_same g.id y ≡ b → is_parked q (find_group y (with_group g groups)) ≡ true) [
      | true ↦ λ s. absurd (false≢true (sym (ap (is_parked q) (ap (λ i. find_group i groups) (sym (same_names g.id y s)) ∙ none)) ∙ parked))
      | false ↦ λ d. ap (is_parked q) (find-other y g groups d) ∙ parked
    ]) refl

-- all calls stay parked where a group without parked calls is removed
pub stay_removed : (id : List ℕ) (groups : List Group) → ((q : ℕ) → is_parked q (find_group id groups) ≡ false) → StayParked groups (without_group id groups)
stay_removed id groups idle q y parked =
    (elim (is_same id y) as (λ b. is_same id y ≡ b → is_parked q (find_group y (without_group id groups)) ≡ true) [
      | true ↦ λ s. absurd (false≢true (sym (ap (λ i. is_parked q (find_group i groups)) (sym (same_names id y s)) ∙ idle q) ∙ parked))
      | false ↦ λ d. ap (is_parked q) (find-without id y groups d) ∙ parked
    ]) refl

-- an empty index
pub tight_empty : (homes : BTreeMap ℕ (BTreeMap (List ℕ) Home)) (groups : List Group) → homes.entries ≡ [] → IsTight homes groups
tight_empty homes groups empty = (
  λ q x here. absurd (false≢true (sym (ap (is_noted x) (none q)) ∙ here)),
  λ q. let P : Option (BTreeMap (List ℕ) Home) → Type 0 = λ o. IsFilled o in subst P (sym (none q)) tt,
)
  where
    none : (q : ℕ) → get nat_cmp homes q ≡ None
    none q = ap (lookup (is_at (nat_cmp q))) empty

-- all calls stay parked where a group is put in its own place
pub stay_same : (own : List ℕ) (groups after : List Group) (g new : Group) → find_group own groups ≡ Some g → new.id ≡ g.id → ((q : ℕ) → is_parked q (Some g) ≡ true → is_parked q (Some new) ≡ true) → after ≡ with_group new groups → StayParked groups after
stay_same own groups after g new found same stays put = let P : List Group → Type 0 = λ gs. StayParked groups gs in subst P (sym put) (stay_put own g new groups found same stays)
