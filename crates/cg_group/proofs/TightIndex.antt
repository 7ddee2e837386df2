-- The session index after an event has no more than the parked calls.
use Rattle.std.proofs.Common.{◌≡◌, ℕ, Bool, true, false, cond, List, [], ◌∷◌, inl, inr, Option, Some, None, Result, Ok, Err, refl, sym, ap, ◌∙◌, subst}
use Rattle.std.specs.Prelude.{◌⊎◌, ◌||◌, ◌==◌, if◌then◌else◌, is_some}
use Rattle.std.specs.List.{list_any}
use Rattle.std.proofs.lemmas.Bool.{eqb-false, eqb-true, false≢true, or_left, or_right}
use Rattle.std.specs.BTreeMap.{BTreeMap, get}
use Rattle.std.specs.Ordering.{nat_cmp}
use Rattle.cg_names.specs.declared.code.Code.{Code}
use Rattle.cg_group_state.specs.declared.calls.Calls.TheVariants.{OfSession}
use Rattle.cg_group_state.specs.declared.group.Group.{Group}
use Rattle.cg_group_state.specs.declared.member.Member.{Member}
use Rattle.cg_group_state.specs.declared.member.Waits.{Waits}
use Rattle.cg_group_state.specs.declared.member.Waits.TheVariants.{Nothing, Join, Sync}
use Rattle.cg_group_state.specs.declared.turn.Turn.{Turn}
use Rattle.cg_group_rules.specs.Leave.{gone_in}
use Rattle.cg_group_state.specs.Membership.{is_same}
use Rattle.cg_group_state.specs.Waiting.{after_answer, after_answers, answered, called, is_waiting}
use Rattle.cg_group.specs.InPlace.{group_of, groups_of, replaced_by}
use Rattle.cg_group_table.specs.declared.session_index.Home.{Home}
use Rattle.cg_group_table.specs.GroupTable.{find_group, groups_after, with_group}
use Rattle.cg_group_table.specs.SessionIndex.{IsFilled, IsLetGo, IsTight, is_home, is_noted, is_parked}
use Rattle.cg_group_table.proofs.InOrder.{found_named}
use Rattle.cg_group_table.proofs.Tight.{at_call, tight_put}

-- an index that got one session with a group got it with the group of this id
pub noted_named : (homes0 homes1 : BTreeMap ℕ (BTreeMap (List ℕ) Home)) (session : ℕ) (id own : List ℕ) → id ≡ own
    → ((q : ℕ) (x : List ℕ) → is_home homes1 q x ≡ true → (is_home homes0 q x ≡ true) ⊎ ((session ≡ q) × (x ≡ id)))
    → (q : ℕ) (x : List ℕ) → is_home homes1 q x ≡ true → (is_home homes0 q x ≡ true) ⊎ ((session ≡ q) × (Some own ≡ Some x))
noted_named homes0 homes1 session id own named fewer q x here =
    elim (fewer q x here) as (λ _. (is_home homes0 q x ≡ true) ⊎ ((session ≡ q) × (Some own ≡ Some x))) [
      | inl before ↦ inl before
      | inr n ↦ inr (n.0, ap Some (sym named ∙ sym n.1))
    ]

module _ (homes0 homes1 final : BTreeMap ℕ (BTreeMap (List ℕ) Home)) (held0 held1 : List Group)
    (fewer : (q : ℕ) (x : List ℕ) → is_home final q x ≡ true → is_home homes1 q x ≡ true)
    (filled : (q : ℕ) → IsFilled (get nat_cmp homes1 q) → IsFilled (get nat_cmp final q)) where
  module _ (own : Option (List ℕ)) (session : ℕ)
      (noted : (q : ℕ) (x : List ℕ) → is_home homes1 q x ≡ true → (is_home homes0 q x ≡ true) ⊎ ((session ≡ q) × (own ≡ Some x)))
      (also_filled : (q : ℕ) → IsFilled (get nat_cmp homes0 q) → IsFilled (get nat_cmp homes1 q))
      (asked : (x : List ℕ) → own ≡ Some x → IsLetGo final held1 x session)
      (tight : IsTight homes0 held0) where
    asked_of : (q : ℕ) (x : List ℕ) → session ≡ q → own ≡ Some x → IsLetGo final held1 x q
    asked_of q x s named = let P : ℕ → Type 0 = λ r. IsLetGo final held1 x r in subst P s (asked x named)

    -- a request that changed nothing
    pub tight_unchanged : held1 ≡ held0 → IsTight final held1
    tight_unchanged same = (
      λ q x here. elim (noted q x (fewer q x here)) as (λ _. is_parked q (find_group x held1) ≡ true) [
        | inl before ↦ ap (λ gs. is_parked q (find_group x gs)) same ∙ tight.0 q x before
        | inr n ↦ asked_of q x n.0 n.1 here
      ],
      λ q. filled q (also_filled q (tight.1 q)),
    )

    -- a step whose call may be parked
    tight_step : (replaced : Option Group) → ((q : ℕ) (x : List ℕ) → own ≡ Some x → is_parked q replaced ≡ true → IsLetGo final held1 x q) → (t : Turn) → own ≡ Some t.group.id → held1 ≡ with_group t.group held0 → replaced ≡ find_group t.group.id held0 → IsTight final held1
    tight_step replaced gone t named put was = (
      λ q x here.
          ap (λ gs. is_parked q (find_group x gs)) put
          ∙ tight_put t.group held0 (is_home homes0) (is_home final) (λ q. session ≡ q) tight.0
          (λ q x h. elim (noted q x (fewer q x h)) as (λ _. (is_home homes0 q x ≡ true) ⊎ ((session ≡ q) × (x ≡ t.group.id))) [
            | inl before ↦ inl before
            | inr n ↦ let same : Some x ≡ Some t.group.id = sym n.1 ∙ named in inr (n.0, (cc))
          ])
          (λ q h w. ap (λ gs. is_parked q (find_group t.group.id gs)) (sym put) ∙ (elim w as (λ _. is_parked q (find_group t.group.id held1) ≡ true) [
            | inl p ↦ gone q t.group.id named (ap (is_parked q) was ∙ p) h
            | inr s ↦ asked_of q t.group.id s named h
          ]))
          q x here,
      λ q. filled q (also_filled q (tight.1 q)),
    )

    pub tight_parked : (replaced : Option Group) → ((q : ℕ) (x : List ℕ) → own ≡ Some x → is_parked q replaced ≡ true → IsLetGo final held1 x q) → (o : Result Turn Code) → own ≡ group_of o → held1 ≡ groups_of o held0 → replaced ≡ replaced_by o held0 → IsTight final held1
    tight_parked replaced gone (Err code) named put was = tight_unchanged put
    tight_parked replaced gone (Ok t) named put was = tight_step replaced gone t named put was

-- a step that parks no call
module _ (homes final : BTreeMap ℕ (BTreeMap (List ℕ) Home)) (held0 held1 : List Group)
    (fewer : (q : ℕ) (x : List ℕ) → is_home final q x ≡ true → is_home homes q x ≡ true)
    (filled : (q : ℕ) → IsFilled (get nat_cmp homes q) → IsFilled (get nat_cmp final q))
    (tight : IsTight homes held0) where
  pub tight_left : (o : Result Turn Code) (replaced : Option Group) → held1 ≡ groups_of o held0 → replaced ≡ replaced_by o held0
      → ((g : Group) → replaced ≡ Some g → (q : ℕ) → is_parked q (Some g) ≡ true → IsLetGo final held1 g.id q) → IsTight final held1
  tight_left (Err code) replaced put was gone = (λ q x here. ap (λ gs. is_parked q (find_group x gs)) put ∙ tight.0 q x (fewer q x here), λ q. filled q (tight.1 q))
  tight_left (Ok t) replaced put was gone = (
    λ q x here.
        ap (λ gs. is_parked q (find_group x gs)) put
        ∙ tight_put t.group held0 (is_home homes) (is_home final) (λ q. ⊥) tight.0 (λ q x h. inl (fewer q x h))
        (λ q h w. elim w as (λ _. is_parked q (find_group t.group.id (with_group t.group held0)) ≡ true) [
          | inl p ↦ ap (λ gs. is_parked q (find_group t.group.id gs)) (sym put) ∙ there q h (find_group t.group.id held0) refl p
          | inr e ↦ absurd e
        ])
        q x here,
    λ q. filled q (tight.1 q),
  )
    where
      there : (q : ℕ) → is_home final q t.group.id ≡ true → (o : Option Group) → find_group t.group.id held0 ≡ o → is_parked q o ≡ true → is_parked q (find_group t.group.id held1) ≡ true
      there q h None e p = absurd (false≢true p)
      there q h (Some g) e p =
          let own : g.id ≡ t.group.id = found_named t.group.id held0 g e in
          let A : List ℕ → Type 0 = λ i. is_home final q i ≡ true in
          let B : List ℕ → Type 0 = λ i. is_parked q (find_group i held1) ≡ true in
          subst B own (gone g (was ∙ e) q p (subst A (sym own) h))

-- the end of a session
module _ (now session : ℕ) where
  -- the calls of other sessions stay parked
  module _ (q : ℕ) (apart : Some session ≡ Some q → ⊥) where
    stays_one : (m : Member) (w : Waits) → is_some (called (OfSession q) w) ≡ true
        → is_some (called (OfSession q) (if is_some (called (OfSession session) w) then answered now m else record m { waits = w }).waits) ≡ true
    stays_one m Nothing h = h
    stays_one m (Join t) h =
        (elim (t.session == session) as (λ b. (t.session == session) ≡ b → is_some (called (OfSession q) (if is_some (if b then Some t else None) then answered now m else record m { waits = Join t }).waits) ≡ true) [
          | true ↦ λ e. absurd (apart (ap Some (sym (eqb-true t.session session e) ∙ at_call (λ r. t.session ≡ r) q (Join t) refl h)))
          | false ↦ λ e. h
        ]) refl
    stays_one m (Sync t) h =
        (elim (t.session == session) as (λ b. (t.session == session) ≡ b → is_some (called (OfSession q) (if is_some (if b then Some t else None) then answered now m else record m { waits = Sync t }).waits) ≡ true) [
          | true ↦ λ e. absurd (apart (ap Some (sym (eqb-true t.session session e) ∙ at_call (λ r. t.session ≡ r) q (Sync t) refl h)))
          | false ↦ λ e. h
        ]) refl

    stays_among : (ms : List Member) → list_any (is_waiting (OfSession q)) ms ≡ true → list_any (is_waiting (OfSession q)) (after_answers (OfSession session) now ms) ≡ true
    unfolding after_answers
    stays_among [] h = h
    stays_among (m ∷ ms) h =
        (elim (is_waiting (OfSession q) m) as (λ b. is_waiting (OfSession q) m ≡ b → (b || list_any (is_waiting (OfSession q)) ms) ≡ true → list_any (is_waiting (OfSession q)) (after_answers (OfSession session) now (m ∷ ms)) ≡ true) [
          | true ↦ λ w _. or_left (is_waiting (OfSession q) (after_answer (OfSession session) now m)) (list_any (is_waiting (OfSession q)) (after_answers (OfSession session) now ms)) (stays_one m m.waits w)
          | false ↦ λ _ more. or_right (is_waiting (OfSession q) (after_answer (OfSession session) now m)) (list_any (is_waiting (OfSession q)) (after_answers (OfSession session) now ms)) (stays_among ms more)
        ]) refl h

    stays_there : (x : List ℕ) (gs : List Group) → is_parked q (find_group x gs) ≡ true → is_parked q (find_group x (groups_after (gone_in now session) gs)) ≡ true
    unfolding find_group gone_in
    stays_there x [] h = h
    stays_there x (g ∷ gs) h =
        (elim (is_same g.id x) as (λ b. is_parked q (cond b (Some g) (find_group x gs)) ≡ true → is_parked q (cond b (Some ((gone_in now session g).group)) (find_group x (groups_after (gone_in now session) gs))) ≡ true) [
          | true ↦ λ p. stays_among g.members p
          | false ↦ λ p. stays_there x gs p
        ]) h

  pub tight_closed : (homes final : BTreeMap ℕ (BTreeMap (List ℕ) Home)) (groups : List Group) → get nat_cmp final session ≡ None
      → ((q : ℕ) → (Some session ≡ Some q → ⊥) → get nat_cmp final q ≡ get nat_cmp homes q) → IsTight homes groups → IsTight final (groups_after (gone_in now session) groups)
  tight_closed homes final groups gone apart tight = (λ q x. parked q x (session == q) refl, λ q. filled q (session == q) refl)
    where
      none : (q : ℕ) → (session == q) ≡ true → get nat_cmp final q ≡ None
      none q e = ap (get nat_cmp final) (sym (eqb-true session q e)) ∙ gone

      other : (q : ℕ) → (session == q) ≡ false → Some session ≡ Some q → ⊥
      other q e same = eqb-false session q e (cc)

      parked : (q : ℕ) (x : List ℕ) (b : Bool) → (session == q) ≡ b → is_home final q x ≡ true → is_parked q (find_group x (groups_after (gone_in now session) groups)) ≡ true
      parked q x true e here = absurd (false≢true (sym (ap (is_noted x) (none q e)) ∙ here))
      parked q x false e here = stays_there q (other q e) x groups (tight.0 q x (sym (ap (is_noted x) (apart q (other q e))) ∙ here))

      filled : (q : ℕ) (b : Bool) → (session == q) ≡ b → IsFilled (get nat_cmp final q)
      filled q true e = let P : Option (BTreeMap (List ℕ) Home) → Type 0 = λ o. IsFilled o in subst P (sym (none q e)) tt
      filled q false e = let P : Option (BTreeMap (List ℕ) Home) → Type 0 = λ o. IsFilled o in subst P (sym (apart q (other q e))) (tight.1 q)
