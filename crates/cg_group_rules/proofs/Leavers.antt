-- A member leaves while a rebalance waits for others: it alone goes, and the rebalance goes on.
use Rattle.std.proofs.Common.{◌≡◌, ℕ, Bool, true, false, cond, not, ◌&&◌, ◌||◌, List, [], ◌∷◌, find, filter, inl, inr, Option, Some, None, Ok, Err, ok_or, refl, sym, ap, ◌∙◌, subst}
use Rattle.std.specs.Prelude.{◌⊎◌, if◌then◌else◌}
use Rattle.std.specs.List.{list_all, list_any}
use Rattle.std.proofs.lemmas.Bool.{and_parts, false≢true, not-true, or_left, or_parts, or_right}
use Rattle.std.proofs.lemmas.Cmp.{nat_list_eq_equiv}
use Rattle.cg_names.specs.declared.code.Code.{Code}
use Rattle.cg_names.specs.declared.code.Code.TheVariants.{FencedInstanceId, UnknownMemberId}
use Rattle.cg_group_state.specs.declared.calls.Calls.TheVariants.{Joins}
use Rattle.cg_group_state.specs.declared.group.Group.{Group}
use Rattle.cg_group_state.specs.declared.group.Phase.{Phase}
use Rattle.cg_group_state.specs.declared.group.Phase.TheVariants.{Empty, Preparing, Completing, Stable}
use Rattle.cg_group_state.specs.declared.member.Member.{Member}
use Rattle.cg_group_state.specs.declared.turn.Turn.{Turn}
use Rattle.cg_request.specs.declared.request_fields.LeaveRequest.{LeaveRequest}
use Rattle.cg_request.specs.declared.ticket.Ticket.{Ticket}
use Rattle.cg_request.specs.Names.{are_distinct}
use Rattle.cg_group_rules.specs.Leave.{after_removal, has_joined, leave_held, leave_taken, leaver, left, may_be}
use Rattle.cg_group_state.specs.Members.{ids}
use Rattle.cg_group_state.specs.Membership.{find_instance, find_member, has_id, has_instance, is_preparing, is_same, keeping}
use Rattle.cg_group_rules.specs.Rebalance.{complete_join, is_ready, prepare_rebalance, try_complete_join}
use Rattle.cg_group_state.specs.Checks.{◌>>=◌, refused_if}
use Rattle.cg_group_state.specs.Waiting.{is_waiting}
use Rattle.cg_group_rules.specs.LeaveSteps.{IsLeaver}
use Rattle.cg_group_rules.proofs.Lagging.{lags, lags-not_all}

-- an id that no member has is not that of a member who was found
found_id : (p : Member → Bool) (ms : List Member) (m : Member) (i : List ℕ) → find p ms ≡ Some m → list_any (is_same i) (ids ms) ≡ false → is_same i m.id ≡ false
found_id p [] m i e none = cc
found_id p (x ∷ xs) m i e none =
    let parts = or_parts (is_same i x.id) (list_any (is_same i) (ids xs)) none in
    elim (p x) as (λ b. cond b (Some x) (find p xs) ≡ Some m → is_same i m.id ≡ false) [
      | true ↦ λ e. let same : x ≡ m = cc in ap (λ (y : Member). is_same i y.id) (sym same) ∙ parts.0
      | false ↦ λ e. found_id p xs m i e parts.1
    ] e

none_removed : (i : List ℕ) (ms : List Member) → list_any (is_same i) (ids ms) ≡ false → filter (λ x. not (has_id i x)) ms ≡ ms
none_removed i [] none = refl
none_removed i (x ∷ xs) none =
    let parts = or_parts (is_same i x.id) (list_any (is_same i) (ids xs)) none in
    ap (λ b. cond (not b) (x ∷ filter (λ y. not (has_id i y)) xs) (filter (λ y. not (has_id i y)) xs)) (nat_list_eq_equiv.symm x.id i ∙ parts.0) ∙ ap (λ ys. x ∷ ys) (none_removed i xs parts.1)

-- where a member was found, and its id is removed: a test that some member passed is passed by one of the others, or by it
others_after : (w p : Member → Bool) (ms : List Member) (m : Member) → are_distinct (ids ms) ≡ true → find p ms ≡ Some m → list_any w ms ≡ true → (list_any w (filter (λ x. not (has_id m.id x)) ms) ≡ true) ⊎ (w m ≡ true)
unfolding are_distinct
others_after w p [] m d e h = cc
others_after w p (x ∷ xs) m d e h =
    let parts = and_parts (not (list_any (is_same x.id) (ids xs))) (are_distinct (ids xs)) d in
    let apart : list_any (is_same x.id) (ids xs) ≡ false = not-true (list_any (is_same x.id) (ids xs)) parts.0 in
    let kept : Member → List Member = λ y. filter (λ z. not (has_id y.id z)) xs in
    elim (p x) as (λ b. cond b (Some x) (find p xs) ≡ Some m → (list_any w (filter (λ z. not (has_id m.id z)) (x ∷ xs)) ≡ true) ⊎ (w m ≡ true)) [
      | true ↦ λ e.
          let same : x ≡ m = cc in
          let P : Member → Type 0 = λ y. (list_any w (filter (λ z. not (has_id y.id z)) (x ∷ xs)) ≡ true) ⊎ (w y ≡ true) in
          let rest : filter (λ z. not (has_id x.id z)) (x ∷ xs) ≡ xs = ap (λ b. cond (not b) (x ∷ kept x) (kept x)) (nat_list_eq_equiv.refl x.id) ∙ none_removed x.id xs apart in
          subst P same ((elim (w x) as (λ b. w x ≡ b → (b || list_any w xs) ≡ true → P x) [
            | true ↦ λ t _. inr t
            | false ↦ λ t k. inl (ap (list_any w) rest ∙ k)
          ]) refl h)
      | false ↦ λ e.
          let other : is_same x.id m.id ≡ false = found_id p xs m x.id e apart in
          let stays : filter (λ z. not (has_id m.id z)) (x ∷ xs) ≡ x ∷ kept m = ap (λ b. cond (not b) (x ∷ kept m) (kept m)) other in
          (elim (w x) as (λ b. w x ≡ b → (b || list_any w xs) ≡ true → (list_any w (filter (λ z. not (has_id m.id z)) (x ∷ xs)) ≡ true) ⊎ (w m ≡ true)) [
            | true ↦ λ t _. inl (ap (list_any w) stays ∙ or_left (w x) (list_any w (kept m)) t)
            | false ↦ λ t k.
                elim (others_after w p xs m parts.1 e k) as (λ _. (list_any w (filter (λ z. not (has_id m.id z)) (x ∷ xs)) ≡ true) ⊎ (w m ≡ true)) [
                  | inl a ↦ inl (ap (list_any w) stays ∙ or_right (w x) (list_any w (kept m)) a)
                  | inr b ↦ inr b
                ]
          ]) refl h
    ] e

-- a member that is found by a test is found by its id
found_own : (p : Member → Bool) (ms : List Member) (m : Member) → are_distinct (ids ms) ≡ true → find p ms ≡ Some m → find (has_id m.id) ms ≡ Some m
unfolding are_distinct
found_own p [] m d e = cc
found_own p (x ∷ xs) m d e =
    let parts = and_parts (not (list_any (is_same x.id) (ids xs))) (are_distinct (ids xs)) d in
    let apart : list_any (is_same x.id) (ids xs) ≡ false = not-true (list_any (is_same x.id) (ids xs)) parts.0 in
    elim (p x) as (λ b. cond b (Some x) (find p xs) ≡ Some m → find (has_id m.id) (x ∷ xs) ≡ Some m) [
      | true ↦ λ e.
          let same : x ≡ m = cc in
          let P : Member → Type 0 = λ y. find (has_id y.id) (x ∷ xs) ≡ Some y in
          subst P same (ap (λ b. cond b (Some x) (find (has_id x.id) xs)) (nat_list_eq_equiv.refl x.id))
      | false ↦ λ e. ap (λ b. cond b (Some x) (find (has_id m.id) xs)) (found_id p xs m x.id e apart) ∙ found_own p xs m parts.1 e
    ] e

-- the member that leaves was found by a test
module _ (ms : List Member) (m : Member) where
  by_id : (id : List ℕ) (o : Option Member) → find_member id ms ≡ o → ok_or o UnknownMemberId ≡ Ok m → (p : Member → Bool) × (find p ms ≡ Some m)
  unfolding find_member
  by_id id None found e = cc
  by_id id (Some x) found e = let same : Some x ≡ Some m = cc in (has_id id, found ∙ same)

  by_instance : (i : List ℕ) (member : Option (List ℕ)) (o : Option Member) → find_instance (Some i) ms ≡ o → (ok_or o UnknownMemberId >>= λ x. refused_if (not (may_be member x.id)) FencedInstanceId >>= λ _. Ok x) ≡ Ok m
      → (p : Member → Bool) × (find p ms ≡ Some m)
  unfolding find_instance
  by_instance i member None found e = cc
  by_instance i member (Some x) found e =
      (elim (may_be member x.id) as (λ b. (refused_if (not b) FencedInstanceId >>= λ _. Ok x) ≡ Ok m → (p : Member → Bool) × (find p ms ≡ Some m)) [
        | true ↦ λ e. let same : Some x ≡ Some m = cc in (has_instance (Some i), found ∙ same)
        | false ↦ λ e. cc
      ]) e

  found_by : (instance member : Option (List ℕ)) → leaver instance member ms ≡ Ok m → (p : Member → Bool) × (find p ms ≡ Some m)
  unfolding leaver
  found_by None None e = cc
  found_by None (Some id) e = by_id id (find_member id ms) refl e
  found_by (Some i) member e = by_instance i member (find_instance (Some i) ms) refl e

  pub others_left : (w : Member → Bool) → are_distinct (ids ms) ≡ true → list_any w ms ≡ true → (instance member : Option (List ℕ)) → leaver instance member ms ≡ Ok m
      → (list_any w (filter (λ x. not (has_id m.id x)) ms) ≡ true) ⊎ (w m ≡ true)
  others_left w d h instance member e = let by = found_by instance member e in others_after w by.0 ms m d by.1 h

  pub leaver_found : are_distinct (ids ms) ≡ true → (instance member : Option (List ℕ)) → leaver instance member ms ≡ Ok m → find_member m.id ms ≡ Some m
  unfolding find_member
  leaver_found d instance member e = let by = found_by instance member e in found_own by.0 ms m d by.1

-- a LEAVE that is not refused
module _ (r : LeaveRequest) (g : Group) where
  pub leaves_by : (m : Member) → are_distinct (ids g.members) ≡ true → leaver r.instance r.member g.members ≡ Ok m → IsLeaver r g m
  unfolding leave_held
  leaves_by m d e = record {
    found = leaver_found g.members m d r.instance r.member e;
    taken = λ now ticket. ap (λ o. o >>= λ m. Ok (leave_taken now m.id ticket m g)) e;
  }

  pub leave_refused : (code : Code) → leaver r.instance r.member g.members ≡ Err code → (now : ℕ) (ticket : Ticket) → leave_held now r ticket g ≡ Err code
  unfolding leave_held
  leave_refused code e now ticket = ap (λ o. o >>= λ m. Ok (leave_taken now m.id ticket m g)) e

-- those who have not joined yet are still there without the one that leaves
lags-removed : (id : List ℕ) (ms : List Member) → list_any (lags id) ms ≡ true → list_any (lags id) (filter (λ x. not (has_id id x)) ms) ≡ true
lags-removed id [] h = h
lags-removed id (m ∷ ms) h =
    let kept : List Member = filter (λ x. not (has_id id x)) ms in
    (elim (has_id id m) as (λ b. ((not b && not (is_waiting Joins m)) || list_any (lags id) ms) ≡ true → has_id id m ≡ b → list_any (lags id) (cond (not b) (m ∷ kept) kept) ≡ true) [
      | true ↦ λ h _. lags-removed id ms h
      | false ↦ λ h e.
          (elim (is_waiting Joins m) as (λ b. (not b || list_any (lags id) ms) ≡ true → is_waiting Joins m ≡ b → list_any (lags id) (m ∷ kept) ≡ true) [
            | true ↦ λ h _. or_right (lags id m) (list_any (lags id) kept) (lags-removed id ms h)
            | false ↦ λ _ f. or_left (lags id m) (list_any (lags id) kept) (ap (λ b. not b && not (is_waiting Joins m)) e ∙ ap not f)
          ]) h refl
    ]) h refl

pub leave_left : (now : ℕ) (id : List ℕ) (ticket : Ticket) (m : Member) (g : Group) → is_preparing g.phase ≡ true → list_any (lags id) g.members ≡ true → leave_taken now id ticket m g ≡ left id ticket m g
unfolding leave_taken after_removal left try_complete_join is_ready keeping
leave_left now id ticket m g preparing behind = go g.phase refl preparing
  where
    t : Turn
    t = left id ticket m g

    still : list_all (is_waiting Joins) (filter (λ x. not (has_id id x)) g.members) ≡ false
    still = lags-not_all id (filter (λ x. not (has_id id x)) g.members) (lags-removed id g.members behind)

    go : (p : Phase) → g.phase ≡ p → is_preparing p ≡ true → try_complete_join now (if has_joined g.phase then prepare_rebalance now t else t) ≡ t
    go Preparing e h =
        ap (λ p. try_complete_join now (if has_joined p then prepare_rebalance now t else t)) e
        ∙ ap (λ b. if is_preparing g.phase && b then complete_join now t else t) still
        ∙ ap (λ p. if is_preparing p && false then complete_join now t else t) e
    go Empty e h = absurd (false≢true h)
    go Completing e h = absurd (false≢true h)
    go Stable e h = absurd (false≢true h)
