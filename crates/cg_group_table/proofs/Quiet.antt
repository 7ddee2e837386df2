-- Before its next deadline a group is not changed by ticks, also after its members were heard.
use Rattle.std.proofs.Common.{◌≡◌, ℕ, ◌+◌, ◌<◌, ◌≤◌, Bool, true, false, not, List, [], ◌∷◌, map, fold, refl, sym, ap, subst, arith}
use Rattle.std.specs.Prelude.{◌&&◌, ◌||◌, min, max, nat_le, if◌then◌else◌}
use Rattle.std.specs.List.{list_any, list_all}
use Rattle.std.proofs.lemmas.Bool.{lt-leb, or_from}
use Rattle.cg_group_state.specs.declared.calls.Calls.TheVariants.{Any, Joins}
use Rattle.cg_group_state.specs.declared.group.Group.{Group}
use Rattle.cg_group_state.specs.declared.member.Member.{Member}
use Rattle.cg_group_state.specs.Membership.{has_id, heard, hearing, is_preparing, with_member}
use Rattle.cg_group_rules.specs.Rebalance.{is_ready, turn_of}
use Rattle.cg_group_rules.specs.Tick.{greatest_rebalance, is_due, ticked}
use Rattle.cg_group_state.specs.Staying.{is_overdue}
use Rattle.cg_group_state.specs.Waiting.{is_waiting}
use Rattle.cg_group_rules.specs.TickDeadline.{earliest_expiry, expiry, last_moment, next_deadline, rebalance_deadline, tick_touches}
use Rattle.cg_group_table.proofs.Untouched.{calm_ticked}

-- the least of several numbers

fold_below : (a : ℕ) (xs : List ℕ) → fold min a xs ≤ a
fold_below a [] = omega arith
fold_below a (x ∷ xs) = let h = fold_below (min a x) xs in omega (arith, h)

fold_more : (a b : ℕ) (xs ys : List ℕ) → a ≤ b → xs ≡ ys → fold min a xs ≤ fold min b ys
fold_more a b xs ys le same = subst (λ (zs : List ℕ). fold min a xs ≤ fold min b zs) same (go a b xs le)
  where
    go : (a b : ℕ) (xs : List ℕ) → a ≤ b → fold min a xs ≤ fold min b xs
    go a b [] le = le
    go a b (x ∷ xs) le = go (min a x) (min b x) xs (omega arith)

-- a member before its session expires

calm_member : (since t : ℕ) (m : Member) → t < expiry since m → is_overdue t m ≡ false
calm_member since t m h =
    (elim (is_waiting Any m) as (λ b. t < (if b then last_moment else min (min m.heard since + m.session) last_moment) → (not b && nat_le (m.heard + m.session) t) ≡ false) [
      | true ↦ λ _. refl
      | false ↦ λ lt. lt-leb (m.heard + m.session) t (omega arith)
    ]) h

calm_members : (since t a : ℕ) (ms : List Member) → t < fold min a (map (expiry since) ms) → list_any (is_overdue t) ms ≡ false
calm_members since t a [] h = refl
calm_members since t a (m ∷ ms) h =
    let below = fold_below (min a (expiry since m)) (map (expiry since) ms) in
    or_from (is_overdue t m) (list_any (is_overdue t) ms) (calm_member since t m (omega (arith, below))) (calm_members since t (min a (expiry since m)) ms h)

-- a rebalance before its deadline
calm_rebalance : (t : ℕ) (g : Group) → t < rebalance_deadline g → is_due t g ≡ false
unfolding rebalance_deadline
calm_rebalance t g h =
    (elim (is_preparing g.phase) as (λ b. t < (if b then min (g.started + greatest_rebalance g.members) last_moment else last_moment) → (b && nat_le (g.started + greatest_rebalance g.members) t) ≡ false) [
      | true ↦ λ lt. lt-leb (g.started + greatest_rebalance g.members) t (omega arith)
      | false ↦ λ _. refl
    ]) h

calm_before : (since t : ℕ) (g : Group) → t < next_deadline since g → tick_touches t g ≡ false
unfolding next_deadline earliest_expiry
calm_before since t g h =
    (elim (is_ready g) as (λ b. t < (if b then 0 else min (earliest_expiry since g.members) (rebalance_deadline g)) → (list_any (is_overdue t) g.members || (b || is_due t g)) ≡ false) [
      | true ↦ λ lt. absurd (omega arith)
      | false ↦ λ lt. or_from (list_any (is_overdue t) g.members) (is_due t g) (calm_members since t last_moment g.members (omega arith)) (calm_rebalance t g (omega arith))
    ]) h

-- a tick before the next deadline of the group
pub ticked_before : (since t : ℕ) (g : Group) → t < next_deadline since g → ticked t g ≡ turn_of g
ticked_before since t g h = calm_ticked t g (calm_before since t g h)

-- a later `since` makes no deadline earlier

expiry-since : (since later : ℕ) (m : Member) → since ≤ later → expiry since m ≤ expiry later m
expiry-since since later m le =
    elim (is_waiting Any m) as (λ b. (if b then last_moment else min (min m.heard since + m.session) last_moment) ≤ (if b then last_moment else min (min m.heard later + m.session) last_moment)) [
      | true ↦ omega arith
      | false ↦ omega arith
    ]

earliest-since : (since later a b : ℕ) (ms : List Member) → since ≤ later → a ≤ b → fold min a (map (expiry since) ms) ≤ fold min b (map (expiry later) ms)
earliest-since since later a b [] le more = more
earliest-since since later a b (m ∷ ms) le more =
    let one = expiry-since since later m le in
    earliest-since since later (min a (expiry since m)) (min b (expiry later m)) ms le (omega (arith, one, more))

pub deadline-since : (since later : ℕ) (g : Group) → since ≤ later → next_deadline since g ≤ next_deadline later g
unfolding next_deadline earliest_expiry
deadline-since since later g le =
    let least = earliest-since since later last_moment last_moment g.members le (omega arith) in
    elim (is_ready g) as (λ b. (if b then 0 else min (earliest_expiry since g.members) (rebalance_deadline g)) ≤ (if b then 0 else min (earliest_expiry later g.members) (rebalance_deadline g))) [
      | true ↦ omega arith
      | false ↦ omega (arith, least)
    ]

-- nor does it if a member is heard

expiry-heard : (since now : ℕ) (m : Member) → since ≤ now → expiry since m ≤ expiry since (heard now m)
expiry-heard since now m le =
    elim (is_waiting Any m) as (λ b. (if b then last_moment else min (min m.heard since + m.session) last_moment) ≤ (if b then last_moment else min (min now since + m.session) last_moment)) [
      | true ↦ omega arith
      | false ↦ omega arith
    ]

module _ (now : ℕ) (id : List ℕ) where
  earliest-heard : (since a b : ℕ) (ms : List Member) → since ≤ now → a ≤ b → fold min a (map (expiry since) ms) ≤ fold min b (map (expiry since) (with_member id (heard now) ms))
  unfolding with_member
  earliest-heard since a b [] le more = more
  earliest-heard since a b (m ∷ ms) le more =
      let one = expiry-heard since now m le in
      elim (has_id id m) as (λ t. fold min (min a (expiry since m)) (map (expiry since) ms) ≤ fold min b (map (expiry since) (if t then heard now m ∷ ms else m ∷ with_member id (heard now) ms))) [
        | true ↦ fold_more (min a (expiry since m)) (min b (expiry since (heard now m))) (map (expiry since) ms) (map (expiry since) ms) (omega (arith, one, more)) refl
        | false ↦ earliest-heard since (min a (expiry since m)) (min b (expiry since m)) ms le (omega (arith, more))
      ]

  all-heard : (ms : List Member) → list_all (is_waiting Joins) (with_member id (heard now) ms) ≡ list_all (is_waiting Joins) ms
  unfolding with_member
  all-heard [] = refl
  all-heard (m ∷ ms) =
      elim (has_id id m) as (λ t. list_all (is_waiting Joins) (if t then heard now m ∷ ms else m ∷ with_member id (heard now) ms) ≡ list_all (is_waiting Joins) (m ∷ ms)) [
        | true ↦ refl
        | false ↦ ap (λ b. is_waiting Joins m && b) (all-heard ms)
      ]

  rebalances-heard : (ms : List Member) → map (λ (m : Member). m.rebalance) (with_member id (heard now) ms) ≡ map (λ (m : Member). m.rebalance) ms
  unfolding with_member
  rebalances-heard [] = refl
  rebalances-heard (m ∷ ms) =
      elim (has_id id m) as (λ t. map (λ (k : Member). k.rebalance) (if t then heard now m ∷ ms else m ∷ with_member id (heard now) ms) ≡ m.rebalance ∷ map (λ (k : Member). k.rebalance) ms) [
        | true ↦ refl
        | false ↦ ap (λ xs. m.rebalance ∷ xs) (rebalances-heard ms)
      ]

  ready-heard : (g : Group) → is_ready (hearing now id g) ≡ is_ready g
  unfolding hearing is_ready
  ready-heard g = ap (λ b. is_preparing g.phase && b) (all-heard g.members)

  rebalance-heard : (g : Group) → rebalance_deadline (hearing now id g) ≡ rebalance_deadline g
  unfolding hearing rebalance_deadline greatest_rebalance
  rebalance-heard g = ap (λ xs. if is_preparing g.phase then min (g.started + fold max 0 xs) last_moment else last_moment) (rebalances-heard g.members)

  members-heard : (g : Group) → (hearing now id g).members ≡ with_member id (heard now) g.members
  unfolding hearing
  members-heard g = refl

  pub deadline-heard : (since : ℕ) (g : Group) → since ≤ now → next_deadline since g ≤ next_deadline since (hearing now id g)
  unfolding next_deadline earliest_expiry
  deadline-heard since g le =
      let least = earliest-heard since last_moment last_moment g.members le (omega arith) in
      let E : List Member → Type 0 = λ ms. fold min last_moment (map (expiry since) g.members) ≤ fold min last_moment (map (expiry since) ms) in
      let whole : fold min last_moment (map (expiry since) g.members) ≤ fold min last_moment (map (expiry since) (hearing now id g).members) = subst E (sym (members-heard g)) least in
      let after : ℕ = fold min last_moment (map (expiry since) (hearing now id g).members) in
      let R : Bool → Type 0 = λ b. (if is_ready g then 0 else min (fold min last_moment (map (expiry since) g.members)) (rebalance_deadline g)) ≤ (if b then 0 else min after (rebalance_deadline (hearing now id g))) in
      let D : ℕ → Type 0 = λ d. (if is_ready g then 0 else min (fold min last_moment (map (expiry since) g.members)) (rebalance_deadline g)) ≤ (if is_ready g then 0 else min after d) in
      subst R (sym (ready-heard g)) (subst D (sym (rebalance-heard g)) (elim (is_ready g) as (λ b. (if b then 0 else min (fold min last_moment (map (expiry since) g.members)) (rebalance_deadline g)) ≤ (if b then 0 else min after (rebalance_deadline g))) [
        | true ↦ omega arith
        | false ↦ omega (arith, whole)
      ]))
