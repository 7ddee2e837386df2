-- A tick, from what was worked out before the group changes.
use Rattle.std.proofs.Common.{◌≡◌, inl, ℕ, ◌+◌, Bool, true, false, not, ◌&&◌, ◌||◌, nat_le, List, [], ◌∷◌, cond, map, filter, fold, is_some, Option, Some, None, refl, subst, sym, ap, ◌∙◌}
use Rattle.std.specs.Prelude.{max, if◌then◌else◌}
use Rattle.std.specs.List.{list_all, list_any}
use Rattle.std.proofs.lemmas.Bool.{false≢true, or_from, or_parts}
use Rattle.std.proofs.lemmas.List.Folds.{list_all-map}
use Rattle.cg_group_state.specs.declared.calls.Calls.{Calls}
use Rattle.cg_group_state.specs.declared.calls.Calls.TheVariants.{Any, Joins, Syncs}
use Rattle.cg_request.specs.declared.ticket.Ticket.{Ticket}
use Rattle.cg_group_state.specs.declared.effects.Effects.{Effects}
use Rattle.cg_group_state.specs.declared.group.Group.{Group}
use Rattle.cg_group_state.specs.declared.member.Member.{Member}
use Rattle.cg_group_state.specs.declared.member.Waits.{Waits}
use Rattle.cg_group_state.specs.declared.member.Waits.TheVariants.{Nothing, Join, Sync}
use Rattle.cg_group_state.specs.declared.who_stays.Staying.TheVariants.{Unexpired, Outstaying}
use Rattle.cg_group_state.specs.declared.turn.Turn.{Turn}
use Rattle.cg_group_rules.specs.Leave.{after_removal, has_joined}
use Rattle.cg_group_state.specs.Membership.{is_empty, is_named, is_preparing, keeping, leader_among}
use Rattle.cg_group_rules.specs.Rebalance.{begun, complete_join, emptied, is_ready, init_next_generation, prepare_rebalance, reply_to_joins, try_complete_join, turn_of, turned}
use Rattle.cg_group_state.specs.Staying.{remaining, is_overdue, outstays}
use Rattle.cg_group_rules.specs.Tick.{at_deadline, can_complete, ended, expire_heartbeats, greatest_rebalance, is_due, ticked}
use Rattle.cg_group_state.specs.Waiting.{after_answer, after_answers, answered, called, is_waiting}
use Rattle.cg_group_rules.specs.declared.rebalance.Round.{Round}
use Rattle.cg_group_rules.specs.declared.tick.TickPlan.{TickPlan}
use Rattle.cg_group_rules.specs.RebalancePlan.{IsPlan, among, is_complete, rounded}
use Rattle.cg_group_rules.specs.TickPlan.{at_end, begins_at, carried, closed, finished, first_effects, is_over, thinned}
use Rattle.cg_group_rules.proofs.Alike.{IsLead, any_alike, completed_alike, empty_alike, lead_again, lead_among}
use Rattle.cg_group_rules.proofs.Rounds.{plan_holds, plan_unled}

-- a tick keeps the id of its group
pub carried_id : (now : ℕ) (plan : TickPlan) (g : Group) → (carried now plan g).id ≡ g.id
unfolding keeping
carried_id now plan g = finished_id (thinned now g) ∙ (elim (list_any (is_overdue now) g.members) as (λ b. (if b then begun (has_joined g.phase) now (keeping (λ m. not (is_overdue now m)) g) else g).id ≡ g.id) [
  | true ↦ elim (has_joined g.phase) as (λ b. (begun b now (keeping (λ m. not (is_overdue now m)) g)).id ≡ g.id) [ true ↦ refl | false ↦ refl ]
  | false ↦ refl
])
  where
    rounded_id : (o : Option Round) (x : Group) → (rounded now o x).id ≡ x.id
    rounded_id None x = refl
    rounded_id (Some r) x = refl

    closed_id : (o : Option Round) (x : Group) → (closed now o x).id ≡ x.id
    closed_id None x = refl
    closed_id (Some r) x = refl

    finished_id : (x : Group) → (finished now plan.round x).id ≡ x.id
    finished_id x =
        elim (is_ready x) as (λ b. (if b then rounded now plan.round x else at_end now plan.round x).id ≡ x.id) [
          | true ↦ rounded_id plan.round x
          | false ↦ elim (is_due now x) as (λ b. (if b then closed now plan.round (keeping outstays x) else x).id ≡ x.id) [ true ↦ closed_id plan.round (keeping outstays x) | false ↦ refl ]
        ]

-- the members as a rebalance begins or not
abbrev late : Bool → ℕ → Member → Member
late begins now m = if begins then after_answer Syncs now m else m

none_late : (now : ℕ) (ms : List Member) → map (late false now) ms ≡ ms
none_late now [] = refl
none_late now (m ∷ ms) = ap (λ xs. m ∷ xs) (none_late now ms)

none_expired : (now : ℕ) (ms : List Member) → list_any (is_overdue now) ms ≡ false → remaining (Unexpired now) ms ≡ ms
none_expired now [] h = refl
none_expired now (m ∷ ms) h =
    let parts = or_parts (is_overdue now m) (list_any (is_overdue now) ms) h in
    ap (λ b. cond (not b) (m ∷ remaining (Unexpired now) ms) (remaining (Unexpired now) ms)) parts.0 ∙ ap (λ xs. m ∷ xs) (none_expired now ms parts.1)

-- what a reply to a SYNC leaves of a member
late_same : {X : Type 0} (get : Member → X) → ((now : ℕ) (m : Member) → get (answered now m) ≡ get m) → (begins : Bool) (now : ℕ) (m : Member) → get (late begins now m) ≡ get m
late_same get h true now m = elim (is_waiting Syncs m) as (λ w. get (if w then answered now m else m) ≡ get m) [ true ↦ h now m | false ↦ refl ]
late_same get h false now m = refl

late_by : {X : Type 0} (get : Member → X) (now : ℕ) (m : Member) (x : X) → ((t : Ticket) → m.waits ≡ Sync t → get (answered now m) ≡ x) → (is_waiting Syncs m ≡ false → get m ≡ x) → get (late true now m) ≡ x
late_by get now m x synced other = go m.waits refl
  where
    go : (w : Waits) → m.waits ≡ w → get (late true now m) ≡ x
    go Nothing e = let none : is_waiting Syncs m ≡ false = ap (λ w. is_some (called Syncs w)) e in ap (λ b. get (if b then answered now m else m)) none ∙ other none
    go (Join t) e = let none : is_waiting Syncs m ≡ false = ap (λ w. is_some (called Syncs w)) e in ap (λ b. get (if b then answered now m else m)) none ∙ other none
    go (Sync t) e = ap (λ w. get (if is_some (called Syncs w) then answered now m else m)) e ∙ synced t e

late_join : (begins : Bool) (now : ℕ) (m : Member) → called Joins (late begins now m).waits ≡ called Joins m.waits
late_join true now m = late_by (λ x. called Joins x.waits) now m (called Joins m.waits) (λ t e. sym (ap (called Joins) e)) (λ _. refl)
late_join false now m = refl

-- the calls with which a dynamic member outstays the rebalance
abbrev outstaying : Bool → Calls
outstaying begins = if begins then Joins else Any

late_any : (begins : Bool) (now : ℕ) (m : Member) → is_waiting Any (late begins now m) ≡ is_waiting (outstaying begins) m
late_any true now m = late_by (is_waiting Any) now m (is_waiting Joins m) (λ t e. sym (ap (λ w. is_some (called Joins w)) e)) (λ none. unsynced m.waits none)
  where
    unsynced : (w : Waits) → is_some (called Syncs w) ≡ false → is_some (called Any w) ≡ is_some (called Joins w)
    unsynced Nothing h = refl
    unsynced (Join t) h = refl
    unsynced (Sync t) h = absurd (false≢true (sym h))
late_any false now m = refl

late_outstays : (begins : Bool) (now : ℕ) (m : Member) → outstays (late begins now m) ≡ (is_some m.instance || is_waiting (outstaying begins) m)
late_outstays begins now m =
    ap (λ (i : Option (List ℕ)). is_some i || is_waiting Any (late begins now m)) (late_same (λ x. x.instance) (λ n x. refl) begins now m)
    ∙ ap (λ b. is_some m.instance || b) (late_any begins now m)

late_greatest : (begins : Bool) (now : ℕ) (ms : List Member) → greatest_rebalance (map (late begins now) ms) ≡ greatest_rebalance ms
unfolding greatest_rebalance
late_greatest begins now ms = ap (fold max 0) (each ms)
  where
    each : (ms : List Member) → map (λ (m : Member). m.rebalance) (map (late begins now) ms) ≡ map (λ (m : Member). m.rebalance) ms
    each [] = refl
    each (m ∷ ms) = ap (λ n. n ∷ map (λ (m : Member). m.rebalance) (map (late begins now) ms)) (late_same (λ x. x.rebalance) (λ n x. refl) begins now m) ∙ ap (λ ns. m.rebalance ∷ ns) (each ms)

late_ready : (begins : Bool) (now : ℕ) (ms : List Member) → list_all (is_waiting Joins) (map (late begins now) ms) ≡ list_all (is_waiting Joins) ms
late_ready begins now ms = list_all-map (is_waiting Joins) (late begins now) ms ∙ ap (λ (p : Member → Bool). list_all p ms) (λ i m. is_some (late_join begins now m i))

-- those who outstay the rebalance, after it began or not
outstay_late : (begins : Bool) (now : ℕ) (ms : List Member) → filter outstays (map (late begins now) (remaining (Unexpired now) ms)) ≡ map (late begins now) (remaining (Outstaying now (outstaying begins)) ms)
outstay_late begins now [] = refl
outstay_late begins now (m ∷ ms) =
    let f : Member → Member = late begins now in
    let rest : List Member = filter outstays (map f (remaining (Unexpired now) ms)) in
    let others : List Member = remaining (Outstaying now (outstaying begins)) ms in
    let holds : Bool = is_some m.instance || is_waiting (outstaying begins) m in
    elim (is_overdue now m) as (λ b. filter outstays (map f (cond (not b) (m ∷ remaining (Unexpired now) ms) (remaining (Unexpired now) ms))) ≡ map f (cond (not b && holds) (m ∷ others) others)) [
      | true ↦ outstay_late begins now ms
      | false ↦
          ap (λ b. cond b (f m ∷ rest) rest) (late_outstays begins now m)
          ∙ (elim holds as (λ b. cond b (f m ∷ rest) rest ≡ map f (cond b (m ∷ others) others)) [
            | true ↦ ap (λ xs. f m ∷ xs) (outstay_late begins now ms)
            | false ↦ outstay_late begins now ms
          ])
    ]

-- who is not among all is not among some
none_of_some : (p a c : Member → Bool) (ms : List Member) → list_any p (filter a ms) ≡ false → list_any p (filter (λ m. a m && c m) ms) ≡ false
none_of_some p a c [] h = refl
none_of_some p a c (m ∷ ms) h =
    (elim (a m) as (λ b. list_any p (cond b (m ∷ filter a ms) (filter a ms)) ≡ false → list_any p (cond (b && c m) (m ∷ filter (λ m. a m && c m) ms) (filter (λ m. a m && c m) ms)) ≡ false) [
      | true ↦ λ h.
          let parts = or_parts (p m) (list_any p (filter a ms)) h in
          elim (c m) as (λ b. list_any p (cond b (m ∷ filter (λ m. a m && c m) ms) (filter (λ m. a m && c m) ms)) ≡ false) [
            | true ↦ or_from (p m) (list_any p (filter (λ m. a m && c m) ms)) parts.0 (none_of_some p a c ms parts.1)
            | false ↦ none_of_some p a c ms parts.1
          ]
      | false ↦ λ h. none_of_some p a c ms h
    ]) h

-- the end of a rebalance's time
module _ (now : ℕ) (x : Group) (e : Effects) where
  end_not_due : is_due now x ≡ false → at_deadline now (turned x e) ≡ turned (at_end now None x) e
  unfolding at_deadline
  end_not_due h =
      ap (λ b. if b then ended now (turned (keeping outstays x) e) else turned x e) h
      ∙ sym (ap (λ b. turned (if b then closed now None (keeping outstays x) else x) e) h)

  end_waits : is_due now x ≡ true → can_complete (keeping outstays x).members ≡ false → at_deadline now (turned x e) ≡ turned (at_end now None x) e
  unfolding at_deadline ended
  end_waits h waits =
      let k : Group = keeping outstays x in
      ap (λ b. if b then ended now (turned k e) else turned x e) h
      ∙ ap (λ b. if b then complete_join now (turned k e) else turned (record k { started = now }) e) waits
      ∙ sym (ap (λ b. turned (if b then closed now None k else x) e) h)

  end_completes : (r : Round) (after : Effects) → is_due now x ≡ true → can_complete (keeping outstays x).members ≡ true
      → complete_join now (turned (keeping outstays x) e) ≡ turned (rounded now (Some r) (keeping outstays x)) after → at_deadline now (turned x e) ≡ turned (at_end now (Some r) x) after
  unfolding at_deadline ended
  end_completes r after h can by =
      let k : Group = keeping outstays x in
      ap (λ b. if b then ended now (turned k e) else turned x e) h
      ∙ ap (λ b. if b then complete_join now (turned k e) else turned (record k { started = now }) e) can
      ∙ by
      ∙ sym (ap (λ b. turned (if b then closed now (Some r) k else x) after) h)

-- a rebalance that has completed is not under way
settled : (now : ℕ) (t : Turn) → is_preparing (complete_join now t).group.phase ≡ false
unfolding complete_join emptied reply_to_joins init_next_generation
settled now t = elim (is_empty t.group.members) as (λ b. is_preparing (if b then emptied now t else reply_to_joins now (record t { group = init_next_generation t.group })).group.phase ≡ false) [ true ↦ refl | false ↦ refl ]

module _ (now : ℕ) (g : Group) where
  -- the group without the expired members, from whether a session has expired and whether the members had joined
  abbrev thinned_by : Bool → Bool → Group
  thinned_by some joined = if some then begun joined now (keeping (λ m. not (is_overdue now m)) g) else g

  begun_by : (some joined : Bool) → has_joined g.phase ≡ joined
      → (if some then after_removal now (turn_of (keeping (λ m. not (is_overdue now m)) g)) else try_complete_join now (turn_of g)) ≡ try_complete_join now (turned (thinned_by some joined) (first_effects now (some && joined) g.members))
  unfolding after_removal prepare_rebalance keeping
  begun_by true true j = ap (λ b. try_complete_join now (if b then prepare_rebalance now (turn_of (keeping (λ m. not (is_overdue now m)) g)) else turn_of (keeping (λ m. not (is_overdue now m)) g))) j
  begun_by true false j = ap (λ b. try_complete_join now (if b then prepare_rebalance now (turn_of (keeping (λ m. not (is_overdue now m)) g)) else turn_of (keeping (λ m. not (is_overdue now m)) g))) j
  begun_by false joined j = refl

  expired_first : expire_heartbeats now (turn_of g) ≡ try_complete_join now (turned (thinned now g) (first_effects now (begins_at now g) g.members))
  unfolding expire_heartbeats
  expired_first = begun_by (list_any (is_overdue now) g.members) (has_joined g.phase) refl

  module _ (some joined : Bool) (none : some ≡ false → remaining (Unexpired now) g.members ≡ g.members) where
    begins : Bool
    begins = some && joined

    left : Group
    left = thinned_by some joined

    members_left : left.members ≡ map (late begins now) (remaining (Unexpired now) g.members)
    unfolding left begins keeping after_answers
    members_left = go some joined none
      where
        go : (s j : Bool) → (s ≡ false → remaining (Unexpired now) g.members ≡ g.members) → (thinned_by s j).members ≡ map (late (s && j) now) (remaining (Unexpired now) g.members)
        go true true n = refl
        go true false n = sym (none_late now (remaining (Unexpired now) g.members))
        go false j n = sym (none_late now (remaining (Unexpired now) g.members) ∙ n refl)

    phase_left : is_preparing left.phase ≡ (begins || is_preparing g.phase)
    unfolding left begins keeping
    phase_left = go some joined
      where
        go : (s j : Bool) → is_preparing (thinned_by s j).phase ≡ ((s && j) || is_preparing g.phase)
        go true true = refl
        go true false = refl
        go false j = refl

    started_left : left.started ≡ (if begins then now else g.started)
    unfolding left begins keeping
    started_left = go some joined
      where
        go : (s j : Bool) → (thinned_by s j).started ≡ (if s && j then now else g.started)
        go true true = refl
        go true false = refl
        go false j = refl

    over_due : is_due now left ≡ is_over now begins g
    over_due =
        ap (λ b. b && nat_le (left.started + greatest_rebalance left.members) now) phase_left
        ∙ ap (λ n. (begins || is_preparing g.phase) && nat_le (n + greatest_rebalance left.members) now) started_left
        ∙ ap (λ n. (begins || is_preparing g.phase) && nat_le ((if begins then now else g.started) + n) now) (ap greatest_rebalance members_left ∙ late_greatest begins now (remaining (Unexpired now) g.members))

    ready_left : is_ready left ≡ is_complete begins (among (Unexpired now) g)
    unfolding is_ready
    ready_left =
        ap (λ b. b && list_all (is_waiting Joins) left.members) phase_left
        ∙ ap (λ b. (begins || is_preparing g.phase) && b) (ap (list_all (is_waiting Joins)) members_left ∙ late_ready begins now (remaining (Unexpired now) g.members))

    plan_left : (before : Effects) (round : Option Round) (after : Effects) → IsPlan now begins (among (Unexpired now) g) before round after → try_complete_join now (turned left before) ≡ turned (rounded now round left) after
    unfolding left begins keeping
    plan_left before round after plan = go some joined none plan
      where
        go : (s j : Bool) → (s ≡ false → remaining (Unexpired now) g.members ≡ g.members) → IsPlan now (s && j) (among (Unexpired now) g) before round after → try_complete_join now (turned (thinned_by s j) before) ≡ turned (rounded now round (thinned_by s j)) after
        go true j n p = plan_holds j now (keeping (λ m. not (is_overdue now m)) g) before round after (plan_unled now j (among (Unexpired now) g) before round after p)
        go false j n p =
            let P : List Member → Type 0 = λ ms. IsPlan now false (record g { members = ms }) before round after in
            plan_holds false now g before round after (subst P (n refl) p)

    -- those who outstay the end of the rebalance
    late_members : List Member
    late_members = remaining (Outstaying now (outstaying begins)) g.members

    leader_left : Option (List ℕ)
    leader_left = leader_among (map (late begins now) late_members) left.leader

    kept_left : keeping outstays left ≡ record g { phase = left.phase; started = left.started; leader = leader_left; members = map (late begins now) late_members }
    unfolding left begins late_members leader_left keeping
    kept_left = go some joined (ap (filter outstays) members_left ∙ outstay_late begins now g.members)
      where
        go : (s j : Bool) → filter outstays (thinned_by s j).members ≡ map (late (s && j) now) (remaining (Outstaying now (outstaying (s && j))) g.members)
            → keeping outstays (thinned_by s j) ≡ record g { phase = (thinned_by s j).phase; started = (thinned_by s j).started; leader = leader_among (map (late (s && j) now) (remaining (Outstaying now (outstaying (s && j))) g.members)) (thinned_by s j).leader; members = map (late (s && j) now) (remaining (Outstaying now (outstaying (s && j))) g.members) }
        go true true e = ap (λ (ms : List Member). record (thinned_by true true) { leader = leader_among ms (thinned_by true true).leader; members = ms }) e
        go true false e = ap (λ (ms : List Member). record (thinned_by true false) { leader = leader_among ms (thinned_by true false).leader; members = ms }) e
        go false j e = ap (λ (ms : List Member). record g { leader = leader_among ms g.leader; members = ms }) e

    lead_left : IsLead g.leader late_members leader_left
    unfolding left begins late_members leader_left keeping
    lead_left =
        let named : Option (List ℕ) → Member → Bool = λ l m. is_named l m.id in
        let P : Option (List ℕ) → Type 0 = λ l. IsLead g.leader late_members l in
        subst P (sym (ap (λ b. if b then left.leader else None)
        (any_alike (late begins now) (named left.leader) (named left.leader) (λ m. ap (λ (i : List ℕ). is_named left.leader i) (late_same (λ x. x.id) (λ n x. refl) begins now m)) late_members)))
        (lead_again g.leader left.leader (remaining (Unexpired now) g.members) late_members
        (none_of_some (named g.leader) (λ m. not (is_overdue now m)) (λ m. is_some m.instance || is_waiting (outstaying begins) m) g.members)
        (go some joined))
      where
        go : (s j : Bool) → IsLead g.leader (remaining (Unexpired now) g.members) (thinned_by s j).leader
        go true true = lead_among g.leader (remaining (Unexpired now) g.members)
        go true false = lead_among g.leader (remaining (Unexpired now) g.members)
        go false j = inl refl

    can_left : can_complete (keeping outstays left).members ≡ (is_empty late_members || list_any (is_waiting (outstaying begins)) late_members)
    can_left =
        ap (λ (x : Group). can_complete x.members) kept_left
        ∙ ap (λ b. b || list_any (is_waiting Any) (map (late begins now) late_members)) (empty_alike (late begins now) late_members)
        ∙ ap (λ b. is_empty late_members || b) (any_alike (late begins now) (is_waiting Any) (is_waiting (outstaying begins)) (late_any begins now) late_members)

    completed_left : (before : Effects) (r : Round) (after : Effects) → complete_join now (turned (among (Outstaying now (outstaying begins)) g) before) ≡ turned (rounded now (Some r) (among (Outstaying now (outstaying begins)) g)) after
        → complete_join now (turned (keeping outstays left) before) ≡ turned (rounded now (Some r) (keeping outstays left)) after
    unfolding late_members left
    completed_left before r after by =
        let P : Group → Type 0 = λ x. complete_join now (turned x before) ≡ turned (rounded now (Some r) x) after in
        subst P (sym kept_left)
        (completed_alike (late begins now) (late_same (λ x. x.id) (λ n x. refl) begins now) (late_same (λ x. x.instance) (λ n x. refl) begins now) (late_same (λ x. x.protocols) (λ n x. refl) begins now) (late_join begins now)
        now left.started left.phase leader_left (among (Outstaying now (outstaying begins)) g) before lead_left after r by)

  none_here : list_any (is_overdue now) g.members ≡ false → remaining (Unexpired now) g.members ≡ g.members
  none_here h = none_expired now g.members h

  -- a tick at which all who have not expired have joined
  pub tick_completes : (r : Round) (after : Effects) → IsPlan now (begins_at now g) (among (Unexpired now) g) (first_effects now (begins_at now g) g.members) (Some r) after → ticked now g ≡ turned (finished now (Some r) (thinned now g)) after
  unfolding ticked at_deadline left begins
  tick_completes r after plan =
      let some = list_any (is_overdue now) g.members in
      let joined = has_joined g.phase in
      let x : Group = thinned now g in
      let done : Turn = turned (rounded now (Some r) x) after in
      let over : is_preparing r.phase ≡ false = sym (ap (λ (t : Turn). is_preparing t.group.phase) plan.1) ∙ settled now (turned (among (Unexpired now) g) (first_effects now (begins_at now g) g.members)) in
      ap (at_deadline now) (expired_first ∙ plan_left some joined none_here (first_effects now (begins_at now g) g.members) (Some r) after plan)
      ∙ ap (λ b. if b && nat_le (done.group.started + greatest_rebalance done.group.members) now then ended now (record done { group = keeping outstays done.group }) else done) over
      ∙ ap (λ b. turned (if b then rounded now (Some r) x else at_end now (Some r) x) after) (sym (ready_left some joined none_here ∙ plan.0))

  -- any other tick
  pub tick_ends : (effects after : Effects) (round : Option Round) → IsPlan now (begins_at now g) (among (Unexpired now) g) (first_effects now (begins_at now g) g.members) None effects
      → at_deadline now (turned (thinned now g) effects) ≡ turned (at_end now round (thinned now g)) after → ticked now g ≡ turned (finished now round (thinned now g)) after
  unfolding ticked left begins
  tick_ends effects after round plan by =
      let some = list_any (is_overdue now) g.members in
      let joined = has_joined g.phase in
      let x : Group = thinned now g in
      ap (at_deadline now) (expired_first ∙ plan_left some joined none_here (first_effects now (begins_at now g) g.members) None effects plan)
      ∙ by
      ∙ ap (λ b. turned (if b then rounded now round x else at_end now round x) after) (sym (ready_left some joined none_here ∙ plan.0))

  -- what is worked out for the end of the rebalance's time
  module _ (e : Effects) (starts : Bool) (at : starts ≡ begins_at now g) where
    abbrev some_expired : Bool
    some_expired = list_any (is_overdue now) g.members

    planned_at : (P : Bool → Type 0) → P starts → P (begins_at now g)
    planned_at P h = subst P at h

    pub planned_not_due : is_over now starts g ≡ false → at_deadline now (turned (thinned now g) e) ≡ turned (at_end now None (thinned now g)) e
    unfolding left begins
    planned_not_due over =
        end_not_due now (thinned now g) e (over_due some_expired (has_joined g.phase) none_here ∙ planned_at (λ b. is_over now b g ≡ false) over)

    pub planned_waits : is_over now starts g ≡ true → (is_empty (remaining (Outstaying now (outstaying starts)) g.members) || list_any (is_waiting (outstaying starts)) (remaining (Outstaying now (outstaying starts)) g.members)) ≡ false
        → at_deadline now (turned (thinned now g) e) ≡ turned (at_end now None (thinned now g)) e
    unfolding left begins late_members
    planned_waits over waits =
        end_waits now (thinned now g) e (over_due some_expired (has_joined g.phase) none_here ∙ planned_at (λ b. is_over now b g ≡ true) over)
        (can_left some_expired (has_joined g.phase) none_here ∙ planned_at (λ b. (is_empty (remaining (Outstaying now (outstaying b)) g.members) || list_any (is_waiting (outstaying b)) (remaining (Outstaying now (outstaying b)) g.members)) ≡ false) waits)

    pub planned_completes : (r : Round) (after : Effects) → is_over now starts g ≡ true → (is_empty (remaining (Outstaying now (outstaying starts)) g.members) || list_any (is_waiting (outstaying starts)) (remaining (Outstaying now (outstaying starts)) g.members)) ≡ true
        → complete_join now (turned (among (Outstaying now (outstaying starts)) g) e) ≡ turned (rounded now (Some r) (among (Outstaying now (outstaying starts)) g)) after
        → at_deadline now (turned (thinned now g) e) ≡ turned (at_end now (Some r) (thinned now g)) after
    unfolding left begins late_members
    planned_completes r after over can by =
        end_completes now (thinned now g) e r after (over_due some_expired (has_joined g.phase) none_here ∙ planned_at (λ b. is_over now b g ≡ true) over)
        (can_left some_expired (has_joined g.phase) none_here ∙ planned_at (λ b. (is_empty (remaining (Outstaying now (outstaying b)) g.members) || list_any (is_waiting (outstaying b)) (remaining (Outstaying now (outstaying b)) g.members)) ≡ true) can)
        (completed_left some_expired (has_joined g.phase) none_here e r after
        (planned_at (λ b. complete_join now (turned (among (Outstaying now (outstaying b)) g) e) ≡ turned (rounded now (Some r) (among (Outstaying now (outstaying b)) g)) after) by))

  -- what was planned first, from what each call returned
  pub planned_first : (starts : Bool) (before : Effects) (ms : List Member) (round : Option Round) (after : Effects) → starts ≡ begins_at now g → ms ≡ g.members → before ≡ first_effects now starts ms
      → IsPlan now starts (among (Unexpired now) g) before round after → IsPlan now (begins_at now g) (among (Unexpired now) g) (first_effects now (begins_at now g) g.members) round after
  planned_first starts before ms round after at same by h =
      let P : Bool → Type 0 = λ b. IsPlan now b (among (Unexpired now) g) (first_effects now b g.members) round after in
      let Q : List Member → Type 0 = λ xs. IsPlan now starts (among (Unexpired now) g) (first_effects now starts xs) round after in
      let R : Effects → Type 0 = λ e. IsPlan now starts (among (Unexpired now) g) e round after in
      subst P at (subst Q same (subst R by h))
