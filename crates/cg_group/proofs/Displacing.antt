-- A call that is parked in the place of an older one of its member.
use Rattle.std.proofs.Common.{◌≡◌, ℕ, Bool, true, false, ◌||◌, cond, find, List, [], ◌∷◌, inl, inr, Option, Some, None, Ok, is_some, refl, sym, ap, ◌∙◌, subst}
use Rattle.std.specs.Prelude.{◌⊎◌, ◌==◌, if◌then◌else◌}
use Rattle.std.specs.BTreeMap.{BTreeMap, get}
use Rattle.std.specs.List.{list_any}
use Rattle.std.specs.Ordering.{nat_cmp}
use Rattle.std.proofs.lemmas.Bool.{eqb-false, eqb-true, false≢true, or_left, or_right}
use Rattle.cg_group_state.specs.declared.calls.Calls.TheVariants.{Any, OfSession}
use Rattle.cg_group_state.specs.declared.effects.Effects.{Effects}
use Rattle.cg_group_state.specs.declared.group.Group.{Group}
use Rattle.cg_group_state.specs.declared.member.Member.{Member}
use Rattle.cg_group_state.specs.declared.turn.Turn.{Turn}
use Rattle.cg_group_state.specs.declared.member.Waits.{Waits}
use Rattle.cg_group_state.specs.declared.member.Waits.TheVariants.{Nothing, Join, Sync}
use Rattle.cg_request.specs.declared.request_fields.JoinRequest.{JoinRequest}
use Rattle.cg_request.specs.declared.request_fields.SyncRequest.{SyncRequest}
use Rattle.cg_request.specs.declared.ticket.Ticket.{Ticket}
use Rattle.cg_group_rules.specs.declared.sync.SyncCase.TheVariants.{Parked}
use Rattle.cg_group.specs.InPlace.{CameOn, IsCallOf, IsStepped, IsSync, Parks, parking_effects}
use Rattle.cg_group.specs.Machine.{concluded, sync}
use Rattle.cg_group_table.specs.declared.session_index.Home.{Home}
use Rattle.cg_group_table.specs.GroupChanges.{KeepsId, StepsTo}
use Rattle.cg_group_table.specs.GroupTable.{at_moment, find_group, outcome, with_group}
use Rattle.cg_group_table.specs.SessionIndex.{AreKnown, IsFilled, IsLetGo, IsTight, Known, is_home, is_parked}
use Rattle.cg_group_table.proofs.Finding.{find-own}
use Rattle.cg_group_table.proofs.InOrder.{found_named}
use Rattle.cg_group_table.proofs.KeptLists.{each-found, each-put}
use Rattle.cg_group_table.proofs.Mapped.{keeps_step}
use Rattle.cg_group_rules.specs.Join.{displaced, updating, waiting}
use Rattle.cg_group_state.specs.JoinTerms.{updated}
use Rattle.cg_group_state.specs.Waiting.{waits_with, called, is_waiting}
use Rattle.cg_group_state.specs.Membership.{find_member, has_id, heard, hearing, with_member}
use Rattle.cg_group_rules.specs.Rebalance.{turn_of, turned}
use Rattle.cg_group_state.proofs.Recalling.{find-with_member}
use Rattle.cg_group.proofs.InPlace.{sync_here}
use Rattle.cg_group.proofs.KnownSessions.{known-parked_join, known-parked_sync}
use Rattle.cg_group.proofs.Stepped.{concluded_stepped}
use Rattle.cg_group.proofs.TightIndex.{tight_parked}

-- a change of one member: who passed the test before passes it after, or is that member
any-or : (p : Member → Bool) (id : List ℕ) (change : Member → Member) (ms : List Member) (m : Member) → find_member id ms ≡ Some m → list_any p ms ≡ true → (list_any p (with_member id change ms) ≡ true) ⊎ (p m ≡ true)
unfolding find_member with_member
any-or p id change [] m e h = cc
any-or p id change (x ∷ xs) m e h =
    (elim (has_id id x) as (λ b. cond b (Some x) (find (has_id id) xs) ≡ Some m → (list_any p (if b then change x ∷ xs else x ∷ with_member id change xs) ≡ true) ⊎ (p m ≡ true)) [
      | true ↦ λ f.
          let same : x ≡ m = cc in
          (elim (p x) as (λ b. p x ≡ b → (b || list_any p xs) ≡ true → (list_any p (change x ∷ xs) ≡ true) ⊎ (p m ≡ true)) [
            | true ↦ λ t _. inr (ap p (sym same) ∙ t)
            | false ↦ λ t k. inl (or_right (p (change x)) (list_any p xs) k)
          ]) refl h
      | false ↦ λ f.
          (elim (p x) as (λ b. p x ≡ b → (b || list_any p xs) ≡ true → (list_any p (x ∷ with_member id change xs) ≡ true) ⊎ (p m ≡ true)) [
            | true ↦ λ t _. inl (or_left (p x) (list_any p (with_member id change xs)) t)
            | false ↦ λ t k.
                elim (any-or p id change xs m f k) as (λ _. (list_any p (x ∷ with_member id change xs) ≡ true) ⊎ (p m ≡ true)) [
                  | inl a ↦ inl (or_right (p x) (list_any p (with_member id change xs)) a)
                  | inr b ↦ inr b
                ]
          ]) refl h
    ]) e

-- the changed member passes a test that its change makes it pass
any-changed : (p : Member → Bool) (id : List ℕ) (change : Member → Member) → ((m : Member) → p (change m) ≡ true) → (ms : List Member) (m : Member) → find_member id ms ≡ Some m → list_any p (with_member id change ms) ≡ true
unfolding find_member with_member
any-changed p id change passes [] m e = cc
any-changed p id change passes (x ∷ xs) m e =
    (elim (has_id id x) as (λ b. cond b (Some x) (find (has_id id) xs) ≡ Some m → list_any p (if b then change x ∷ xs else x ∷ with_member id change xs) ≡ true) [
      | true ↦ λ f. or_left (p (change x)) (list_any p xs) (passes x)
      | false ↦ λ f. or_right (p x) (list_any p (with_member id change xs)) (any-changed p id change passes xs m f)
    ]) e

-- a change that leaves the parked calls alone
any-same : (p : Member → Bool) (id : List ℕ) (change : Member → Member) → ((m : Member) → p (change m) ≡ p m) → (ms : List Member) → list_any p (with_member id change ms) ≡ list_any p ms
unfolding with_member
any-same p id change keeps [] = refl
any-same p id change keeps (x ∷ xs) =
    elim (has_id id x) as (λ b. list_any p (if b then change x ∷ xs else x ∷ with_member id change xs) ≡ (p x || list_any p xs)) [
      | true ↦ ap (λ b. b || list_any p xs) (keeps x)
      | false ↦ ap (λ b. p x || b) (any-same p id change keeps xs)
    ]

-- the session of a parked call
pub of_session : (q : ℕ) (w : Waits) → is_some (called (OfSession q) w) ≡ true → CameOn (called Any w) q
of_session q Nothing e = absurd (false≢true e)
of_session q (Join t) e =
    (elim (t.session == q) as (λ b. (t.session == q) ≡ b → is_some (if b then Some t else None) ≡ true → Some t.session ≡ Some q) [
      | true ↦ λ s _. ap Some (eqb-true t.session q s)
      | false ↦ λ _ e. absurd (false≢true e)
    ]) refl e
of_session q (Sync t) e =
    (elim (t.session == q) as (λ b. (t.session == q) ≡ b → is_some (if b then Some t else None) ≡ true → Some t.session ≡ Some q) [
      | true ↦ λ s _. ap Some (eqb-true t.session q s)
      | false ↦ λ _ e. absurd (false≢true e)
    ]) refl e

same_session : (q : ℕ) → (q == q) ≡ true
same_session q = (elim (q == q) as (λ b. (q == q) ≡ b → b ≡ true) [ true ↦ λ _. refl | false ↦ λ e. absurd (eqb-false q q e refl) ]) refl

pub asked_join : (t : Ticket) → is_some (called (OfSession t.session) (Join t)) ≡ true
asked_join t = ap (λ b. is_some (if b then Some t else None)) (same_session t.session)

asked_sync : (t : Ticket) → is_some (called (OfSession t.session) (Sync t)) ≡ true
asked_sync t = ap (λ b. is_some (if b then Some t else None)) (same_session t.session)

-- a member that parks a call, after a change that leaves its parked call alone
module _ (now : ℕ) (id : List ℕ) (w : Waits) (ticket : Ticket) (asks : is_some (called (OfSession ticket.session) w) ≡ true)
    (first : Member → Member) (named : (m : Member) → (first m).id ≡ m.id) (calm : (m : Member) → (first m).waits ≡ m.waits)
    (ms : List Member) (m : Member) (found : find_member id ms ≡ Some m) (older : Option Ticket) (was : older ≡ called Any m.waits) where
  abbrev parked : List Member
  parked = with_member id (waits_with now w) (with_member id first ms)

  found_again : find_member id (with_member id first ms) ≡ Some (first m)
  found_again = find-with_member id first named ms m found

  pub asked-parked : list_any (is_waiting (OfSession ticket.session)) parked ≡ true
  asked-parked = any-changed (is_waiting (OfSession ticket.session)) id (waits_with now w) (λ x. asks) (with_member id first ms) (first m) found_again

  pub stays-parked : (q : ℕ) → list_any (is_waiting (OfSession q)) ms ≡ true → (list_any (is_waiting (OfSession q)) parked ≡ true) ⊎ CameOn older q
  stays-parked q h =
      elim (any-or (is_waiting (OfSession q)) id (waits_with now w) (with_member id first ms) (first m) found_again (any-same (is_waiting (OfSession q)) id first (λ x. ap (λ v. is_some (called (OfSession q) v)) (calm x)) ms ∙ h)) as (λ _. (list_any (is_waiting (OfSession q)) parked ≡ true) ⊎ CameOn older q) [
        | inl a ↦ inl a
        | inr b ↦
            let O : Option Ticket → Type 0 = λ o. CameOn o q in
            inr (subst O (sym was) (of_session q m.waits (ap (λ v. is_some (called (OfSession q) v)) (sym (calm m)) ∙ b)))
      ]

pub parks_join : (now : ℕ) (r : JoinRequest) (id : List ℕ) (ticket : Ticket) (older : Option Ticket) (g : Group) (m : Member) → find_member id g.members ≡ Some m → older ≡ called Any m.waits
    → Parks ticket older g (waiting now id (Join ticket) (turn_of (updating r id g))).group
unfolding waiting updating
parks_join now r id ticket older g m found was = record {
  asked = asked-parked now id (Join ticket) ticket (asked_join ticket) (updated r) (λ x. refl) (λ x. refl) g.members m found older was;
  stays = stays-parked now id (Join ticket) ticket (asked_join ticket) (updated r) (λ x. refl) (λ x. refl) g.members m found older was;
  known = λ sessions own h. known-parked_join sessions now r id ticket g own h;
}

pub parks_sync : (now : ℕ) (id : List ℕ) (ticket : Ticket) (older : Option Ticket) (g : Group) (m : Member) → find_member id g.members ≡ Some m → older ≡ called Any m.waits
    → Parks ticket older g (waiting now id (Sync ticket) (turn_of (hearing now id g))).group
unfolding waiting hearing
parks_sync now id ticket older g m found was = record {
  asked = asked-parked now id (Sync ticket) ticket (asked_sync ticket) (heard now) (λ x. refl) (λ x. refl) g.members m found older was;
  stays = stays-parked now id (Sync ticket) ticket (asked_sync ticket) (heard now) (λ x. refl) (λ x. refl) g.members m found older was;
  known = λ sessions own h. known-parked_sync sessions now id ticket g own h;
}

-- the group and the effects are those of the step
pub parked_join : (now : ℕ) (r : JoinRequest) (id : List ℕ) (ticket : Ticket) (older : Option Ticket) (g : Group) → IsCallOf older id g → (members : List Member) → members ≡ with_member id (waits_with now (Join ticket)) (with_member id (updated r) g.members) → (e : Effects) → e ≡ parking_effects older
    → turned (record g { members = members }) e ≡ waiting now id (Join ticket) (turn_of (updating r id g))
unfolding waiting updating
parked_join now r id ticket older g call members put e made =
    let changed : find_member id (updating r id g).members ≡ Some (updated r call.member) = find-with_member id (updated r) (λ x. refl) g.members call.member call.found in
    ap (λ ms. turned (record g { members = ms }) e) put
    ∙ ap (turned (waiting now id (Join ticket) (turn_of (updating r id g))).group) (made ∙ ap parking_effects call.called)
    ∙ sym (ap (λ o. turned (waiting now id (Join ticket) (turn_of (updating r id g))).group (record { commands = []; replies = displaced o })) changed)

pub parked_sync : (now : ℕ) (id : List ℕ) (ticket : Ticket) (older : Option Ticket) (g : Group) → IsCallOf older id g → (members : List Member) → members ≡ with_member id (waits_with now (Sync ticket)) (with_member id (heard now) g.members) → (e : Effects) → e ≡ parking_effects older
    → turned (record g { members = members }) e ≡ waiting now id (Sync ticket) (turn_of (hearing now id g))
unfolding waiting hearing
parked_sync now id ticket older g call members put e made =
    let changed : find_member id (hearing now id g).members ≡ Some (heard now call.member) = find-with_member id (heard now) (λ x. refl) g.members call.member call.found in
    ap (λ ms. turned (record g { members = ms }) e) put
    ∙ ap (turned (waiting now id (Sync ticket) (turn_of (hearing now id g))).group) (made ∙ ap parking_effects call.called)
    ∙ sym (ap (λ o. turned (waiting now id (Sync ticket) (turn_of (hearing now id g))).group (record { commands = []; replies = displaced o })) changed)

-- the session index, where a call is parked in place
module _ (own : List ℕ) (gs later : List Group) (g after : Group) (found : find_group own gs ≡ Some g) (keeps : after.id ≡ g.id) (put : later ≡ with_group after gs)
    (ticket : Ticket) (older : Option Ticket) (parks : Parks ticket older g after) where
  named : after.id ≡ own
  named = keeps ∙ found_named own gs g found

  pub known-displaced : (homes : ℕ → List ℕ → Bool) → homes ticket.session own ≡ true → AreKnown homes gs → AreKnown homes later
  known-displaced homes here h =
      let P : List Group → Type 0 = λ ks. AreKnown homes ks in
      let before : Known (λ s. homes s g.id) g = each-found (λ (k : Group). Known (λ s. homes s k.id) k) own gs g found h in
      let K : List ℕ → Type 0 = λ i. Known (λ s. homes s i) g in
      let H : List ℕ → Type 0 = λ i. homes ticket.session i ≡ true in
      let then_known : Known (λ s. homes s after.id) after = parks.known (λ s. homes s after.id) (subst H (sym named) here) (subst K (sym keeps) before) in
      subst P (sym put) (each-put (λ (k : Group). Known (λ s. homes s k.id) k) after gs then_known h)

  pub tight-displaced : (homes noted final : BTreeMap ℕ (BTreeMap (List ℕ) Home))
      → ((q : ℕ) (x : List ℕ) → is_home final q x ≡ true → is_home noted q x ≡ true)
      → ((q : ℕ) → IsFilled (get nat_cmp noted q) → IsFilled (get nat_cmp final q))
      → ((q : ℕ) (x : List ℕ) → is_home noted q x ≡ true → (is_home homes q x ≡ true) ⊎ ((ticket.session ≡ q) × (Some own ≡ Some x)))
      → ((q : ℕ) → IsFilled (get nat_cmp homes q) → IsFilled (get nat_cmp noted q))
      → ((q : ℕ) → CameOn older q → IsLetGo final later own q)
      → IsTight homes gs → IsTight final later
  tight-displaced homes noted final fewer filled new also gone tight =
      let there : find_group own later ≡ Some after = ap (find_group own) put ∙ ap (λ i. find_group i (with_group after gs)) (sym named) ∙ find-own after gs in
      let asked : is_parked ticket.session (find_group own later) ≡ true = ap (is_parked ticket.session) there ∙ parks.asked in
      let A : List ℕ → Type 0 = λ y. is_parked ticket.session (find_group y later) ≡ true in
      tight_parked homes noted final gs later fewer filled (Some own) ticket.session new also (λ x e here. let same : own ≡ x = cc in subst A same asked) tight (Some g)
      (λ q x e p here.
      let same : own ≡ x = cc in
      let B : List ℕ → Type 0 = λ y. is_parked q (find_group y later) ≡ true in
      let C : List ℕ → Type 0 = λ y. is_home final q y ≡ true in
      elim (parks.stays q p) as (λ _. is_parked q (find_group x later) ≡ true) [
        | inl a ↦ subst B same (ap (is_parked q) there ∙ a)
        | inr o ↦ subst B same (gone q o (subst C (sym same) here))
      ])
      (Ok (turn_of after)) (ap Some (sym named)) put (sym found ∙ ap (λ i. find_group i gs) (sym named))

-- these steps keep the id of their group
id-join : (now : ℕ) (r : JoinRequest) (id : List ℕ) (ticket : Ticket) (g : Group) → (waiting now id (Join ticket) (turn_of (updating r id g))).group.id ≡ g.id
unfolding waiting updating
id-join now r id ticket g = refl

pub keeps_join : {E : Type 0} (now : ℕ) (r : JoinRequest) (id : List ℕ) (ticket : Ticket) → KeepsId (λ g. StepsTo {E = E} (λ t. t ≡ waiting now id (Join ticket) (turn_of (updating r id g))) g)
keeps_join now r id ticket = keeps_step (λ g t. t ≡ waiting now id (Join ticket) (turn_of (updating r id g))) (λ g t is. ap (λ (u : Turn). u.group.id) is ∙ id-join now r id ticket g)

id-sync : (now : ℕ) (id : List ℕ) (ticket : Ticket) (g : Group) → (waiting now id (Sync ticket) (turn_of (hearing now id g))).group.id ≡ g.id
unfolding waiting hearing
id-sync now id ticket g = refl

pub keeps_sync : {E : Type 0} (now : ℕ) (id : List ℕ) (ticket : Ticket) → KeepsId (λ g. StepsTo {E = E} (λ t. t ≡ waiting now id (Sync ticket) (turn_of (hearing now id g))) g)
keeps_sync now id ticket = keeps_step (λ g t. t ≡ waiting now id (Sync ticket) (turn_of (hearing now id g))) (λ g t is. ap (λ (u : Turn). u.group.id) is ∙ id-sync now id ticket g)

-- a step that parks a JOIN, or a SYNC
pub parks_joined : (now : ℕ) (r : JoinRequest) (id : List ℕ) (ticket : Ticket) (older : Option Ticket) (g after : Group) (e : Effects) → IsCallOf older id g → turned after e ≡ waiting now id (Join ticket) (turn_of (updating r id g)) → Parks ticket older g after
parks_joined now r id ticket older g after e call is =
    let P : Group → Type 0 = λ k. Parks ticket older g k in
    subst P (sym (ap (λ (t : Turn). t.group) is)) (parks_join now r id ticket older g call.member call.found call.called)

module _ (now : ℕ) (r : SyncRequest) (ticket : Ticket) (groups : List Group) (own id : List ℕ) (older : Option Ticket) (at : IsSync r groups own id (Parked older)) where
  call_here : IsCallOf older id at.group
  call_here = record { member = at.member; found = at.found; called = at.processed.0 }

  -- the loaded group with its id is the one that the request names
  same : (g : Group) → find_group own groups ≡ Some g → at.group ≡ g
  same g found = let is : Some at.group ≡ Some g = sym at.named.found ∙ found in cc

  pub call_of_sync : (g : Group) → find_group own groups ≡ Some g → IsCallOf older id g
  call_of_sync g found = let P : Group → Type 0 = λ k. IsCallOf older id k in subst P (same g found) call_here

  pub parks_synced : (g after : Group) (e : Effects) → find_group own groups ≡ Some g → turned after e ≡ waiting now id (Sync ticket) (turn_of (hearing now id g)) → Parks ticket older g after
  parks_synced g after e found is =
      let call = call_of_sync g found in
      let P : Group → Type 0 = λ k. Parks ticket older g k in
      subst P (sym (ap (λ (t : Turn). t.group) is)) (parks_sync now id ticket older g call.member call.found call.called)

  pub sync_is_parked : {E : Type 0} (later : List Group) (e : Effects) → IsStepped {E = E} (λ g. StepsTo (λ t. t ≡ waiting now id (Sync ticket) (turn_of (hearing now id g))) g) own groups later e → concluded (at_moment now groups) ticket (sync now r ticket groups) ≡ outcome (at_moment now later) e
  sync_is_parked later e s =
      concluded_stepped (λ g t. t ≡ waiting now id (Sync ticket) (turn_of (hearing now id g))) own groups later e s (sync now r ticket groups)
      (λ g found t is. sync_here now r ticket groups own id (Parked older) at ∙ ap Ok (at.processed.1 now r id ticket) ∙ ap (λ k. Ok (waiting now id (Sync ticket) (turn_of (hearing now id k)))) (same g found) ∙ ap Ok (sym is))
      now ticket
