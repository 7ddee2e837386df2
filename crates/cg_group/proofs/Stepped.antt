-- A loaded group that is changed in place by a step: the groups, the effects and the session index after it.
use Rattle.std.proofs.Common.{◌≡◌, ℕ, Bool, true, List, is_some, Option, Some, None, Result, Ok, Err, refl, sym, ap, ◌∙◌, subst}
use Rattle.std.specs.Prelude.{◌⊎◌, IfOk, OnErr}
use Rattle.std.proofs.lemmas.Bool.{false≢true}
use Rattle.std.specs.BTreeMap.{BTreeMap, get}
use Rattle.std.specs.Ordering.{nat_cmp}
use Rattle.cg_names.specs.declared.code.Code.{Code}
use Rattle.cg_group_state.specs.declared.effects.Effects.{Effects}
use Rattle.cg_group_state.specs.declared.group.Group.{Group}
use Rattle.cg_group_state.specs.declared.turn.Turn.{Turn}
use Rattle.cg_group_rules.specs.Rebalance.{turned}
use Rattle.cg_request.specs.declared.event.Event.TheVariants as event
use Rattle.cg_request.specs.declared.request_fields.LeaveRequest.{LeaveRequest}
use Rattle.cg_request.specs.declared.request_fields.SyncRequest.{SyncRequest}
use Rattle.cg_request.specs.declared.ticket.Ticket.{Ticket}
use Rattle.cg_group.specs.InPlace.{IsStepped, ParksKnown, StepKnown, StepParks}
use Rattle.cg_group.specs.Machine.{concluded, leave, handled, sync}
use Rattle.cg_group_table.specs.declared.session_index.Home.{Home}
use Rattle.cg_group_table.specs.GroupChanges.{FailsUnchanged, IsChanged, StepsTo, effects_in}
use Rattle.cg_group_table.specs.GroupTable.{InOrder, IsHeld, at_moment, find_group, outcome, with_group}
use Rattle.cg_group_table.specs.Kept.{Each}
use Rattle.cg_group_table.specs.SessionIndex.{AreKnown, IsFilled, IsLetGo, IsTight, is_home, is_parked, parked_calls}
use Rattle.cg_group_table.proofs.InOrder.{found_named, with_group-found}
use Rattle.cg_group_table.proofs.Tight.{at_parked}
use Rattle.cg_group.proofs.KnownSessions.{known-after, parks-sync}
use Rattle.cg_group.proofs.TightIndex.{tight_left, tight_parked}

-- the outcome of a step
pub concluded_step : (now : ℕ) (groups after : List Group) (ticket : Ticket) (t : Turn) (e : Effects) → after ≡ with_group t.group groups → e ≡ effects_in t → concluded (at_moment now groups) ticket (Ok t) ≡ outcome (at_moment now after) e
unfolding concluded
concluded_step now groups after ticket t e put made = ap (λ gs. outcome (at_moment now gs) (effects_in t)) (sym put) ∙ ap (outcome (at_moment now after)) (sym made)

-- the step of a request whose call may be parked
pub step_parks : (now : ℕ) (groups : List Group) (ticket : Ticket) (o : Result Turn Code) (t : Turn) → o ≡ Ok t → ParksKnown now groups ticket o → StepParks groups ticket t
step_parks now groups ticket o t is parks homes noted h =
    let P : Result Turn Code → Type 0 = λ o. ParksKnown now groups ticket o in
    subst P is parks homes (with_group t.group groups) (effects_in t)
    (λ x e. let same : t.group.id ≡ x = cc in let H : List ℕ → Type 0 = λ i. homes ticket.session i ≡ true in subst H same noted)
    (concluded_step now groups (with_group t.group groups) ticket t (effects_in t) refl refl) h

-- such a request: SYNC
pub sync_parks : (now : ℕ) (r : SyncRequest) (ticket : Ticket) (groups : List Group) (t : Turn) → sync now r ticket groups ≡ Ok t → StepParks groups ticket t
sync_parks now r ticket groups t is = step_parks now groups ticket (sync now r ticket groups) t is (parks-sync now groups ticket r)

-- a request that parks no call: LEAVE
pub leave_known : (now : ℕ) (r : LeaveRequest) (ticket : Ticket) (groups : List Group) (t : Turn) → leave now r ticket groups ≡ Ok t → StepKnown groups t
unfolding handled
leave_known now r ticket groups t is homes h =
    known-after homes now groups (with_group t.group groups) (event.Leave ticket r) (effects_in t) tt
    (ap (concluded (at_moment now groups) ticket) is ∙ concluded_step now groups (with_group t.group groups) ticket t (effects_in t) refl refl) h

-- a step that may have failed
module _ {E : Type 0} (becomes : Group → Group → Result Effects E → Type 0) (fails : FailsUnchanged becomes) (own : List ℕ) (gs later : List Group) (loaded : IsHeld gs own) (o : InOrder gs) where
  abbrev pub Changed : Result Effects E → Type 0
  Changed r = (g : Group) → find_group own gs ≡ Some g → IsChanged becomes gs later g r

  with_loaded : {A : Type 0} → ((g : Group) → find_group own gs ≡ Some g → A) → A
  with_loaded {A = A} k = go (find_group own gs) refl loaded
    where
      go : (o : Option Group) → find_group own gs ≡ o → is_some o ≡ true → A
      go None e h = absurd (false≢true h)
      go (Some g) e h = k g e

  is_stepped : (e : Effects) → Changed (Ok e) → IsStepped becomes own gs later e
  is_stepped e changed = with_loaded (λ g found. record { group = g; found = found; changed = changed g found })

  not_stepped : (x : E) → Changed (Err x) → later ≡ gs
  not_stepped x changed = with_loaded (λ g found. let c = changed g found in c.put ∙ ap (λ k. with_group k gs) (fails g c.after x c.became) ∙ with_group-found own gs g o found)

  pub stepped_as : (r : Result Effects E) → Changed r → (e : Effects) → r ≡ Ok e → IsStepped becomes own gs later e
  stepped_as r changed e is = is_stepped e (λ g found. let P : Result Effects E → Type 0 = λ x. IsChanged becomes gs later g x in subst P is (changed g found))

  pub unstepped_as : (r : Result Effects E) → Changed r → (x : E) → r ≡ Err x → later ≡ gs
  unstepped_as r changed x is = not_stepped x (λ g found. let P : Result Effects E → Type 0 = λ y. IsChanged becomes gs later g y in subst P is (changed g found))

  pub stepped_ok : (r : Result Effects E) → Changed r → IfOk r (IsStepped becomes own gs later)
  stepped_ok (Ok e) changed = is_stepped e changed
  stepped_ok (Err x) changed = tt

  pub stepped_err : (r : Result Effects E) → Changed r → OnErr r (later ≡ gs)
  stepped_err (Ok e) changed = tt
  stepped_err (Err x) changed = not_stepped x changed

  pub on_stepped : {A : Type 0} (r : Result Effects E) → Changed r → ((e : Effects) → IsStepped becomes own gs later e → A) → (later ≡ gs → A) → A
  on_stepped (Ok e) changed ok err = ok e (is_stepped e changed)
  on_stepped (Err x) changed ok err = err (not_stepped x changed)

-- the outcome of a request that came to a step
pub concluded_stepped : {E : Type 0} (kind : Group → Turn → Type 0) (own : List ℕ) (gs later : List Group) (e : Effects) → IsStepped {E = E} (λ g. StepsTo (kind g) g) own gs later e
    → (o : Result Turn Code) → ((g : Group) → find_group own gs ≡ Some g → (t : Turn) → kind g t → o ≡ Ok t) → (now : ℕ) (ticket : Ticket) → concluded (at_moment now gs) ticket o ≡ outcome (at_moment now later) e
concluded_stepped kind own gs later e s o is now ticket =
    let t : Turn = turned s.changed.after e in
    ap (concluded (at_moment now gs) ticket) (is s.group s.found t s.changed.became) ∙ concluded_step now gs later ticket t e s.changed.put refl

-- a session that asked
pub asked_at : (final : BTreeMap ℕ (BTreeMap (List ℕ) Home)) (later : List Group) (own : List ℕ) (session : ℕ) → IsLetGo final later own session → (x : List ℕ) → Some own ≡ Some x → IsLetGo final later x session
asked_at final later own session asked x e = let same : own ≡ x = cc in let P : List ℕ → Type 0 = λ i. IsLetGo final later i session in subst P same asked

-- this loaded group had this step
module _ (own : List ℕ) (gs later : List Group) (g : Group) (found : find_group own gs ≡ Some g) (t : Turn) (keeps : t.group.id ≡ g.id) (put : later ≡ with_group t.group gs) where
  named : t.group.id ≡ own
  named = keeps ∙ found_named own gs g found

  was : Some g ≡ find_group t.group.id gs
  was = sym found ∙ ap (λ i. find_group i gs) (sym named)

  pub known-stepped : (homes : ℕ → List ℕ → Bool) → StepKnown gs t → AreKnown homes gs → AreKnown homes later
  known-stepped homes leaves h = let P : List Group → Type 0 = λ ks. AreKnown homes ks in subst P (sym put) (leaves homes h)

  pub known-parked : (homes : ℕ → List ℕ → Bool) (ticket : Ticket) → StepParks gs ticket t → homes ticket.session own ≡ true → AreKnown homes gs → AreKnown homes later
  known-parked homes ticket parks noted h =
      let P : List Group → Type 0 = λ ks. AreKnown homes ks in
      let H : List ℕ → Type 0 = λ i. homes ticket.session i ≡ true in
      subst P (sym put) (parks homes (subst H (sym named) noted) h)

  -- the sessions of the calls that were parked
  module _ (final : BTreeMap ℕ (BTreeMap (List ℕ) Home)) (gone : Each (λ (c : Ticket). IsLetGo final later own c.session) (parked_calls g.members)) where
    gone_at : (q : ℕ) (x : List ℕ) → own ≡ x → is_parked q (Some g) ≡ true → IsLetGo final later x q
    gone_at q x same parked = let P : List ℕ → Type 0 = λ i. IsLetGo final later i q in subst P same (at_parked (λ r. IsLetGo final later own r) q g.members gone parked)

    pub tight-left : (homes : BTreeMap ℕ (BTreeMap (List ℕ) Home))
        → ((q : ℕ) (x : List ℕ) → is_home final q x ≡ true → is_home homes q x ≡ true)
        → ((q : ℕ) → IsFilled (get nat_cmp homes q) → IsFilled (get nat_cmp final q))
        → IsTight homes gs → IsTight final later
    tight-left homes fewer filled tight =
        tight_left homes final gs later fewer filled tight (Ok t) (Some g) put was
        (λ k e q parked. let same : g ≡ k = cc in let own_is : own ≡ k.id = sym (found_named own gs g found) ∙ ap (λ (y : Group). y.id) same in let W : Group → Type 0 = λ y. is_parked q (Some y) ≡ true in gone_at q k.id own_is (subst W (sym same) parked))

    -- where the session of the request was added first
    pub tight-parked : (homes0 homes1 : BTreeMap ℕ (BTreeMap (List ℕ) Home)) (session : ℕ)
        → ((q : ℕ) (x : List ℕ) → is_home final q x ≡ true → is_home homes1 q x ≡ true)
        → ((q : ℕ) → IsFilled (get nat_cmp homes1 q) → IsFilled (get nat_cmp final q))
        → ((q : ℕ) (x : List ℕ) → is_home homes1 q x ≡ true → (is_home homes0 q x ≡ true) ⊎ ((session ≡ q) × (Some own ≡ Some x)))
        → ((q : ℕ) → IsFilled (get nat_cmp homes0 q) → IsFilled (get nat_cmp homes1 q))
        → IsLetGo final later own session → IsTight homes0 gs → IsTight final later
    tight-parked homes0 homes1 session fewer filled noted also_filled asked tight =
        tight_parked homes0 homes1 final gs later fewer filled (Some own) session noted also_filled (asked_at final later own session asked) tight (Some g)
        (λ q x e parked. let same : own ≡ x = cc in gone_at q x same parked) (Ok t) (ap Some (sym named)) put was
