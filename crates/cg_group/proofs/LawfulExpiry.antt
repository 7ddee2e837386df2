-- A tick takes away only what is stale.
use Rattle.std.proofs.Common.{◌≡◌, ℕ, zero, suc, Bool, true, false, List, [], ◌∷◌, ◌++◌, cond, drop, filter, is_some, map, max, refl, sym, ap, ◌∙◌, subst, take, Option, Some, None, Result, Ok, Err}
use Rattle.std.specs.List.{flat_map}
use Rattle.std.proofs.Math.Dec.{T}
use Rattle.std.proofs.lemmas.Slice.Eq.{bytes_eq-Decides}
use Rattle.std.specs.Cmp.{eq_by_cmp_equiv}
use Rattle.std.specs.FinMap as finmap
use Rattle.std.specs.FinMap.{find, is_sorted}
use Rattle.std.specs.FinMap.Entries.{below_all}
use Rattle.std.specs.Ordering.{is_eq, is_lt, ordering_reverse}
use Rattle.std.specs.declared.cmp.Ordering.TheVariants.{Greater}
use Rattle.std.specs.Prelude.{if◌then◌else◌}
use Rattle.std.proofs.lemmas.Bool.{and_parts, false≢true}
use Rattle.cg_names.specs.declared.code.Code.{Code}
use Rattle.cg_record.specs.declared.command.Command.{Command}
use Rattle.cg_record.specs.declared.command.Command.TheVariants as command
use Rattle.cg_record.specs.declared.entries.TheConstants.{ENTRIES_MAX}
use Rattle.cg_record.specs.declared.topic_partition.TopicPartition.{TopicPartition}
use Rattle.cg_fold.specs.declared.group_record.GroupRecord.{GroupRecord}
use Rattle.cg_fold.specs.declared.group_record.RecordedMembers.{RecordedMembers}
use Rattle.cg_fold.specs.declared.group_record.RecordedMembers.TheVariants as recorded
use Rattle.cg_fold.specs.Durable.{State}
use Rattle.cg_fold.specs.Key.{KeptOffset, KeptRow, key_cmp, key_of, without_group_id}
use Rattle.cg_fold.specs.Snapshot.{is_of_group, offsets_in}
use Rattle.cg_fold.proofs.KeyOrder.{key_total}
use Rattle.cg_fold.proofs.Place.{both, less}
use Rattle.cg_request.specs.declared.event.Event.{Event}
use Rattle.cg_request.specs.declared.event.Event.TheVariants as event
use Rattle.cg_request.specs.declared.ticket.Ticket.{Ticket}
use Rattle.cg_group_state.specs.declared.group.Group.{Group}
use Rattle.cg_group_state.specs.declared.group.Phase.{Phase}
use Rattle.cg_group_state.specs.declared.group.Phase.TheVariants.{Empty, Preparing, Completing, Stable}
use Rattle.cg_group_state.specs.declared.turn.Turn.{Turn}
use Rattle.cg_group_state.specs.Offsets.{OffsetMap}
use Rattle.cg_group_rules.specs.Tick.{ticked}
use Rattle.cg_group_table.specs.Expiry.{expiries, expiring, expiring_as, expiring_if, is_idle, is_stale, is_stale_row, is_vacant, stale_of, swept, tick}
use Rattle.cg_group_table.specs.GroupTable.{Machine, everywhere}
use Rattle.cg_group_table.specs.Kept.{Each, kept_in}
use Rattle.cg_group_table.specs.Recovery.{revive}
use Rattle.cg_group_table.specs.declared.expiry.TheConstants.{EXPIRED_COMMANDS_MAX}
use Rattle.cg_group_table.proofs.Framed.{each-append}
use Rattle.cg_group.specs.Laws.{AgreesIn, AreRequests, ExpiryIsLawful, IsDueIn, IsRecordedAs, IsStaleOffset, IsStaleRecord, TellsOf, after_all, state_after}
use Rattle.cg_group.specs.Machine.{beat, commit, concluded, deleted, dropped, join, leave, memberless, handled, step, sync}
use Rattle.cg_group_state.specs.Membership.{is_empty}
use Rattle.cg_group.proofs.AgreeingMachine.{machine_and_commands_agree}
use Rattle.cg_group.proofs.AgreeingTick.{idle_is}
use Rattle.cg_group.proofs.Making.{makes-ticked}

-- the moment of loading does not change

loaded-concluded : (s : Machine) (ticket : Ticket) (o : Result Turn Code) → (concluded s ticket o).after.loaded ≡ s.loaded
unfolding concluded
loaded-concluded s ticket (Ok t) = refl
loaded-concluded s ticket (Err code) = refl

loaded-deleted : (s : Machine) (ticket : Ticket) (o : Result (List ℕ) Code) → (deleted s ticket o).after.loaded ≡ s.loaded
unfolding deleted
loaded-deleted s ticket (Ok id) = refl
loaded-deleted s ticket (Err code) = refl

loaded-dropped : (s : Machine) (ticket : Ticket) (partitions : List TopicPartition) (o : Result (List ℕ) Code) → (dropped s ticket partitions o).after.loaded ≡ s.loaded
unfolding dropped
loaded-dropped s ticket partitions (Ok id) = refl
loaded-dropped s ticket partitions (Err code) = refl

loaded-met : (s : Machine) (e : Event) → (handled s e).after.loaded ≡ s.loaded
unfolding handled everywhere tick
loaded-met s (event.Join ticket r fresh) = loaded-concluded s ticket (join s.last r fresh ticket s.groups)
loaded-met s (event.Sync ticket r) = loaded-concluded s ticket (sync s.last r ticket s.groups)
loaded-met s (event.Beat ticket r) = loaded-concluded s ticket (beat s.last r ticket s.groups)
loaded-met s (event.Leave ticket r) = loaded-concluded s ticket (leave s.last r ticket s.groups)
loaded-met s (event.Commit ticket r) = loaded-concluded s ticket (commit s.last r ticket s.groups)
loaded-met s (event.Fetch ticket r) = refl
loaded-met s (event.Delete ticket id) = loaded-deleted s ticket (memberless id s.groups)
loaded-met s (event.Drop ticket r) = loaded-dropped s ticket r.partitions (memberless r.group s.groups)
loaded-met s (event.Describe ticket id) = refl
loaded-met s (event.List ticket) = refl
loaded-met s (event.Gone session) = refl
loaded-met s event.Tick = refl

loaded-step : (s : Machine) (e : Event) (m : ℕ) → (step s e m).after.loaded ≡ s.loaded
unfolding step
loaded-step s e m = loaded-met (record s { last = max s.last m }) e

loaded-after_all : (events : List (Event × ℕ)) (s : Machine) → (after_all events s).loaded ≡ s.loaded
unfolding after_all
loaded-after_all [] s = refl
loaded-after_all (e ∷ es) s = loaded-after_all es (step s e.0 e.1).after ∙ loaded-step s e.0 e.1

loaded-revive : (state : State) (now : ℕ) → (revive state now).loaded ≡ now
unfolding revive
loaded-revive state now = refl

-- what expires in a group

each-take : {X : Type 0} (P : X → Type 0) (n : ℕ) (xs : List X) → Each P xs → Each P (take n xs)
each-take P zero xs h = tt
each-take P (suc n) [] h = tt
each-take P (suc n) (x ∷ xs) h = (h.0, each-take P n xs h.1)

each-drop : {X : Type 0} (P : X → Type 0) (n : ℕ) (xs : List X) → Each P xs → Each P (drop n xs)
each-drop P zero xs h = h
each-drop P (suc n) [] h = tt
each-drop P (suc n) (x ∷ xs) h = each-drop P n xs h.1

each-filtered : {X : Type 0} (P : X → Type 0) (q : X → Bool) (xs : List X) → Each P xs → Each (λ x. P x × (q x ≡ true)) (filter q xs)
each-filtered P q [] h = tt
each-filtered P q (x ∷ xs) h =
    (elim (q x) as (λ b. q x ≡ b → Each (λ x. P x × (q x ≡ true)) (cond b (x ∷ filter q xs) (filter q xs))) [
      | true ↦ λ e. ((h.0, e), each-filtered P q xs h.1)
      | false ↦ λ _. each-filtered P q xs h.1
    ]) refl

each-mapped : {X Y : Type 0} (f : X → Y) (P : X → Type 0) (Q : Y → Type 0) → ((x : X) → P x → Q (f x)) → (xs : List X) → Each P xs → Each Q (map f xs)
each-mapped f P Q over [] h = tt
each-mapped f P Q over (x ∷ xs) h = (over x h.0, each-mapped f P Q over xs h.1)

-- each offset of a group is found by its key

behind : (x : KeptOffset) (es fs : List KeptOffset) → T (below_all key_cmp x.0 fs) → Each (λ k. find key_cmp k.0 es ≡ Some k.1) fs → Each (λ k. find key_cmp k.0 (x ∷ es) ≡ Some k.1) fs
behind x es [] below h = tt
behind x es (k ∷ fs) below h =
    let parts = both (is_lt (key_cmp x.0 k.0)) (below_all key_cmp x.0 fs) below in
    let after : key_cmp k.0 x.0 ≡ Greater = key_total.antisymm k.0 x.0 ∙ ap ordering_reverse (less (key_cmp x.0 k.0) parts.0) in
    (ap (λ o. cond (is_eq o) (Some x.1) (find key_cmp k.0 es)) after ∙ h.0, behind x es fs parts.1 h.1)

found-entries : (es : List KeptOffset) → T (is_sorted key_cmp es) → Each (λ k. find key_cmp k.0 es ≡ Some k.1) es
found-entries [] sorted = tt
found-entries (x ∷ es) sorted =
    let parts = both (below_all key_cmp x.0 es) (is_sorted key_cmp es) sorted in
    (ap (λ b. cond b (Some x.1) (find key_cmp x.0 es)) ((eq_by_cmp_equiv key_total).refl x.0), behind x es es parts.0 (found-entries es parts.1))

pub found-offsets_in : (group : List ℕ) (offsets : OffsetMap) → Each (λ (row : KeptRow). finmap.get offsets (key_of group row.0) ≡ Some row.1) (offsets_in offsets group)
found-offsets_in group offsets =
    each-mapped without_group_id (λ (k : KeptOffset). (find key_cmp k.0 (finmap.entries offsets) ≡ Some k.1) × (is_of_group group k.0 ≡ true)) (λ row. finmap.get offsets (key_of group row.0) ≡ Some row.1)
    (λ k h.
    let own : k.0.group ≡ group = (bytes_eq-Decides k.0.group group).0 h.1 in
    ap (λ g. finmap.get offsets (key_of g k.0.partition)) (sym own) ∙ finmap.get-entries offsets k.0 ∙ h.0)
    (filter (λ k. is_of_group group k.0) (finmap.entries offsets))
    (each-filtered (λ (k : KeptOffset). find key_cmp k.0 (finmap.entries offsets) ≡ Some k.1) (λ k. is_of_group group k.0) (finmap.entries offsets) (found-entries (finmap.entries offsets) (finmap.entries_sorted offsets)))

module _ (state : State) (loaded now : ℕ) where
  abbrev Due : Command → Type 0
  Due c = IsDueIn state loaded now c

  due-expiries : (most : ℕ) (group : List ℕ) (ps : List TopicPartition) → kept_in state group ≡ None → Each (IsStaleOffset state loaded now group) ps → Each Due (expiries most group ps)
  unfolding expiries
  due-expiries zero group ps none h = tt
  due-expiries (suc most) group [] none h = tt
  due-expiries (suc most) group (p ∷ ps) none h =
      ((none, each-take (IsStaleOffset state loaded now group) ENTRIES_MAX (p ∷ ps) h), due-expiries most group (drop ENTRIES_MAX (p ∷ ps)) none (each-drop (IsStaleOffset state loaded now group) ENTRIES_MAX (p ∷ ps) h))

  stale-rows : (group : List ℕ) → Each (IsStaleOffset state loaded now group) (stale_of loaded now (offsets_in state.offsets group))
  stale-rows group =
      each-mapped (λ (row : KeptRow). row.0) (λ row. (finmap.get state.offsets (key_of group row.0) ≡ Some row.1) × (is_stale_row loaded now row ≡ true)) (IsStaleOffset state loaded now group)
      (λ row h. record { stored = row.1; found = h.0; stale = h.1 })
      (filter (is_stale_row loaded now) (offsets_in state.offsets group))
      (each-filtered (λ (row : KeptRow). finmap.get state.offsets (key_of group row.0) ≡ Some row.1) (is_stale_row loaded now) (offsets_in state.offsets group) (found-offsets_in group state.offsets))

  due-recorded : (g : Group) (r : GroupRecord) (m : RecordedMembers) → kept_in state g.id ≡ Some r → r.members ≡ m → g.phase ≡ Empty → IsRecordedAs r m g → is_stale loaded now g.emptied ≡ true → IsStaleRecord state loaded now g.id
  due-recorded g r (recorded.Roster roster) found is phase h stale = let bad : Stable ≡ Empty = sym h.phase ∙ phase in cc
  due-recorded g r (recorded.Empty moment) found is phase h stale = record { entry = r; found = found; moment = moment; empty = is; stale = ap (is_stale loaded now) (sym h.emptied) ∙ stale }

  due-record : (g : Group) (o : Option GroupRecord) → kept_in state g.id ≡ o → is_some g.kind ≡ true → g.phase ≡ Empty → TellsOf g o → is_stale loaded now g.emptied ≡ true → IsStaleRecord state loaded now g.id
  due-record g None found kind phase h stale = absurd (false≢true (sym (ap is_some h.kind) ∙ kind))
  due-record g (Some r) found kind phase h stale = due-recorded g r r.members found refl phase h stale

  none-recorded : (g : Group) (r : GroupRecord) (m : RecordedMembers) → is_some g.kind ≡ false → IsRecordedAs r m g → Some r ≡ None
  none-recorded g r (recorded.Roster roster) kind h = absurd (false≢true (sym kind ∙ ap is_some (sym h.kind)))
  none-recorded g r (recorded.Empty moment) kind h = absurd (false≢true (sym kind ∙ ap is_some (sym h.kind)))

  none-told : (g : Group) (o : Option GroupRecord) → is_some g.kind ≡ false → TellsOf g o → o ≡ None
  none-told g None kind h = refl
  none-told g (Some r) kind h = none-recorded g r r.members kind h

  due-expiring_as : (b : Bool) (g : Group) → is_some g.kind ≡ b → g.phase ≡ Empty → TellsOf g (kept_in state g.id) → Each Due (expiring_as b loaded now state.offsets g)
  unfolding expiring_as
  due-expiring_as true g kind phase h =
      (elim (is_stale loaded now g.emptied) as (λ b. is_stale loaded now g.emptied ≡ b → Each Due (if b then command.Deleted (record { group = g.id }) ∷ [] else [])) [
        | true ↦ λ stale. (due-record g (kept_in state g.id) refl kind phase h stale, tt)
        | false ↦ λ _. tt
      ]) refl
  due-expiring_as false g kind phase h = due-expiries EXPIRED_COMMANDS_MAX g.id (stale_of loaded now (offsets_in state.offsets g.id)) (none-told g (kept_in state g.id) kind h) (stale-rows g.id)

  told-in : (p : Phase) (g : Group) → p ≡ Empty → AgreesIn p g (kept_in state g.id) → TellsOf g (kept_in state g.id)
  told-in Empty g is h = h
  told-in Stable g is h = h
  told-in Preparing g is h = cc
  told-in Completing g is h = cc

  due-expiring_if : (b : Bool) (g : Group) → is_vacant g ≡ b → AgreesIn g.phase g (kept_in state g.id) → Each Due (expiring_if b loaded now state.offsets g)
  unfolding expiring_if
  due-expiring_if true g vacant h =
      let phase : g.phase ≡ Empty = idle_is g.phase (and_parts (is_idle g.phase) (is_empty g.members) vacant).0 in
      due-expiring_as (is_some g.kind) g refl phase (told-in g.phase g phase h)
  due-expiring_if false g vacant h = tt

  due-all : (gs : List Group) → Each (λ g. AgreesIn g.phase g (kept_in state g.id)) gs → Each Due (flat_map (λ g. (swept loaded now state.offsets g).commands) gs)
  due-all [] h = tt
  due-all (g ∷ gs) h =
      each-append Due ((ticked now g).commands ++ expiring loaded now state.offsets g) (flat_map (λ g. (swept loaded now state.offsets g).commands) gs)
      (each-append Due (ticked now g).commands (expiring loaded now state.offsets g) (makes-ticked Due (λ _ _. tt) (λ _ _. tt) now g) (due-expiring_if (is_vacant g) g refl h.0))
      (due-all gs h.1)

  due-tick : (s : Machine) → s.offsets ≡ state.offsets → s.loaded ≡ loaded → s.last ≡ now → Each (λ g. AgreesIn g.phase g (kept_in state g.id)) s.groups → Each Due (tick s).effects.commands
  unfolding tick
  due-tick s offsets load last told =
      let P : OffsetMap → Type 0 = λ o. Each Due (flat_map (λ g. (swept s.loaded s.last o g).commands) s.groups) in
      let Q : ℕ → Type 0 = λ l. Each Due (flat_map (λ g. (swept l s.last state.offsets g).commands) s.groups) in
      let R : ℕ → Type 0 = λ n. Each Due (flat_map (λ g. (swept loaded n state.offsets g).commands) s.groups) in
      subst P (sym offsets) (subst Q (sym load) (subst R (sym last) (due-all s.groups told)))

pub expiry_is_lawful : (events : List (Event × ℕ)) → AreRequests events → ExpiryIsLawful events
unfolding step handled
expiry_is_lawful events asked state now m =
    let s : Machine = after_all events (revive state now) in
    let agrees = (machine_and_commands_agree events asked state now).agrees in
    due-tick (state_after state now events) now (max s.last m) (record s { last = max s.last m }) agrees.offsets (loaded-after_all events (revive state now) ∙ loaded-revive state now) refl agrees.told
