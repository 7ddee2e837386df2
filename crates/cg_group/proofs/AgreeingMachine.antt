-- Machine and commands agree after each event, and so after every list of events.
use Rattle.std.proofs.Common.{◌≡◌, ◌≤◌, ℕ, arith, length, inl, inr, Result, Ok, Err, Bool, true, false, ◌&&◌, ◌||◌, List, [], ◌∷◌, ◌++◌, append_assoc, append-nil, map, cond, is_some, refl, sym, ap, ◌∙◌, subst, max, nat_eq, Option, Some, None}
use Rattle.std.specs.List.{list_any}
use Rattle.std.proofs.lemmas.Bool.{and_from, or_left, or_right, false≢true}
use Rattle.std.proofs.lemmas.Cmp.{nat_eq_equiv, nat_list_eq_equiv}
use Rattle.std.proofs.lemmas.List.Folds.{list_any-append}
use Rattle.std.specs.Prelude.{◌⊎◌, IfSome, pos, unwrap_or, option_map}
use Rattle.cg_request.specs.declared.protocol.Protocol.{Protocol}
use Rattle.std.specs.Ordering.{int_eq}
use Rattle.std.specs.FinMap as finmap
use Rattle.cg_record.specs.declared.member_record.MemberRecord.{MemberRecord}
use Rattle.cg_names.specs.declared.code.Code.{Code}
use Rattle.cg_record.specs.declared.command.Command.{Command}
use Rattle.cg_record.specs.declared.command.Command.TheVariants as command
use Rattle.cg_request.specs.declared.event.Event.{Event}
use Rattle.cg_request.specs.declared.event.Event.TheVariants as event
use Rattle.cg_fold.specs.declared.group_record.GroupRecord.{GroupRecord}
use Rattle.cg_fold.specs.declared.group_record.RecordedMembers.{RecordedMembers}
use Rattle.cg_fold.specs.declared.group_record.RecordedMembers.TheVariants as recorded
use Rattle.cg_group_state.specs.declared.group.Group.{Group}
use Rattle.cg_group_state.specs.declared.group.Phase.{Phase}
use Rattle.cg_group_state.specs.declared.group.Phase.TheVariants.{Empty, Preparing, Completing, Stable}
use Rattle.cg_group_state.specs.declared.member.Waits.{Waits}
use Rattle.cg_group_state.specs.declared.member.Waits.TheVariants.{Nothing, Join, Sync}
use Rattle.cg_request.specs.declared.request_fields.SyncRequest.{SyncRequest}
use Rattle.cg_request.specs.declared.ticket.Ticket.{Ticket}
use Rattle.cg_group_rules.specs.Join.{new_group}
use Rattle.cg_group_table.specs.Kept.{Each, HasOffset, Kept, kept_in}
use Rattle.cg_group_table.proofs.Kept.{kept-after, kept_after}
use Rattle.cg_group.specs.Laws.{AgreesIn, AreCompleted, AreRequests, IsFounded, IsFresh, IsRebalancing, IsRecordedAs, MachineAndCommandsAgree, TellsOf, after_all, commands_of, is_request, state_after}
use Rattle.cg_group.proofs.Asked.{has_named, is_same_ticket, is_sync_of}
use Rattle.cg_group_rules.specs.Leave.{gone_in}
use Rattle.cg_record.specs.declared.topic_partition.TopicPartition.{TopicPartition}
use Rattle.cg_group.proofs.AgreeingTick.{whole-drop, whole-tick, whole_under}
use Rattle.cg_group.specs.Machine.{beat, commit, concluded, deleted, dropped, memberless, join, leave, handled, step, sync}
use Rattle.cg_group_table.specs.GroupTable.{Machine, everywhere, find_group}
use Rattle.cg_group_state.specs.declared.turn.Turn.{Turn}
use Rattle.cg_group_state.specs.Offsets.{OffsetMap, offsets_after}
use Rattle.cg_group_state.specs.Membership.{is_empty, is_named, is_same}
use Rattle.cg_group_rules.specs.Rebalance.{subscription_for}
use Rattle.cg_group_table.specs.Recovery.{revive, revived, revived_from, revived_member, revived_with}
use Rattle.cg_fold.specs.Durable.{State}
use Rattle.cg_fold.specs.Snapshot.{groups_in, in_order}
use Rattle.cg_group_table.proofs.Removing.{each-without-over}
use Rattle.cg_group_table.proofs.Revived.{held_revived, id_revived, in_order-revived, offsets_revived}
use Rattle.cg_group_rules.specs.Sync.{kept_member}
use Rattle.cg_group_state.specs.Vote.{is_common}
use Rattle.cg_group.proofs.Agreeing.{Holds, Whole, has_kind, kind_holds, suits_consistent, suits_empty}
use Rattle.cg_group.proofs.AgreeingTurns.{after-beat_taken, after-committed, after-gone_in, after-join_known, after-add_member_and_rebalance, after-replace_static_member, after-leave_taken, after-sync_taken}
use Rattle.cg_group.proofs.Calling.{AllWaits, is_named_wait, no_sync}
use Rattle.cg_group_table.proofs.Framed.{framed-beat_taken, framed-committed, framed-gone_in, framed-join_known, framed-add_member_and_rebalance, framed-replace_static_member, framed-leave_taken, framed-sync_taken}
use Rattle.cg_group_table.proofs.KeptLists.{each-found, id-found, kept_after-append, kept_after-none, same_self}
use Rattle.cg_group.proofs.Covering.{covered-after_all, covered-revive, offsets-after_all, offsets-revive, offsets-step}
use Rattle.cg_group.proofs.Dated.{completed-after}
use Rattle.cg_group.proofs.Founded.{Stores, has-deleted, others-concluded, own-concluded, stores-commit}
use Rattle.cg_group.proofs.OffsetsKept.{AreQuiet, quiet-offsets}
use Rattle.cg_group.proofs.Quiet.{quiet-all, quiet-beat, quiet-concluded, quiet-gone_in, quiet-join, quiet-leave, quiet-sync}
use Rattle.cg_group.proofs.KeptMachine.{Fits, Invariant, each-over, fits_framed, invariant-concluded, invariant-deleted, invariant-everywhere, kept-undeleted}
use Rattle.cg_group.proofs.Requests.{Fine, fine-beat, fine-commit, fine-join, fine-leave, fine-sync}
use Rattle.cg_group.proofs.Made.{own_id_new}

-- the machine agrees with the records, after these events
abbrev pub WholeMachine : List (Event × ℕ) → Machine → Kept → Type 0
WholeMachine events s kept = Invariant (Whole events s.offsets) s.groups kept

-- a list that is not empty
pub some_listed : {X : Type 0} (xs : List X) → 1 ≤ length xs → list_any (λ x. true) xs ≡ true
some_listed [] h = absurd (omega arith)
some_listed (x ∷ xs) h = refl

-- one more event

named_more : (events : List (Event × ℕ)) (e : Event × ℕ) (group : List ℕ) (generation : ℕ) (id : List ℕ) (w : Waits) → is_named_wait events group generation id w ≡ true → is_named_wait (events ++ e ∷ []) group generation id w ≡ true
named_more events e group generation id Nothing h = refl
named_more events e group generation id (Join t) h = refl
named_more events e group generation id (Sync t) h =
    list_any-append (λ x. is_sync_of group generation id t x.0) events (e ∷ []) ∙ or_left (has_named events group generation id t) (list_any (λ x. is_sync_of group generation id t x.0) (e ∷ [])) h

whole_more : (events : List (Event × ℕ)) (e : Event × ℕ) (offsets : OffsetMap) (g : Group) (o : Option GroupRecord) → Whole events offsets g o → Whole (events ++ e ∷ []) offsets g o
whole_more events e offsets g o h = record {
  common = h.common;
  holds = h.holds;
  named = each-over (λ m. is_named_wait events g.id g.generation m.id m.waits ≡ true) (λ m. is_named_wait (events ++ e ∷ []) g.id g.generation m.id m.waits ≡ true) (λ m k. named_more events e g.id g.generation m.id m.waits k) g.members h.named;
  quiet = h.quiet;
  typed = h.typed;
}

pub machine_more : (events : List (Event × ℕ)) (e : Event × ℕ) (s : Machine) (kept : Kept) → WholeMachine events s kept → WholeMachine (events ++ e ∷ []) s kept
machine_more events e s kept v = record {
  ascending = v.ascending;
  each = each-over (λ g. Whole events s.offsets g (kept g.id)) (λ g. Whole (events ++ e ∷ []) s.offsets g (kept g.id)) (λ g h. whole_more events e s.offsets g (kept g.id) h) s.groups v.each;
  held = v.held;
}

-- the event is one of the past events
abbrev pub WasMet : List (Event × ℕ) → Event → Type 0
WasMet events e = (group : List ℕ) (generation : ℕ) (member : List ℕ) (t : Ticket) → is_sync_of group generation member t e ≡ true → has_named events group generation member t ≡ true

pub was_met_last : (events : List (Event × ℕ)) (e : Event) (m : ℕ) → WasMet (events ++ (e, m) ∷ []) e
was_met_last events e m group generation member t h =
    list_any-append (λ x. is_sync_of group generation member t x.0) events ((e, m) ∷ [])
    ∙ or_right (has_named events group generation member t) (is_sync_of group generation member t e || false) (or_left (is_sync_of group generation member t e) false h)

same_ticket : (t : Ticket) → is_same_ticket t t ≡ true
same_ticket t = and_from (nat_eq t.session t.session) (nat_eq t.number t.number) (nat_eq_equiv.refl t.session) (nat_eq_equiv.refl t.number)

named_given : (o : Option (List ℕ)) (x y : List ℕ) → o ≡ Some x → is_same y x ≡ true → is_named o y ≡ true
named_given o x y e s = let P : Option (List ℕ) → Type 0 = λ p. is_named p y ≡ true in subst P (sym e) (nat_list_eq_equiv.symm x y ∙ s)

pub sync_named : (r : SyncRequest) (t : Ticket) (id own : List ℕ) (g : Group) → r.group ≡ Some id → is_same g.id id ≡ true → r.member ≡ Some own → int_eq r.generation (pos g.generation) ≡ true → is_sync_of g.id g.generation own t (event.Sync t r) ≡ true
sync_named r t id own g grouped found given dated =
    and_from (is_same_ticket t t && is_named r.group g.id && is_named r.member own) (int_eq r.generation (pos g.generation))
    (and_from (is_same_ticket t t && is_named r.group g.id) (is_named r.member own)
    (and_from (is_same_ticket t t) (is_named r.group g.id) (same_ticket t) (named_given r.group id g.id grouped found))
    (named_given r.member own own given (same_self own))) dated

none_in_new : (id : List ℕ) → is_empty (new_group id).members ≡ true
unfolding new_group
none_in_new id = refl

quiet_in_new : (id : List ℕ) → AllWaits no_sync (new_group id).members
unfolding new_group
quiet_in_new id = tt

-- a group that is not loaded has no record
nothing : (o : Option GroupRecord) → (is_some o ≡ true → ⊥) → o ≡ None
nothing None h = refl
nothing (Some r) h = absurd (h refl)

unkept : (kept : Kept) (groups : List Group) (id : List ℕ) → find_group id groups ≡ None → ((i : List ℕ) → is_some (kept i) ≡ true → is_some (find_group i groups) ≡ true) → kept (new_group id).id ≡ None
unkept kept groups id none held = ap kept (own_id_new id) ∙ nothing (kept id) (λ e. false≢true (sym (ap is_some none) ∙ held id e))

whole_new : (events : List (Event × ℕ)) (offsets : OffsetMap) (id : List ℕ) → HasOffset offsets id → Whole events offsets (new_group id) None
unfolding new_group is_common
whole_new events offsets id has = record {
  common = ([], refl);
  holds = record { phase = refl; generation = refl; kind = refl; protocol = refl; leader = refl; members = refl };
  named = tt;
  quiet = λ e. absurd (false≢true e);
  typed = λ _. has;
}

-- what a step gives under a premise that the step has
fine-under : (P Q : Turn → Type 0) (o : Result Turn Code) → Fine P o → Fine (λ t. P t → Q t) o → Fine Q o
fine-under P Q (Ok t) p h = h p
fine-under P Q (Err code) p h = tt

-- a commit that is taken leaves an offset of its group; a drop and a tick take offsets away
abbrev StoresIn : OffsetMap → Machine → Event → Type 0
StoresIn offsets s (event.Commit ticket r) = Fine (λ t. HasOffset offsets t.group.id) (commit s.last r ticket s.groups)
StoresIn offsets s (event.Join ticket r fresh) = Unit {0}
StoresIn offsets s (event.Sync ticket r) = Unit {0}
StoresIn offsets s (event.Beat ticket r) = Unit {0}
StoresIn offsets s (event.Leave ticket r) = Unit {0}
StoresIn offsets s (event.Fetch ticket r) = Unit {0}
StoresIn offsets s (event.Delete ticket id) = Unit {0}
StoresIn offsets s (event.Drop ticket r) = ⊥
StoresIn offsets s (event.Describe ticket id) = Unit {0}
StoresIn offsets s (event.List ticket) = Unit {0}
StoresIn offsets s (event.Gone session) = Unit {0}
StoresIn offsets s event.Tick = ⊥

module _ (events : List (Event × ℕ)) (offsets : OffsetMap) (kept : Kept) where
  whole-met : (s : Machine) (e : Event) → is_request e ≡ true → WasMet events e → StoresIn offsets s e → Invariant (Whole events offsets) s.groups kept → Invariant (Whole events offsets) (handled s e).after.groups (kept_after kept (handled s e).effects.commands)
  unfolding handled
  whole-met s (event.Join ticket r fresh) asked seen stored v =
      invariant-concluded (Whole events offsets) s kept ticket (join s.last r fresh ticket s.groups)
      (fine-join (Fits (Whole events offsets) kept) s.last r fresh ticket s.groups
      (λ id new _ _. fits_framed (Whole events offsets) kept (new_group id).id _ (framed-add_member_and_rebalance s.last r new ticket (new_group id))
      (after-add_member_and_rebalance events offsets kept s.last r new ticket (new_group id) (suits_empty r (new_group id).members asked (none_in_new id)) (λ e. absurd (false≢true (sym e ∙ none_in_new id))) (λ _. quiet_in_new id)))
      (λ id new g _ e _ _ fits.
      let h : Whole events offsets g (kept g.id) = each-found (λ k. Whole events offsets k (kept k.id)) id s.groups g e v.each in
      fits_framed (Whole events offsets) kept g.id _ (framed-add_member_and_rebalance s.last r new ticket g)
      (after-add_member_and_rebalance events offsets kept s.last r new ticket g (suits_consistent r g asked fits) (λ filled. kind_holds g.phase g (kept g.id) filled h.holds) h.quiet))
      (λ id new g old _ e free found fits.
      let h : Whole events offsets g (kept g.id) = each-found (λ k. Whole events offsets k (kept k.id)) id s.groups g e v.each in
      fits_framed (Whole events offsets) kept g.id _ (framed-replace_static_member s.last r new ticket old g)
      (after-replace_static_member events offsets kept s.last r new ticket old g free found (suits_consistent r g asked fits) h))
      (λ id own g m _ e found fits.
      let h : Whole events offsets g (kept g.id) = each-found (λ k. Whole events offsets k (kept k.id)) id s.groups g e v.each in
      fits_framed (Whole events offsets) kept g.id _ (framed-join_known s.last r own ticket m g)
      (after-join_known events offsets kept s.last r own ticket m g found (suits_consistent r g asked fits) h))) v
  whole-met s (event.Sync ticket r) asked seen stored v =
      invariant-concluded (Whole events offsets) s kept ticket (sync s.last r ticket s.groups)
      (fine-sync (Fits (Whole events offsets) kept) s.last r ticket s.groups
      (λ id own g m grouped e given _ dated _.
      let h : Whole events offsets g (kept g.id) = each-found (λ k. Whole events offsets k (kept k.id)) id s.groups g e v.each in
      fits_framed (Whole events offsets) kept g.id _ (framed-sync_taken s.last r own ticket m g g.phase)
      (after-sync_taken events offsets kept s.last r own ticket m g g.phase refl (seen g.id g.generation own ticket (sync_named r ticket id own g grouped (id-found id s.groups g e) given dated)) h))) v
  whole-met s (event.Beat ticket r) asked seen stored v =
      invariant-concluded (Whole events offsets) s kept ticket (beat s.last r ticket s.groups)
      (fine-beat (Fits (Whole events offsets) kept) s.last r ticket s.groups
      (λ id own g e. fits_framed (Whole events offsets) kept g.id _ (framed-beat_taken s.last own ticket g) (after-beat_taken events offsets kept s.last own ticket g (each-found (λ k. Whole events offsets k (kept k.id)) id s.groups g e v.each)))) v
  whole-met s (event.Leave ticket r) asked seen stored v =
      invariant-concluded (Whole events offsets) s kept ticket (leave s.last r ticket s.groups)
      (fine-leave (Fits (Whole events offsets) kept) s.last r ticket s.groups
      (λ id g m e filled. fits_framed (Whole events offsets) kept g.id _ (framed-leave_taken s.last m.id ticket m g) (after-leave_taken events offsets kept s.last m.id ticket m g filled (each-found (λ k. Whole events offsets k (kept k.id)) id s.groups g e v.each)))) v
  whole-met s (event.Commit ticket r) asked seen stored v =
      invariant-concluded (Whole events offsets) s kept ticket (commit s.last r ticket s.groups)
      (fine-under (λ t. HasOffset offsets t.group.id) (Fits (Whole events offsets) kept) (commit s.last r ticket s.groups) stored
      (fine-commit (λ t. HasOffset offsets t.group.id → Fits (Whole events offsets) kept t) s.last r ticket s.groups
      (λ id none has.
      let framed = framed-committed s.last r.entries ticket None (new_group id) in
      let H : List ℕ → Type 0 = λ i. HasOffset offsets i in
      let gone : kept (new_group id).id ≡ None = unkept kept s.groups id none v.held in
      let P : Option GroupRecord → Type 0 = λ o. Whole events offsets (new_group id) o in
      fits_framed (Whole events offsets) kept (new_group id).id _ framed
      (after-committed events offsets kept s.last r.entries ticket None (new_group id) (subst P (sym gone) (whole_new events offsets id (subst H (framed.0 ∙ own_id_new id) has)))))
      (λ id g who e _ _. fits_framed (Whole events offsets) kept g.id _ (framed-committed s.last r.entries ticket who g)
      (after-committed events offsets kept s.last r.entries ticket who g (each-found (λ k. Whole events offsets k (kept k.id)) id s.groups g e v.each))))) v
  whole-met s (event.Fetch ticket r) asked seen stored v = let P : Kept → Type 0 = λ k. Invariant (Whole events offsets) s.groups k in subst P (sym (kept_after-none kept)) v
  whole-met s (event.Delete ticket id) asked seen stored v = invariant-deleted (Whole events offsets) s kept ticket (memberless id s.groups) v
  whole-met s (event.Drop ticket r) asked seen stored v = absurd stored
  whole-met s (event.Describe ticket id) asked seen stored v = let P : Kept → Type 0 = λ k. Invariant (Whole events offsets) s.groups k in subst P (sym (kept_after-none kept)) v
  whole-met s (event.List ticket) asked seen stored v = let P : Kept → Type 0 = λ k. Invariant (Whole events offsets) s.groups k in subst P (sym (kept_after-none kept)) v
  whole-met s (event.Gone session) asked seen stored v =
      invariant-everywhere (Whole events offsets) (gone_in s.last session) (framed-gone_in s.last session) (λ g k h. after-gone_in events offsets k s.last session g h) s kept v
  whole-met s event.Tick asked seen stored v = absurd stored

whole-deleted : (events : List (Event × ℕ)) (kept : Kept) (s : Machine) (ticket : Ticket) (o : Result (List ℕ) Code) → WholeMachine events s kept
    → Invariant (Whole events (offsets_after s.offsets (deleted s ticket o).effects.commands)) (deleted s ticket o).after.groups (kept_after kept (deleted s ticket o).effects.commands)
unfolding deleted
whole-deleted events kept s ticket (Err code) v = let P : Kept → Type 0 = λ k. Invariant (Whole events s.offsets) s.groups k in subst P (sym (kept_after-none kept)) v
whole-deleted events kept s ticket (Ok id) v =
    let cs : List Command = command.Deleted (record { group = id }) ∷ [] in
    let new : OffsetMap = offsets_after s.offsets cs in
    let w = invariant-deleted (Whole events s.offsets) s kept ticket (Ok id) v in
    record {
      ascending = w.ascending;
      each = each-without-over (λ g. Whole events s.offsets g (kept g.id)) (λ g. Whole events new g (kept_after kept cs g.id)) id s.groups
          (λ g d h.
          let P : Option GroupRecord → Type 0 = λ o. Whole events new g o in
          subst P (sym (kept-undeleted (Whole events s.offsets) kept id g.id d)) (whole_under events s.offsets new g (kept g.id) (has-deleted s.offsets id g.id d) h)) v.ascending v.each;
      held = w.held;
    }

whole-dropped : (events : List (Event × ℕ)) (kept : Kept) (s : Machine) (ticket : Ticket) (partitions : List TopicPartition) (o : Result (List ℕ) Code) → WholeMachine events s kept
    → Invariant (Whole events (offsets_after s.offsets (dropped s ticket partitions o).effects.commands)) (dropped s ticket partitions o).after.groups (kept_after kept (dropped s ticket partitions o).effects.commands)
unfolding dropped
whole-dropped events kept s ticket partitions (Err code) v = let P : Kept → Type 0 = λ k. Invariant (Whole events s.offsets) s.groups k in subst P (sym (kept_after-none kept)) v
whole-dropped events kept s ticket partitions (Ok id) v = whole-drop events kept s id partitions v

-- the machine under the offsets after the event
whole-quiet : (events : List (Event × ℕ)) (s : Machine) (e : Event) (kept : Kept) → AreQuiet (handled s e).effects.commands → Invariant (Whole events s.offsets) (handled s e).after.groups (kept_after kept (handled s e).effects.commands)
    → Invariant (Whole events (offsets_after s.offsets (handled s e).effects.commands)) (handled s e).after.groups (kept_after kept (handled s e).effects.commands)
whole-quiet events s e kept quiet v =
    let P : OffsetMap → Type 0 = λ o. Invariant (Whole events o) (handled s e).after.groups (kept_after kept (handled s e).effects.commands) in
    subst P (sym (quiet-offsets s.offsets (handled s e).effects.commands quiet)) v

whole-moved : (events : List (Event × ℕ)) (kept : Kept) (s : Machine) (e : Event) → is_request e ≡ true → WasMet events e → WholeMachine events s kept
    → Invariant (Whole events (offsets_after s.offsets (handled s e).effects.commands)) (handled s e).after.groups (kept_after kept (handled s e).effects.commands)
unfolding handled everywhere
whole-moved events kept s (event.Join ticket r fresh) asked seen v =
    whole-quiet events s (event.Join ticket r fresh) kept (quiet-concluded s ticket (join s.last r fresh ticket s.groups) (quiet-join s.last r fresh ticket s.groups)) (whole-met events s.offsets kept s (event.Join ticket r fresh) asked seen tt v)
whole-moved events kept s (event.Sync ticket r) asked seen v =
    whole-quiet events s (event.Sync ticket r) kept (quiet-concluded s ticket (sync s.last r ticket s.groups) (quiet-sync s.last r ticket s.groups)) (whole-met events s.offsets kept s (event.Sync ticket r) asked seen tt v)
whole-moved events kept s (event.Beat ticket r) asked seen v =
    whole-quiet events s (event.Beat ticket r) kept (quiet-concluded s ticket (beat s.last r ticket s.groups) (quiet-beat s.last r ticket s.groups)) (whole-met events s.offsets kept s (event.Beat ticket r) asked seen tt v)
whole-moved events kept s (event.Leave ticket r) asked seen v =
    whole-quiet events s (event.Leave ticket r) kept (quiet-concluded s ticket (leave s.last r ticket s.groups) (quiet-leave s.last r ticket s.groups)) (whole-met events s.offsets kept s (event.Leave ticket r) asked seen tt v)
whole-moved events kept s (event.Commit ticket r) asked seen v =
    let o : Result Turn Code = commit s.last r ticket s.groups in
    let stores : Fine (Stores s.offsets) o = stores-commit s.last r ticket s asked in
    let new : OffsetMap = offsets_after s.offsets (concluded s ticket o).effects.commands in
    whole-met events new kept s (event.Commit ticket r) asked seen (own-concluded s ticket o stores) (record {
      ascending = v.ascending;
      each = each-over (λ g. Whole events s.offsets g (kept g.id)) (λ g. Whole events new g (kept g.id)) (λ g h. whole_under events s.offsets new g (kept g.id) (others-concluded s ticket o stores g.id) h) s.groups v.each;
      held = v.held;
    })
whole-moved events kept s (event.Fetch ticket r) asked seen v = whole-met events s.offsets kept s (event.Fetch ticket r) asked seen tt v
whole-moved events kept s (event.Delete ticket id) asked seen v = whole-deleted events kept s ticket (memberless id s.groups) v
whole-moved events kept s (event.Drop ticket r) asked seen v = whole-dropped events kept s ticket r.partitions (memberless r.group s.groups) v
whole-moved events kept s (event.Describe ticket id) asked seen v = whole-met events s.offsets kept s (event.Describe ticket id) asked seen tt v
whole-moved events kept s (event.List ticket) asked seen v = whole-met events s.offsets kept s (event.List ticket) asked seen tt v
whole-moved events kept s (event.Gone session) asked seen v =
    whole-quiet events s (event.Gone session) kept (quiet-all (gone_in s.last session) (quiet-gone_in s.last session) s.groups) (whole-met events s.offsets kept s (event.Gone session) asked seen tt v)
whole-moved events kept s event.Tick asked seen v = whole-tick events kept s v

whole-over_step : (events : List (Event × ℕ)) (kept : Kept) (s : Machine) (e : Event) (m : ℕ) → is_request e ≡ true → WholeMachine events s kept
    → Invariant (Whole (events ++ (e, m) ∷ []) (offsets_after s.offsets (step s e m).effects.commands)) (step s e m).after.groups (kept_after kept (step s e m).effects.commands)
unfolding step
whole-over_step events kept s e m asked v =
    whole-moved (events ++ (e, m) ∷ []) kept (record s { last = max s.last m }) e asked (was_met_last events e m) (machine_more events (e, m) s kept v)

pub whole-step : (events : List (Event × ℕ)) (kept : Kept) (s : Machine) (e : Event) (m : ℕ) → is_request e ≡ true → WholeMachine events s kept → WholeMachine (events ++ (e, m) ∷ []) (step s e m).after (kept_after kept (step s e m).effects.commands)
whole-step events kept s e m asked v =
    let P : OffsetMap → Type 0 = λ o. Invariant (Whole (events ++ (e, m) ∷ []) o) (step s e m).after.groups (kept_after kept (step s e m).effects.commands) in
    subst P (sym (offsets-step s e m)) (whole-over_step events kept s e m asked v)

pub whole-after_all : (more events : List (Event × ℕ)) (kept : Kept) (s : Machine) → AreRequests more → WholeMachine events s kept → WholeMachine (events ++ more) (after_all more s) (kept_after kept (commands_of more s))
unfolding after_all commands_of
whole-after_all [] events kept s asked v =
    let P : List (Event × ℕ) → Type 0 = λ es. WholeMachine es s (kept_after kept []) in
    let Q : Kept → Type 0 = λ k. WholeMachine events s k in
    subst P (sym (append-nil events)) (subst Q (sym (kept_after-none kept)) v)
whole-after_all (e ∷ es) events kept s asked v =
    let o = step s e.0 e.1 in
    let rest : List Command = commands_of es o.after in
    let P : List (Event × ℕ) → Type 0 = λ xs. WholeMachine xs (after_all es o.after) (kept_after kept (o.effects.commands ++ rest)) in
    let Q : Kept → Type 0 = λ k. WholeMachine ((events ++ e ∷ []) ++ es) (after_all es o.after) k in
    subst P (append_assoc events (e ∷ []) es)
    (subst Q (sym (kept_after-append kept o.effects.commands rest))
    (whole-after_all es (events ++ e ∷ []) (kept_after kept o.effects.commands) o.after asked.1 (whole-step events kept s e.0 e.1 asked.0 v)))

-- the machine after recovery

kept_revived : (now : ℕ) (protocol : List ℕ) (m : MemberRecord) → kept_member (Some protocol) (revived_member now protocol m) ≡ m
unfolding revived_member subscription_for
kept_revived now protocol m =
    let only : Protocol = record { name = protocol; subscription = m.subscription } in
    let found : Bool → Option Protocol = λ b. cond b (Some only) None in
    (elim (is_same protocol protocol) as (λ b. is_same protocol protocol ≡ b → record m { subscription = unwrap_or (option_map (λ (p : Protocol). p.subscription) (found b)) [] } ≡ m) [
      | true ↦ λ e. refl
      | false ↦ λ e. absurd (false≢true (sym e ∙ same_self protocol))
    ]) refl

kept_back : (now : ℕ) (protocol : List ℕ) (ms : List MemberRecord) → ms ≡ map (kept_member (Some protocol)) (map (revived_member now protocol) ms)
kept_back now protocol [] = refl
kept_back now protocol (m ∷ ms) = ap (λ x. x ∷ ms) (sym (kept_revived now protocol m)) ∙ ap (λ xs. kept_member (Some protocol) (revived_member now protocol m) ∷ xs) (kept_back now protocol ms)

common_revived : (now : ℕ) (protocol : List ℕ) (ms : List MemberRecord) → is_common (map (revived_member now protocol) ms) protocol ≡ true
unfolding is_common revived_member
common_revived now protocol [] = refl
common_revived now protocol (m ∷ ms) = and_from (is_same protocol protocol || false) _ (or_left (is_same protocol protocol) false (same_self protocol)) (common_revived now protocol ms)

quiet_revived : (q : List ℕ → Waits → Bool) → ((id : List ℕ) → q id Nothing ≡ true) → (now : ℕ) (protocol : List ℕ) (ms : List MemberRecord) → AllWaits q (map (revived_member now protocol) ms)
unfolding revived_member
quiet_revived q calm now protocol [] = tt
quiet_revived q calm now protocol (m ∷ ms) = (calm m.id, quiet_revived q calm now protocol ms)

recorded_revived : (now : ℕ) (id : List ℕ) (r : GroupRecord) (roster : RecordedMembers) → IsRecordedAs r roster (revived_with now id r roster)
unfolding revived_with
recorded_revived now id r (recorded.Roster roster) = record { phase = refl; generation = refl; kind = refl; protocol = refl; leader = refl; members = kept_back now roster.protocol roster.members }
recorded_revived now id r (recorded.Empty moment) = record { phase = refl; generation = refl; kind = refl; protocol = refl; leader = refl; members = refl; emptied = refl }

whole_with : (now : ℕ) (offsets : OffsetMap) (id : List ℕ) (r : GroupRecord) (roster : RecordedMembers) → roster ≡ r.members → Whole [] offsets (revived_with now id r roster) (Some r)
unfolding revived_with is_common
whole_with now offsets id r (recorded.Roster roster) e = let P : RecordedMembers → Type 0 = λ o. IsRecordedAs r o (revived_with now id r (recorded.Roster roster)) in record {
  common = (roster.protocol, common_revived now roster.protocol roster.members);
  holds = subst P e (recorded_revived now id r (recorded.Roster roster));
  named = quiet_revived (is_named_wait [] id r.generation) (λ _. refl) now roster.protocol roster.members;
  quiet = λ e. absurd (false≢true e);
  typed = has_kind (Some r.kind) refl;
}
whole_with now offsets id r (recorded.Empty moment) e = let P : RecordedMembers → Type 0 = λ o. IsRecordedAs r o (revived_with now id r (recorded.Empty moment)) in record {
  common = ([], refl);
  holds = subst P e (recorded_revived now id r (recorded.Empty moment));
  named = tt;
  quiet = λ e. absurd (false≢true e);
  typed = has_kind (Some r.kind) refl;
}

whole_from : (now : ℕ) (offsets : OffsetMap) (id : List ℕ) (o : Option GroupRecord) → (o ≡ None → HasOffset offsets id) → Whole [] offsets (revived_from now id o) o
whole_from now offsets id None has = whole_new [] offsets id (has refl)
whole_from now offsets id (Some r) has = whole_with now offsets id r r.members refl

whole_revived : (now : ℕ) (state : State) (id : List ℕ) → (kept_in state id ≡ None → HasOffset state.offsets id) → Whole [] state.offsets (revived now state id) (kept_in state id)
unfolding revived
whole_revived now state id has = whole_from now state.offsets id (kept_in state id) has

each_revived : (now : ℕ) (state : State) (names : List (List ℕ)) → Each (λ q. kept_in state q ≡ None → HasOffset state.offsets q) names → Each (λ g. Whole [] state.offsets g (kept_in state g.id)) (map (revived now state) names)
each_revived now state [] has = tt
each_revived now state (x ∷ xs) has =
    let P : List ℕ → Type 0 = λ i. Whole [] state.offsets (revived now state x) (kept_in state i) in
    (subst P (sym (id_revived now state x)) (whole_revived now state x has.0), each_revived now state xs has.1)

pub whole-revive : (state : State) (now : ℕ) → WholeMachine [] (revive state now) (kept_in state)
unfolding revive
whole-revive state now = record {
  ascending = in_order-revived now state;
  each = each_revived now state (in_order (groups_in state)) (offsets_revived state);
  held = λ id e. held_revived now state id e;
}

agrees_in : (p : Phase) (g : Group) (o : Option GroupRecord) → Holds p g o → AgreesIn p g o
agrees_in Stable g o h = h
agrees_in Empty g o h = h
agrees_in Preparing g o h = tt
agrees_in Completing g o h = tt

pub whole-all : (state : State) (now : ℕ) (events : List (Event × ℕ)) → AreRequests events → WholeMachine events (after_all events (revive state now)) (kept_in (state_after state now events))
whole-all state now events asked =
    let P : Kept → Type 0 = λ k. WholeMachine events (after_all events (revive state now)) k in
    subst P (sym (kept-after state (commands_of events (revive state now))))
    (whole-after_all events [] (kept_in state) (revive state now) asked (whole-revive state now))

-- a group without a record has an offset, or a rebalance is under way in it
founded_told : (offsets : OffsetMap) (g : Group) (o : Option GroupRecord) → o ≡ None → (g.kind ≡ None → HasOffset offsets g.id) → TellsOf g o → HasOffset offsets g.id
founded_told offsets g None e typed h = typed h.kind
founded_told offsets g (Some r) e typed h = cc

founded_in : (offsets : OffsetMap) (p : Phase) (g : Group) (o : Option GroupRecord) → o ≡ None → (g.kind ≡ None → HasOffset offsets g.id) → Holds p g o → HasOffset offsets g.id ⊎ IsRebalancing p
founded_in offsets Stable g o e typed h = inl (founded_told offsets g o e typed h)
founded_in offsets Empty g o e typed h = inl (founded_told offsets g o e typed h)
founded_in offsets Preparing g o e typed h = inr (inl refl)
founded_in offsets Completing g o e typed h = inr (inr refl)

-- an Empty group of generation 0 has no record
fresh_recorded : {A : Type 0} (g : Group) (r : GroupRecord) (roster : RecordedMembers) → 1 ≤ r.generation → g.phase ≡ Empty → g.generation ≡ 0 → IsRecordedAs r roster g → A
fresh_recorded g r (recorded.Roster roster) dated p z h = let bad : Stable ≡ Empty = sym h.phase ∙ p in cc
fresh_recorded g r (recorded.Empty moment) dated p z h = let e : r.generation ≡ 0 = h.generation ∙ z in absurd (omega arith)

fresh_told : (offsets : OffsetMap) (g : Group) (o : Option GroupRecord) → IfSome o (λ r. 1 ≤ r.generation) → (g.kind ≡ None → HasOffset offsets g.id) → g.phase ≡ Empty → g.generation ≡ 0 → TellsOf g o → (o ≡ None) × HasOffset offsets g.id
fresh_told offsets g None dated typed p z h = (refl, typed h.kind)
fresh_told offsets g (Some r) dated typed p z h = fresh_recorded g r r.members dated p z h

fresh_in : (events : List (Event × ℕ)) (offsets : OffsetMap) (g : Group) (o : Option GroupRecord) → IfSome o (λ r. 1 ≤ r.generation) → Whole events offsets g o → g.phase ≡ Empty → g.generation ≡ 0 → (o ≡ None) × HasOffset offsets g.id
fresh_in events offsets g o dated w p z = let P : Phase → Type 0 = λ x. Holds x g o in fresh_told offsets g o dated w.typed p z (subst P p w.holds)

pub machine_and_commands_agree : (events : List (Event × ℕ)) → AreRequests events → MachineAndCommandsAgree events
machine_and_commands_agree events asked state now =
    let later : State = state_after state now events in
    let kept : Kept = kept_in later in
    let v = whole-all state now events asked in
    let s : Machine = after_all events (revive state now) in
    let same = offsets-after_all events (revive state now) state (offsets-revive state now) in
    let Q : OffsetMap → Type 0 = λ o. Each (λ g. Whole events o g (kept g.id)) s.groups in
    let each : Each (λ g. Whole events later.offsets g (kept g.id)) s.groups = subst Q same v.each in
    record {
      agrees = record {
        offsets = same;
        held = v.held;
        read = λ key e. covered-after_all events (revive state now) (covered-revive state now) key (ap (λ o. is_some (finmap.get o key)) same ∙ e);
        told = each-over (λ g. Whole events later.offsets g (kept g.id)) (λ g. AgreesIn g.phase g (kept g.id)) (λ g w. agrees_in g.phase g (kept g.id) w.holds) s.groups each;
        founded = each-over (λ g. Whole events later.offsets g (kept g.id)) (IsFounded later.offsets kept) (λ g w e. founded_in later.offsets g.phase g (kept g.id) e w.typed w.holds) s.groups each;
      };
      dated = λ h.
          let completed : AreCompleted later = completed-after state now events (revive state now) h in
          record {
            completed = completed;
            fresh = each-over (λ g. Whole events later.offsets g (kept g.id)) (IsFresh later) (λ g w. fresh_in events later.offsets g (kept g.id) (completed g.id) w) s.groups each;
          };
    }
