-- A call that is parked after an event was parked before, or came with the event.
use Rattle.std.proofs.Common.{◌≡◌, ℕ, Bool, true, false, not, List, [], ◌∷◌, map, refl, sym, ap, ◌∙◌, subst, Option, Some, None, Result, Ok, Err}
use Rattle.std.specs.Prelude.{◌==◌, if◌then◌else◌, is_some}
use Rattle.std.specs.List.{list_any}
use Rattle.cg_names.specs.declared.code.Code.{Code}
use Rattle.cg_group_state.specs.declared.calls.Calls.TheVariants.{Joins, OfSession, Syncs}
use Rattle.cg_request.specs.declared.event.Event.{Event}
use Rattle.cg_request.specs.declared.event.Event.TheVariants as event
use Rattle.cg_group_state.specs.declared.group.Group.{Group}
use Rattle.cg_group_state.specs.declared.group.Phase.{Phase}
use Rattle.cg_group_state.specs.declared.group.Phase.TheVariants.{Empty, Preparing, Completing, Stable}
use Rattle.cg_group_state.specs.declared.member.Member.{Member}
use Rattle.cg_group_state.specs.declared.member.Waits.{Waits}
use Rattle.cg_group_state.specs.declared.member.Waits.TheVariants.{Nothing, Join, Sync}
use Rattle.cg_request.specs.declared.request_fields.DropRequest.{DropRequest}
use Rattle.cg_request.specs.declared.request_fields.JoinRequest.{JoinRequest}
use Rattle.cg_request.specs.declared.request_fields.SyncEntry.{SyncEntry}
use Rattle.cg_request.specs.declared.request_fields.SyncRequest.{SyncRequest}
use Rattle.cg_request.specs.declared.ticket.Ticket.{Ticket}
use Rattle.cg_group_state.specs.declared.turn.Turn.{Turn}
use Rattle.cg_group_rules.specs.Heartbeat.{beat_taken}
use Rattle.cg_group_rules.specs.TickDeadline.{gone_touches}
use Rattle.cg_group_rules.specs.Join.{admitted, in_join_phase, is_current, update_member_and_rebalance, join_current, join_known, add_member_and_rebalance, new_group, new_member, rejoined, updating, waiting}
use Rattle.cg_group_state.specs.JoinTerms.{updated}
use Rattle.cg_group_state.specs.Waiting.{waits_with, after_answers, answered, called, is_waiting}
use Rattle.cg_group_table.specs.Kept.{Each, kept_in}
use Rattle.cg_group_rules.specs.Leave.{after_removal, gone_in, has_joined, leave_taken, left}
use Rattle.cg_request.specs.declared.commit_entry.CommitEntry.{CommitEntry}
use Rattle.cg_group_rules.specs.OffsetCommit.{committed, hearing_committer, keeping_entries}
use Rattle.cg_group_state.specs.declared.effects.Effects.{Effects}
use Rattle.cg_group.specs.InPlace.{ParksKnown, StepKnown}
use Rattle.cg_record.specs.declared.topic_partition.TopicPartition.{TopicPartition}
use Rattle.cg_group_table.specs.Expiry.{lasting, tick, tick_effects}
use Rattle.cg_group.proofs.Sweeping.{each-founded, each-lasting}
use Rattle.cg_group_state.specs.Offsets.{OffsetMap, offsets_after}
use Rattle.cg_group.specs.Machine.{beat, commit, concluded, deleted, drop_command, dropped, join, leave, memberless, handled, sync, with_offset}
use Rattle.cg_group_table.specs.GroupTable.{at_moment, everywhere, find_group, groups_after, Machine, Outcome, outcome, standing, with_group}
use Rattle.cg_group_state.specs.Membership.{has_id, heard, hearing, is_empty, is_preparing, keeping, leads, seating}
use Rattle.cg_group_rules.specs.StaticMember.{replace_static_member, keeps_generation, replaced, replaced_in_place, replacing, successor}
use Rattle.cg_group_table.specs.Recovery.{revived, revived_from, revived_member, revived_with}
use Rattle.cg_record.specs.declared.member_record.MemberRecord.{MemberRecord}
use Rattle.cg_fold.specs.declared.group_record.GroupRecord.{GroupRecord}
use Rattle.cg_fold.specs.declared.group_record.RecordedMembers.{RecordedMembers}
use Rattle.cg_fold.specs.declared.group_record.RecordedMembers.TheVariants as recorded
use Rattle.cg_fold.specs.Durable.{State}
use Rattle.cg_group_rules.specs.Rebalance.{complete_join, emptied, is_ready, init_next_generation, prepare_rebalance, reply_to_joins, try_complete_join, turn_of}
use Rattle.cg_group_table.specs.SessionIndex.{AreKnown, Known, Owns, is_known}
use Rattle.cg_group_rules.specs.Sync.{assigning, propagate_assignment, kept_member, sync_current, sync_taken, sync_waits, reply_to_syncs}
use Rattle.cg_group_rules.specs.Tick.{at_deadline, can_complete, ended, expire_heartbeats, is_due, ticked}
use Rattle.cg_group_state.specs.Staying.{is_overdue, outstays}
use Rattle.std.proofs.lemmas.Bool.{eqb-false, eqb-true, or_from}
use Rattle.cg_group_table.proofs.Framed.{Framed, framed-beat_taken, framed-committed, framed-gone_in, framed-join_known, framed-add_member_and_rebalance, framed-replace_static_member, framed-leave_taken, framed-sync_taken, framed-ticked}
use Rattle.cg_group.proofs.Calling.{each-filter, waits-after_answers, waits-append, waits-assigned, waits-seated, waits-with_member}
use Rattle.cg_group_table.proofs.KeptLists.{each-found, each-put}
use Rattle.cg_group_table.proofs.Removing.{each-without}
use Rattle.cg_group_table.proofs.InOrder.{found_named}
use Rattle.cg_group.proofs.Requests.{Fine, fine-beat, fine-commit, fine-join, fine-leave, fine-sync}
use Rattle.cg_group.proofs.Made.{own_id_new}

module _ (sessions : ℕ → Bool) where
  abbrev allowed : List ℕ → Waits → Bool
  allowed id w = is_known sessions w

  abbrev K : Turn → Type 0
  K t = Known sessions t.group

  known-prepared : (now : ℕ) (t : Turn) → K t → K (prepare_rebalance now t)
  unfolding prepare_rebalance
  known-prepared now t h = waits-after_answers allowed (λ id. refl) Syncs now t.group.members h

  known-in_join_phase : (now : ℕ) (t : Turn) → K t → K (in_join_phase now t)
  known-in_join_phase now t h = elim (is_preparing t.group.phase) as (λ b. K (if b then t else prepare_rebalance now t)) [ true ↦ h | false ↦ known-prepared now t h ]

  known-init_next_generation : (g : Group) → Known sessions g → Known sessions (init_next_generation g)
  unfolding init_next_generation
  known-init_next_generation g h = h

  known-reply_to_joins : (now : ℕ) (t : Turn) → K t → K (reply_to_joins now t)
  unfolding reply_to_joins
  known-reply_to_joins now t h = waits-after_answers allowed (λ id. refl) Joins now t.group.members h

  known-emptied : (now : ℕ) (t : Turn) → K t → K (emptied now t)
  unfolding emptied
  known-emptied now t h = h

  known-completed : (now : ℕ) (t : Turn) → K t → K (complete_join now t)
  unfolding complete_join
  known-completed now t h =
      elim (is_empty t.group.members) as (λ b. K (if b then emptied now t else reply_to_joins now (record t { group = init_next_generation t.group }))) [
        | true ↦ known-emptied now t h
        | false ↦ known-reply_to_joins now (record t { group = init_next_generation t.group }) (known-init_next_generation t.group h)
      ]

  known-tried : (now : ℕ) (t : Turn) → K t → K (try_complete_join now t)
  unfolding try_complete_join
  known-tried now t h = elim (is_ready t.group) as (λ b. K (if b then complete_join now t else t)) [ true ↦ known-completed now t h | false ↦ h ]

  known-waiting : (now : ℕ) (id : List ℕ) (w : Waits) (t : Turn) → is_known sessions w ≡ true → K t → K (waiting now id w t)
  unfolding waiting
  known-waiting now id w t own h = waits-with_member allowed id (waits_with now w) (λ m e k. own) t.group.members h

  known-admitted : (m : Member) (kind : List ℕ) (g : Group) → is_known sessions m.waits ≡ true → Known sessions g → Known sessions (admitted m kind g)
  unfolding admitted
  known-admitted m kind g own h = waits-append allowed g.members m h own

  known-new_member : (now : ℕ) (r : JoinRequest) (id : List ℕ) (ticket : Ticket) → sessions ticket.session ≡ true → is_known sessions (new_member now r id [] (Join ticket)).waits ≡ true
  unfolding new_member
  known-new_member now r id ticket own = own

  known-updating : (r : JoinRequest) (id : List ℕ) (g : Group) → Known sessions g → Known sessions (updating r id g)
  unfolding updating
  known-updating r id g h = waits-with_member allowed id (updated r) (λ m e k. k) g.members h

  known-hearing : (now : ℕ) (id : List ℕ) (g : Group) → Known sessions g → Known sessions (hearing now id g)
  unfolding hearing
  known-hearing now id g h = waits-with_member allowed id (heard now) (λ m e k. k) g.members h

  known-keeping : (stays : Member → Bool) (g : Group) → Known sessions g → Known sessions (keeping stays g)
  unfolding keeping
  known-keeping stays g h = each-filter (λ (m : Member). is_known sessions m.waits ≡ true) stays g.members h

  known-add_member_and_rebalance : (now : ℕ) (r : JoinRequest) (id : List ℕ) (ticket : Ticket) (g : Group) → sessions ticket.session ≡ true → Known sessions g → K (add_member_and_rebalance now r id ticket g)
  unfolding add_member_and_rebalance
  known-add_member_and_rebalance now r id ticket g own h =
      known-tried now _ (known-in_join_phase now _ (known-admitted (new_member now r id [] (Join ticket)) r.kind g (known-new_member now r id ticket own) h))

  known-new_group : (id : List ℕ) → Known sessions (new_group id)
  unfolding new_group
  known-new_group id = tt

  known-rejoined : (now : ℕ) (id : List ℕ) (ticket : Ticket) (t : Turn) → sessions ticket.session ≡ true → K t → K (rejoined now id ticket t)
  unfolding rejoined
  known-rejoined now id ticket t own h = known-tried now _ (known-waiting now id (Join ticket) _ own (known-in_join_phase now t h))

  known-update_member_and_rebalance : (now : ℕ) (r : JoinRequest) (id : List ℕ) (ticket : Ticket) (g : Group) → sessions ticket.session ≡ true → Known sessions g → K (update_member_and_rebalance now r id ticket g)
  unfolding update_member_and_rebalance
  known-update_member_and_rebalance now r id ticket g own h = known-rejoined now id ticket (turn_of (updating r id g)) own (known-updating r id g h)

  known-replaced : (now : ℕ) (r : JoinRequest) (id : List ℕ) (old : Member) (g : Group) → Known sessions g → K (replaced (successor now r id old) old g)
  unfolding replaced replacing seating new_member
  known-replaced now r id old g h = waits-seated allowed (successor now r id old) g.members refl h

  known-replaced_in_place : (ticket : Ticket) (new : MemberRecord) (g : Group) (t : Turn) → K t → K (replaced_in_place ticket new g t)
  unfolding replaced_in_place
  known-replaced_in_place ticket new g t h = h

  known-replace_static_member : (now : ℕ) (r : JoinRequest) (id : List ℕ) (ticket : Ticket) (old : Member) (g : Group) → sessions ticket.session ≡ true → Known sessions g → K (replace_static_member now r id ticket old g)
  unfolding replace_static_member
  known-replace_static_member now r id ticket old g own h =
      let new : Member = successor now r id old in
      let t : Turn = replaced new old g in
      let u : K t = known-replaced now r id old g h in
      elim (keeps_generation t.group) as (λ b. K (if b then replaced_in_place ticket (kept_member g.protocol new) g t else rejoined now id ticket t)) [
        | true ↦ known-replaced_in_place ticket (kept_member g.protocol new) g t u
        | false ↦ known-rejoined now id ticket t own u
      ]

  known-join_current : (now : ℕ) (id : List ℕ) (ticket : Ticket) (m : Member) (g : Group) → Known sessions g → K (join_current now id ticket m g)
  unfolding join_current
  known-join_current now id ticket m g h = known-hearing now id g h

  known-join_known : (now : ℕ) (r : JoinRequest) (id : List ℕ) (ticket : Ticket) (m : Member) (g : Group) → sessions ticket.session ≡ true → Known sessions g → K (join_known now r id ticket m g)
  unfolding join_known
  known-join_known now r id ticket m g own h =
      elim (is_current r m g g.phase) as (λ b. K (if b then join_current now id ticket m g else update_member_and_rebalance now r id ticket g)) [
        | true ↦ known-join_current now id ticket m g h
        | false ↦ known-update_member_and_rebalance now r id ticket g own h
      ]

  known-assigning : (entries : List SyncEntry) (g : Group) → Known sessions g → Known sessions (assigning entries g)
  unfolding assigning
  known-assigning entries g h = waits-assigned allowed entries g.members h

  known-reply_to_syncs : (now : ℕ) (t : Turn) → K t → K (reply_to_syncs now t)
  unfolding reply_to_syncs
  known-reply_to_syncs now t h = waits-after_answers allowed (λ id. refl) Syncs now t.group.members h

  known-distributed : (now : ℕ) (entries : List SyncEntry) (t : Turn) → K t → K (propagate_assignment now entries t)
  unfolding propagate_assignment
  known-distributed now entries t h = known-reply_to_syncs now _ (known-assigning entries t.group h)

  known-sync_waits : (now : ℕ) (r : SyncRequest) (id : List ℕ) (ticket : Ticket) (m : Member) (g : Group) → sessions ticket.session ≡ true → Known sessions g → K (sync_waits now r id ticket m g)
  unfolding sync_waits
  known-sync_waits now r id ticket m g own h =
      let t : Turn = waiting now id (Sync ticket) (turn_of (hearing now id g)) in
      let u : K t = known-waiting now id (Sync ticket) (turn_of (hearing now id g)) own (known-hearing now id g h) in
      elim (leads g m) as (λ b. K (if b then propagate_assignment now r.entries t else t)) [ true ↦ known-distributed now r.entries t u | false ↦ u ]

  known-sync_current : (now : ℕ) (id : List ℕ) (ticket : Ticket) (m : Member) (g : Group) → Known sessions g → K (sync_current now id ticket m g)
  unfolding sync_current
  known-sync_current now id ticket m g h = known-hearing now id g h

  known-sync_taken : (now : ℕ) (r : SyncRequest) (id : List ℕ) (ticket : Ticket) (m : Member) (g : Group) (phase : Phase) → sessions ticket.session ≡ true → Known sessions g → K (sync_taken now r id ticket m g phase)
  unfolding sync_taken
  known-sync_taken now r id ticket m g Completing own h = known-sync_waits now r id ticket m g own h
  known-sync_taken now r id ticket m g Stable own h = known-sync_current now id ticket m g h
  known-sync_taken now r id ticket m g Empty own h = known-sync_current now id ticket m g h
  known-sync_taken now r id ticket m g Preparing own h = known-sync_current now id ticket m g h

  known-beat_taken : (now : ℕ) (id : List ℕ) (ticket : Ticket) (g : Group) → Known sessions g → K (beat_taken now id ticket g)
  unfolding beat_taken
  known-beat_taken now id ticket g h = known-hearing now id g h

  known-after_removal : (now : ℕ) (t : Turn) → K t → K (after_removal now t)
  unfolding after_removal
  known-after_removal now t h =
      known-tried now _ (elim (has_joined t.group.phase) as (λ b. K (if b then prepare_rebalance now t else t)) [ true ↦ known-prepared now t h | false ↦ h ])

  known-left : (id : List ℕ) (ticket : Ticket) (m : Member) (g : Group) → Known sessions g → K (left id ticket m g)
  unfolding left
  known-left id ticket m g h = known-keeping (λ other. not (has_id id other)) g h

  known-leave_taken : (now : ℕ) (id : List ℕ) (ticket : Ticket) (m : Member) (g : Group) → Known sessions g → K (leave_taken now id ticket m g)
  unfolding leave_taken
  known-leave_taken now id ticket m g h = known-after_removal now (left id ticket m g) (known-left id ticket m g h)

  known-gone_in : (now session : ℕ) (g : Group) → Known sessions g → K (gone_in now session g)
  unfolding gone_in
  known-gone_in now session g h = waits-after_answers allowed (λ id. refl) (OfSession session) now g.members h

  known-expired : (now : ℕ) (t : Turn) → K t → K (expire_heartbeats now t)
  unfolding expire_heartbeats
  known-expired now t h =
      elim (list_any (is_overdue now) t.group.members) as (λ b. K (if b then after_removal now (record t { group = keeping (λ m. not (is_overdue now m)) t.group }) else try_complete_join now t)) [
        | true ↦ known-after_removal now (record t { group = keeping (λ m. not (is_overdue now m)) t.group }) (known-keeping (λ m. not (is_overdue now m)) t.group h)
        | false ↦ known-tried now t h
      ]

  known-ended : (now : ℕ) (t : Turn) → K t → K (ended now t)
  unfolding ended
  known-ended now t h =
      elim (can_complete t.group.members) as (λ b. K (if b then complete_join now t else record t { group = record t.group { started = now } })) [
        | true ↦ known-completed now t h
        | false ↦ h
      ]

  known-at_deadline : (now : ℕ) (t : Turn) → K t → K (at_deadline now t)
  unfolding at_deadline
  known-at_deadline now t h =
      elim (is_due now t.group) as (λ b. K (if b then ended now (record t { group = keeping outstays t.group }) else t)) [
        | true ↦ known-ended now (record t { group = keeping outstays t.group }) (known-keeping outstays t.group h)
        | false ↦ h
      ]

  known-ticked : (now : ℕ) (g : Group) → Known sessions g → K (ticked now g)
  unfolding ticked
  known-ticked now g h = known-at_deadline now (expire_heartbeats now (turn_of g)) (known-expired now (turn_of g) h)

  known-committed : (now : ℕ) (entries : List CommitEntry) (ticket : Ticket) (who : Option (List ℕ)) (g : Group) → Known sessions g → K (committed now entries ticket (hearing_committer now who g))
  unfolding keeping_entries
  known-committed now entries ticket None g h = h
  known-committed now entries ticket (Some id) g h = known-hearing now id g h

-- a fact about the group before its step carries over to the group after it
module _ (homes : ℕ → List ℕ → Bool) where
  abbrev at : List ℕ → ℕ → Bool
  at id session = homes session id

  abbrev Home : Group → Type 0
  Home g = Known (at g.id) g

  abbrev Stays : Turn → Type 0
  Stays t = Home t.group

  stays : (id : List ℕ) (t : Turn) → Framed id t → Known (at id) t.group → Stays t
  stays id t framed h = let P : List ℕ → Type 0 = λ x. Known (at x) t.group in subst P (sym framed.0) h

  its_own : (session : ℕ) (o : Option (List ℕ)) (id x : List ℕ) → ((y : List ℕ) → o ≡ Some y → homes session y ≡ true) → o ≡ Some x → id ≡ x → homes session id ≡ true
  its_own session o id x own named same = ap (homes session) same ∙ own x named

  known-concluded : (s : Machine) (ticket : Ticket) (o : Result Turn Code) → Fine Stays o → AreKnown homes s.groups → AreKnown homes (concluded s ticket o).after.groups
  unfolding concluded
  known-concluded s ticket (Ok t) d h = each-put Home t.group s.groups d h
  known-concluded s ticket (Err code) d h = h

  known-groups_after : (turn : Group → Turn) → ((g : Group) → Home g → Stays (turn g)) → (groups : List Group) → AreKnown homes groups → AreKnown homes (groups_after turn groups)
  known-groups_after turn keeps [] h = tt
  known-groups_after turn keeps (g ∷ gs) h = (keeps g h.0, known-groups_after turn keeps gs h.1)

  known-everywhere : (turn : Group → Turn) → ((g : Group) → Home g → Stays (turn g)) → (s : Machine) → AreKnown homes s.groups → AreKnown homes (everywhere turn s).after.groups
  unfolding everywhere
  known-everywhere turn keeps s h = known-groups_after turn keeps s.groups h

  known-deleted : (s : Machine) (ticket : Ticket) (o : Result (List ℕ) Code) → AreKnown homes s.groups → AreKnown homes (deleted s ticket o).after.groups
  unfolding deleted
  known-deleted s ticket (Ok id) h = each-without Home id s.groups h
  known-deleted s ticket (Err code) h = h

  known-dropped : (s : Machine) (ticket : Ticket) (partitions : List TopicPartition) (o : Result (List ℕ) Code) → AreKnown homes s.groups → AreKnown homes (dropped s ticket partitions o).after.groups
  unfolding dropped
  known-dropped s ticket partitions (Ok id) h = each-founded Home s.offsets (drop_command id (with_offset s.offsets id partitions)) id s.groups h
  known-dropped s ticket partitions (Err code) h = h

  known-met : (s : Machine) (e : Event) → Owns homes e → AreKnown homes s.groups → AreKnown homes (handled s e).after.groups
  unfolding handled tick
  known-met s (event.Join ticket r fresh) own h =
      known-concluded s ticket (join s.last r fresh ticket s.groups)
      (fine-join Stays s.last r fresh ticket s.groups
      (λ id new named _.
      let g : Group = new_group id in
      stays g.id (add_member_and_rebalance s.last r new ticket g) (framed-add_member_and_rebalance s.last r new ticket g) (known-add_member_and_rebalance (at g.id) s.last r new ticket g (its_own ticket.session r.group g.id id own named (own_id_new id)) (known-new_group (at g.id) id)))
      (λ id new g named e _ _ _.
      stays g.id (add_member_and_rebalance s.last r new ticket g) (framed-add_member_and_rebalance s.last r new ticket g) (known-add_member_and_rebalance (at g.id) s.last r new ticket g (its_own ticket.session r.group g.id id own named (found_named id s.groups g e)) (each-found Home id s.groups g e h)))
      (λ id new g old named e _ _ _.
      stays g.id (replace_static_member s.last r new ticket old g) (framed-replace_static_member s.last r new ticket old g) (known-replace_static_member (at g.id) s.last r new ticket old g (its_own ticket.session r.group g.id id own named (found_named id s.groups g e)) (each-found Home id s.groups g e h)))
      (λ id own_id g m named e _ _.
      stays g.id (join_known s.last r own_id ticket m g) (framed-join_known s.last r own_id ticket m g) (known-join_known (at g.id) s.last r own_id ticket m g (its_own ticket.session r.group g.id id own named (found_named id s.groups g e)) (each-found Home id s.groups g e h)))) h
  known-met s (event.Sync ticket r) own h =
      known-concluded s ticket (sync s.last r ticket s.groups)
      (fine-sync Stays s.last r ticket s.groups
      (λ id own_id g m named e _ _ _ _.
      stays g.id (sync_taken s.last r own_id ticket m g g.phase) (framed-sync_taken s.last r own_id ticket m g g.phase) (known-sync_taken (at g.id) s.last r own_id ticket m g g.phase (its_own ticket.session r.group g.id id own named (found_named id s.groups g e)) (each-found Home id s.groups g e h)))) h
  known-met s (event.Beat ticket r) own h =
      known-concluded s ticket (beat s.last r ticket s.groups)
      (fine-beat Stays s.last r ticket s.groups (λ id own_id g e. stays g.id (beat_taken s.last own_id ticket g) (framed-beat_taken s.last own_id ticket g) (known-beat_taken (at g.id) s.last own_id ticket g (each-found Home id s.groups g e h)))) h
  known-met s (event.Leave ticket r) own h =
      known-concluded s ticket (leave s.last r ticket s.groups)
      (fine-leave Stays s.last r ticket s.groups (λ id g m e _. stays g.id (leave_taken s.last m.id ticket m g) (framed-leave_taken s.last m.id ticket m g) (known-leave_taken (at g.id) s.last m.id ticket m g (each-found Home id s.groups g e h)))) h
  known-met s (event.Commit ticket r) own h =
      known-concluded s ticket (commit s.last r ticket s.groups)
      (fine-commit Stays s.last r ticket s.groups
      (λ id _. let g : Group = new_group id in stays g.id (committed s.last r.entries ticket g) (framed-committed s.last r.entries ticket None g) (known-committed (at g.id) s.last r.entries ticket None g (known-new_group (at g.id) id)))
      (λ id g who e _. stays g.id (committed s.last r.entries ticket (hearing_committer s.last who g)) (framed-committed s.last r.entries ticket who g) (known-committed (at g.id) s.last r.entries ticket who g (each-found Home id s.groups g e h)))) h
  known-met s (event.Fetch ticket r) own h = h
  known-met s (event.Delete ticket id) own h = known-deleted s ticket (memberless id s.groups) h
  known-met s (event.Drop ticket r) own h = known-dropped s ticket r.partitions (memberless r.group s.groups) h
  known-met s (event.Describe ticket id) own h = h
  known-met s (event.List ticket) own h = h
  known-met s (event.Gone session) own h = known-everywhere (gone_in s.last session) (λ g k. stays g.id (gone_in s.last session g) (framed-gone_in s.last session g) (known-gone_in (at g.id) s.last session g k)) s h
  known-met s event.Tick own h =
      known-groups_after (ticked s.last) (λ g k. stays g.id (ticked s.last g) (framed-ticked s.last g) (known-ticked (at g.id) s.last g k)) (lasting s.loaded s.last s.offsets (offsets_after s.offsets (tick_effects s).commands) s.groups)
      (each-lasting Home s.loaded s.last s.offsets (offsets_after s.offsets (tick_effects s).commands) s.groups h)

-- a group in which a call is parked
pub known-parked_join : (sessions : ℕ → Bool) (now : ℕ) (r : JoinRequest) (id : List ℕ) (ticket : Ticket) (g : Group) → sessions ticket.session ≡ true → Known sessions g → Known sessions (waiting now id (Join ticket) (turn_of (updating r id g))).group
known-parked_join sessions now r id ticket g own h = known-waiting sessions now id (Join ticket) (turn_of (updating r id g)) own (known-updating sessions r id g h)

pub known-parked_sync : (sessions : ℕ → Bool) (now : ℕ) (id : List ℕ) (ticket : Ticket) (g : Group) → sessions ticket.session ≡ true → Known sessions g → Known sessions (waiting now id (Sync ticket) (turn_of (hearing now id g))).group
known-parked_sync sessions now id ticket g own h = known-waiting sessions now id (Sync ticket) (turn_of (hearing now id g)) own (known-hearing sessions now id g h)

-- with more sessions in the index, what was known stays known
module _ (sessions more : ℕ → Bool) (kept : (q : ℕ) → sessions q ≡ true → more q ≡ true) where
  more_waits : (w : Waits) → is_known sessions w ≡ true → is_known more w ≡ true
  more_waits Nothing h = refl
  more_waits (Join t) h = kept t.session h
  more_waits (Sync t) h = kept t.session h

  more_members : (ms : List Member) → Each (λ (m : Member). is_known sessions m.waits ≡ true) ms → Each (λ (m : Member). is_known more m.waits ≡ true) ms
  more_members [] h = tt
  more_members (m ∷ ms) h = (more_waits m.waits h.0, more_members ms h.1)

pub known-more : (homes more : ℕ → List ℕ → Bool) → ((q : ℕ) (id : List ℕ) → homes q id ≡ true → more q id ≡ true) → (groups : List Group) → AreKnown homes groups → AreKnown more groups
known-more homes more kept [] h = tt
known-more homes more kept (g ∷ gs) h = (more_members (at homes g.id) (at more g.id) (λ q k. kept q g.id k) g.members h.0, known-more homes more kept gs h.1)

-- a closed session has no parked calls
module _ (sessions fewer : ℕ → Bool) (now session : ℕ) (kept : (q : ℕ) → (Some session ≡ Some q → ⊥) → sessions q ≡ true → fewer q ≡ true) where
  left_waits : (m : Member) (w : Waits) → is_known sessions w ≡ true
      → is_known fewer (if is_some (called (OfSession session) w) then answered now m else record m { waits = w }).waits ≡ true
  left_waits m Nothing h = refl
  left_waits m (Join t) h =
      (elim (t.session == session) as (λ b. (t.session == session) ≡ b → is_known fewer (if is_some (if b then Some t else None) then answered now m else record m { waits = Join t }).waits ≡ true) [
        | true ↦ λ e. refl
        | false ↦ λ e. kept t.session (λ same. eqb-false t.session session e (cc)) h
      ]) refl
  left_waits m (Sync t) h =
      (elim (t.session == session) as (λ b. (t.session == session) ≡ b → is_known fewer (if is_some (if b then Some t else None) then answered now m else record m { waits = Sync t }).waits ≡ true) [
        | true ↦ λ e. refl
        | false ↦ λ e. kept t.session (λ same. eqb-false t.session session e (cc)) h
      ]) refl

  left_members : (ms : List Member) → Each (λ (m : Member). is_known sessions m.waits ≡ true) ms → Each (λ (m : Member). is_known fewer m.waits ≡ true) (after_answers (OfSession session) now ms)
  unfolding after_answers
  left_members [] h = tt
  left_members (m ∷ ms) h = (left_waits m m.waits h.0, left_members ms h.1)

  left_group : (g : Group) → Known sessions g → Known fewer (gone_in now session g).group
  unfolding gone_in
  left_group g h = left_members g.members h

-- the session index after an event
pub known-after : (homes : ℕ → List ℕ → Bool) (now : ℕ) (groups after : List Group) (e : Event) (made : Effects) → Owns homes e → handled (at_moment now groups) e ≡ outcome (at_moment now after) made → AreKnown homes groups → AreKnown homes after
known-after homes now groups after e made own is h =
    let P : List Group → Type 0 = λ gs. AreKnown homes gs in
    subst P (ap (λ (o : Outcome). o.after.groups) is) (known-met homes (at_moment now groups) e own h)

pub known-dropped_after : (homes : ℕ → List ℕ → Bool) (now : ℕ) (groups after : List Group) (offsets : OffsetMap) (ticket : Ticket) (r : DropRequest) (made : Effects)
    → dropped (standing 0 now groups offsets) ticket r.partitions (memberless r.group groups) ≡ outcome (standing 0 now after offsets) made → AreKnown homes groups → AreKnown homes after
known-dropped_after homes now groups after offsets ticket r made is h =
    let P : List Group → Type 0 = λ gs. AreKnown homes gs in
    subst P (ap (λ (o : Outcome). o.after.groups) is) (known-dropped homes (standing 0 now groups offsets) ticket r.partitions (memberless r.group groups) h)

ticked_home : (homes : ℕ → List ℕ → Bool) (now : ℕ) (g : Group) → Home homes g → Home homes (ticked now g).group
ticked_home homes now g k = stays homes g.id (ticked now g) (framed-ticked now g) (known-ticked (at homes g.id) now g k)

-- a tick parks no call
pub tick_known : (now : ℕ) (own : List ℕ) (groups : List Group) (g : Group) → find_group own groups ≡ Some g → StepKnown groups (ticked now g)
tick_known now own groups g found homes h = each-put (Home homes) (ticked now g).group groups (ticked_home homes now g (each-found (Home homes) own groups g found h)) h

heard_home : (homes : ℕ → List ℕ → Bool) (now : ℕ) (id : List ℕ) (g : Group) → Home homes g → Home homes (hearing now id g)
unfolding hearing
heard_home homes now id g k = known-hearing (at homes g.id) now id g k

-- the same, where a member was marked as heard in place
pub known-heard : (homes : ℕ → List ℕ → Bool) (now : ℕ) (id own : List ℕ) (groups after : List Group) (g : Group) → find_group own groups ≡ Some g → after ≡ with_group (hearing now id g) groups → AreKnown homes groups → AreKnown homes after
known-heard homes now id own groups after g found put h =
    let P : List Group → Type 0 = λ gs. AreKnown homes gs in
    subst P (sym put) (each-put (Home homes) (hearing now id g) groups (heard_home homes now id g (each-found (Home homes) own groups g found h)) h)

-- no call is parked on a session that is not one of these
module _ (sessions : ℕ → Bool) (session : ℕ) (idle : sessions session ≡ false) where
  idle_waits : (w : Waits) → is_known sessions w ≡ true → is_some (called (OfSession session) w) ≡ false
  idle_waits Nothing h = refl
  idle_waits (Join t) h =
      (elim (t.session == session) as (λ b. (t.session == session) ≡ b → is_some (if b then Some t else None) ≡ false) [
        | true ↦ λ e. let same : t.session ≡ session = eqb-true t.session session e in cc
        | false ↦ λ e. refl
      ]) refl
  idle_waits (Sync t) h =
      (elim (t.session == session) as (λ b. (t.session == session) ≡ b → is_some (if b then Some t else None) ≡ false) [
        | true ↦ λ e. let same : t.session ≡ session = eqb-true t.session session e in cc
        | false ↦ λ e. refl
      ]) refl

  idle_members : (ms : List Member) → Each (λ (m : Member). is_known sessions m.waits ≡ true) ms → list_any (is_waiting (OfSession session)) ms ≡ false
  idle_members [] h = refl
  idle_members (m ∷ ms) h = or_from (is_waiting (OfSession session) m) (list_any (is_waiting (OfSession session)) ms) (idle_waits m.waits h.0) (idle_members ms h.1)

-- no call of a session is parked in a group that the index does not have for it
pub known-apart : (homes : ℕ → List ℕ → Bool) (session : ℕ) (groups : List Group) → AreKnown homes groups → Each (λ g. homes session g.id ≡ false → gone_touches session g ≡ false) groups
known-apart homes session [] h = tt
known-apart homes session (g ∷ gs) h = (λ apart. idle_members (at homes g.id) session apart g.members h.0, known-apart homes session gs h.1)

-- the groups after the end of a session, and an index without it
pub known-closed : (homes fewer : ℕ → List ℕ → Bool) (now session : ℕ) → ((q : ℕ) (x : List ℕ) → (Some session ≡ Some q → ⊥) → homes q x ≡ true → fewer q x ≡ true) → (groups : List Group) → AreKnown homes groups → AreKnown fewer (groups_after (gone_in now session) groups)
unfolding gone_in
known-closed homes fewer now session kept [] h = tt
known-closed homes fewer now session kept (g ∷ gs) h = (left_group (at homes g.id) (at fewer g.id) now session (λ q. kept q g.id) g h.0, known-closed homes fewer now session kept gs h.1)

-- after recovery no call is parked
module _ (sessions : ℕ → Bool) (now : ℕ) where
  known-revived_members : (protocol : List ℕ) (ms : List MemberRecord) → Each (λ (m : Member). is_known sessions m.waits ≡ true) (map (revived_member now protocol) ms)
  unfolding revived_member
  known-revived_members protocol [] = tt
  known-revived_members protocol (m ∷ ms) = (refl, known-revived_members protocol ms)

  known_with : (id : List ℕ) (r : GroupRecord) (o : RecordedMembers) → Known sessions (revived_with now id r o)
  unfolding revived_with
  known_with id r (recorded.Roster roster) = known-revived_members roster.protocol roster.members
  known_with id r (recorded.Empty moment) = tt

  known_from : (id : List ℕ) (o : Option GroupRecord) → Known sessions (revived_from now id o)
  known_from id None = known-new_group sessions id
  known_from id (Some r) = known_with id r r.members

  known-revived_one : (state : State) (id : List ℕ) → Known sessions (revived now state id)
  unfolding revived
  known-revived_one state id = known_from id (kept_in state id)

pub known-revived : (homes : ℕ → List ℕ → Bool) (now : ℕ) (state : State) (names : List (List ℕ)) → AreKnown homes (map (revived now state) names)
known-revived homes now state [] = tt
known-revived homes now state (x ∷ xs) = (known-revived_one (at homes (revived now state x).id) now state x, known-revived homes now state xs)

-- the step of a request is one of the group that it names
one_name : (o : Option (List ℕ)) (x y : List ℕ) → o ≡ Some x → o ≡ Some y → x ≡ y
one_name o x y e f = let same : Some x ≡ Some y = sym e ∙ f in cc

named-join : (now : ℕ) (r : JoinRequest) (fresh : List ℕ) (ticket : Ticket) (groups : List Group) → Fine (λ t. (x : List ℕ) → r.group ≡ Some x → t.group.id ≡ x) (join now r fresh ticket groups)
named-join now r fresh ticket groups =
    fine-join (λ t. (x : List ℕ) → r.group ≡ Some x → t.group.id ≡ x) now r fresh ticket groups
    (λ id new named _ x k. (framed-add_member_and_rebalance now r new ticket (new_group id)).0 ∙ own_id_new id ∙ one_name r.group id x named k)
    (λ id new g named e _ _ _ x k. (framed-add_member_and_rebalance now r new ticket g).0 ∙ found_named id groups g e ∙ one_name r.group id x named k)
    (λ id new g old named e _ _ _ x k. (framed-replace_static_member now r new ticket old g).0 ∙ found_named id groups g e ∙ one_name r.group id x named k)
    (λ id own g m named e _ _ x k. (framed-join_known now r own ticket m g).0 ∙ found_named id groups g e ∙ one_name r.group id x named k)

named-sync : (now : ℕ) (r : SyncRequest) (ticket : Ticket) (groups : List Group) → Fine (λ t. (x : List ℕ) → r.group ≡ Some x → t.group.id ≡ x) (sync now r ticket groups)
named-sync now r ticket groups =
    fine-sync (λ t. (x : List ℕ) → r.group ≡ Some x → t.group.id ≡ x) now r ticket groups
    (λ id own g m named e _ _ _ _ x k. (framed-sync_taken now r own ticket m g g.phase).0 ∙ found_named id groups g e ∙ one_name r.group id x named k)

-- a refusal leaves the groups as they were
known-refused : (homes : ℕ → List ℕ → Bool) (now : ℕ) (groups after : List Group) (ticket : Ticket) (code : Code) (made : Effects) → concluded (at_moment now groups) ticket (Err code) ≡ outcome (at_moment now after) made → AreKnown homes groups → AreKnown homes after
unfolding concluded
known-refused homes now groups after ticket code made is h = let P : List Group → Type 0 = λ gs. AreKnown homes gs in subst P (ap (λ (o : Outcome). o.after.groups) is) h

-- the session index after a request that may park a call, if the index has the group of the step
module _ (now : ℕ) (groups : List Group) (ticket : Ticket) where
  parks : (group : Option (List ℕ)) (o : Result Turn Code) → ((homes : ℕ → List ℕ → Bool) (after : List Group) (made : Effects) → ((x : List ℕ) → group ≡ Some x → homes ticket.session x ≡ true) → concluded (at_moment now groups) ticket o ≡ outcome (at_moment now after) made → AreKnown homes groups → AreKnown homes after)
      → Fine (λ t. (x : List ℕ) → group ≡ Some x → t.group.id ≡ x) o → ParksKnown now groups ticket o
  parks group (Ok t) known named homes after made noted is h = known homes after made (λ x k. let P : List ℕ → Type 0 = λ i. homes ticket.session i ≡ true in subst P (named x k) (noted t.group.id refl)) is h
  parks group (Err code) known named homes after made noted is h = known-refused homes now groups after ticket code made is h

  pub parks-join : (r : JoinRequest) (fresh : List ℕ) → ParksKnown now groups ticket (join now r fresh ticket groups)
  unfolding handled
  parks-join r fresh = parks r.group (join now r fresh ticket groups) (λ homes after made own is h. known-after homes now groups after (event.Join ticket r fresh) made own is h) (named-join now r fresh ticket groups)

  pub parks-sync : (r : SyncRequest) → ParksKnown now groups ticket (sync now r ticket groups)
  unfolding handled
  parks-sync r = parks r.group (sync now r ticket groups) (λ homes after made own is h. known-after homes now groups after (event.Sync ticket r) made own is h) (named-sync now r ticket groups)
