-- Which steps leave an Empty group not stale before a given moment, and a group its type.
use Rattle.std.proofs.Common.{◌≡◌, ◌≤◌, ◌+◌, ℕ, Bool, true, false, not, List, [], Option, Some, None, is_some, refl, sym, ◌∙◌}
use Rattle.std.specs.Prelude.{if◌then◌else◌}
use Rattle.std.specs.List.{list_any}
use Rattle.std.proofs.lemmas.Bool.{false≢true}
use Rattle.cg_request.specs.declared.commit_entry.CommitEntry.{CommitEntry}
use Rattle.cg_request.specs.declared.request_fields.JoinRequest.{JoinRequest}
use Rattle.cg_request.specs.declared.request_fields.SyncEntry.{SyncEntry}
use Rattle.cg_request.specs.declared.request_fields.SyncRequest.{SyncRequest}
use Rattle.cg_request.specs.declared.ticket.Ticket.{Ticket}
use Rattle.cg_record.specs.declared.member_record.MemberRecord.{MemberRecord}
use Rattle.cg_group_state.specs.declared.group.Group.{Group}
use Rattle.cg_group_state.specs.declared.group.Phase.{Phase}
use Rattle.cg_group_state.specs.declared.group.Phase.TheVariants.{Empty, Preparing, Completing, Stable}
use Rattle.cg_group_state.specs.declared.member.Member.{Member}
use Rattle.cg_group_state.specs.declared.member.Waits.{Waits}
use Rattle.cg_group_state.specs.declared.member.Waits.TheVariants.{Join, Sync}
use Rattle.cg_group_state.specs.declared.turn.Turn.{Turn}
use Rattle.cg_group_rules.specs.Join.{admitted, in_join_phase, is_current, update_member_and_rebalance, join_current, join_known, add_member_and_rebalance, new_member, rejoined, updating, waiting}
use Rattle.cg_group_rules.specs.Leave.{after_removal, gone_in, has_joined, leave_taken, left}
use Rattle.cg_group_state.specs.Membership.{hearing, is_empty, is_preparing, keeping, leads}
use Rattle.cg_group_rules.specs.Rebalance.{complete_join, emptied, is_ready, init_next_generation, prepare_rebalance, reply_to_joins, try_complete_join, turn_of}
use Rattle.cg_group_rules.specs.StaticMember.{replace_static_member, keeps_generation, replaced, replaced_in_place, replacing, successor}
use Rattle.cg_group_rules.specs.Sync.{assigning, propagate_assignment, kept_member, sync_current, sync_taken, sync_waits, reply_to_syncs}
use Rattle.cg_group_rules.specs.Tick.{at_deadline, can_complete, ended, expire_heartbeats, is_due, ticked}
use Rattle.cg_group_state.specs.Staying.{is_overdue, outstays}
use Rattle.cg_group_rules.specs.Heartbeat.{beat_taken}
use Rattle.cg_group_rules.specs.OffsetCommit.{committed, hearing_committer, keeping_entries}
use Rattle.cg_group_table.specs.declared.expiry.TheConstants.{RETENTION_MS}
use Rattle.cg_group_table.specs.Expiry.{is_idle}
use Rattle.cg_group_table.specs.Resting.{Rests}

preparing_not_idle : (p : Phase) → is_preparing p ≡ true → is_idle p ≡ false
preparing_not_idle Empty e = absurd (false≢true e)
preparing_not_idle Preparing e = refl
preparing_not_idle Completing e = refl
preparing_not_idle Stable e = refl

module _ (until loaded now : ℕ) (early : until ≤ now + RETENTION_MS) (typed : Bool) where
  -- a type is kept
  abbrev Typed : Group → Type 0
  Typed g = typed ≡ true → is_some g.kind ≡ true

  -- and the group rests
  abbrev pub Still : Turn → Type 0
  Still t = Typed t.group × Rests until loaded t.group

  still-prepared : (t : Turn) → Typed t.group → Still (prepare_rebalance now t)
  unfolding prepare_rebalance
  still-prepared t typed = (typed, λ idle _. absurd (false≢true idle))

  still-in_join_phase : (t : Turn) → Typed t.group → Still (in_join_phase now t)
  still-in_join_phase t typed =
      (elim (is_preparing t.group.phase) as (λ b. is_preparing t.group.phase ≡ b → Still (if b then t else prepare_rebalance now t)) [
        | true ↦ λ e. (typed, λ idle _. absurd (false≢true (sym (preparing_not_idle t.group.phase e) ∙ idle)))
        | false ↦ λ e. still-prepared t typed
      ]) refl

  still-reply_to_joins : (t : Turn) → Typed t.group → Still (reply_to_joins now (record t { group = init_next_generation t.group }))
  unfolding reply_to_joins init_next_generation
  still-reply_to_joins t typed = (typed, λ idle _. absurd (false≢true idle))

  still-emptied : (t : Turn) → Typed t.group → Still (emptied now t)
  unfolding emptied
  still-emptied t typed = (typed, λ _ _. early)

  still-completed : (t : Turn) → Typed t.group → Still (complete_join now t)
  unfolding complete_join
  still-completed t typed =
      elim (is_empty t.group.members) as (λ b. Still (if b then emptied now t else reply_to_joins now (record t { group = init_next_generation t.group }))) [
        | true ↦ still-emptied t typed
        | false ↦ still-reply_to_joins t typed
      ]

  still-tried : (t : Turn) → Still t → Still (try_complete_join now t)
  unfolding try_complete_join
  still-tried t h = elim (is_ready t.group) as (λ b. Still (if b then complete_join now t else t)) [ true ↦ still-completed t h.0 | false ↦ h ]

  typed-admitted : (m : Member) (kind : List ℕ) (g : Group) → Typed g → Typed (admitted m kind g)
  unfolding admitted
  typed-admitted m kind g h is = elim (is_empty g.members) as (λ b. is_some (if b then Some kind else g.kind) ≡ true) [ true ↦ refl | false ↦ h is ]

  pub still-add_member_and_rebalance : (r : JoinRequest) (id : List ℕ) (ticket : Ticket) (g : Group) → Typed g → Still (add_member_and_rebalance now r id ticket g)
  unfolding add_member_and_rebalance
  still-add_member_and_rebalance r id ticket g h =
      let m : Member = new_member now r id [] (Join ticket) in
      still-tried (in_join_phase now (turn_of (admitted m r.kind g))) (still-in_join_phase (turn_of (admitted m r.kind g)) (typed-admitted m r.kind g h))

  still-waiting : (own : List ℕ) (waits : Waits) (t : Turn) → Still t → Still (waiting now own waits t)
  unfolding waiting
  still-waiting own waits t h = h

  still-rejoined : (own : List ℕ) (ticket : Ticket) (t : Turn) → Typed t.group → Still (rejoined now own ticket t)
  unfolding rejoined
  still-rejoined own ticket t h = still-tried (waiting now own (Join ticket) (in_join_phase now t)) (still-waiting own (Join ticket) (in_join_phase now t) (still-in_join_phase t h))

  still-hearing : (id : List ℕ) (g : Group) → Still (turn_of g) → Still (turn_of (hearing now id g))
  unfolding hearing
  still-hearing id g h = h

  typed-updating : (r : JoinRequest) (id : List ℕ) (g : Group) → Typed g → Typed (updating r id g)
  unfolding updating
  typed-updating r id g h = h

  still-update_member_and_rebalance : (r : JoinRequest) (id : List ℕ) (ticket : Ticket) (g : Group) → Typed g → Still (update_member_and_rebalance now r id ticket g)
  unfolding update_member_and_rebalance
  still-update_member_and_rebalance r id ticket g h = still-rejoined id ticket (turn_of (updating r id g)) (typed-updating r id g h)

  still-join_current : (id : List ℕ) (ticket : Ticket) (m : Member) (g : Group) → Still (turn_of g) → Still (join_current now id ticket m g)
  unfolding join_current
  still-join_current id ticket m g h = still-hearing id g h

  pub still-join_known : (r : JoinRequest) (id : List ℕ) (ticket : Ticket) (m : Member) (g : Group) → Still (turn_of g) → Still (join_known now r id ticket m g)
  unfolding join_known
  still-join_known r id ticket m g h =
      elim (is_current r m g g.phase) as (λ b. Still (if b then join_current now id ticket m g else update_member_and_rebalance now r id ticket g)) [
        | true ↦ still-join_current id ticket m g h
        | false ↦ still-update_member_and_rebalance r id ticket g h.0
      ]

  still-replaced : (new old : Member) (g : Group) → Still (turn_of g) → Still (replaced new old g)
  unfolding replaced replacing
  still-replaced new old g h = h

  still-replaced_in_place : (ticket : Ticket) (new : MemberRecord) (g : Group) (t : Turn) → Still t → Still (replaced_in_place ticket new g t)
  unfolding replaced_in_place
  still-replaced_in_place ticket new g t h = h

  pub still-replace_static_member : (r : JoinRequest) (id : List ℕ) (ticket : Ticket) (old : Member) (g : Group) → Still (turn_of g) → Still (replace_static_member now r id ticket old g)
  unfolding replace_static_member
  still-replace_static_member r id ticket old g h =
      let new : Member = successor now r id old in
      let t : Turn = replaced new old g in
      let u : Still t = still-replaced new old g h in
      elim (keeps_generation t.group) as (λ b. Still (if b then replaced_in_place ticket (kept_member g.protocol new) g t else rejoined now id ticket t)) [
        | true ↦ still-replaced_in_place ticket (kept_member g.protocol new) g t u
        | false ↦ still-rejoined id ticket t u.0
      ]

  still-distributed : (entries : List SyncEntry) (t : Turn) → Typed t.group → Still (propagate_assignment now entries t)
  unfolding propagate_assignment reply_to_syncs assigning
  still-distributed entries t h = (h, λ idle _. absurd (false≢true idle))

  still-sync_waits : (r : SyncRequest) (id : List ℕ) (ticket : Ticket) (m : Member) (g : Group) → Still (turn_of g) → Still (sync_waits now r id ticket m g)
  unfolding sync_waits
  still-sync_waits r id ticket m g h =
      let t : Turn = waiting now id (Sync ticket) (turn_of (hearing now id g)) in
      let u : Still t = still-waiting id (Sync ticket) (turn_of (hearing now id g)) (still-hearing id g h) in
      elim (leads g m) as (λ b. Still (if b then propagate_assignment now r.entries t else t)) [ true ↦ still-distributed r.entries t u.0 | false ↦ u ]

  still-sync_current : (id : List ℕ) (ticket : Ticket) (m : Member) (g : Group) → Still (turn_of g) → Still (sync_current now id ticket m g)
  unfolding sync_current
  still-sync_current id ticket m g h = still-hearing id g h

  pub still-sync_taken : (r : SyncRequest) (id : List ℕ) (ticket : Ticket) (m : Member) (g : Group) (phase : Phase) → Still (turn_of g) → Still (sync_taken now r id ticket m g phase)
  unfolding sync_taken
  still-sync_taken r id ticket m g Completing h = still-sync_waits r id ticket m g h
  still-sync_taken r id ticket m g Stable h = still-sync_current id ticket m g h
  still-sync_taken r id ticket m g Empty h = still-sync_current id ticket m g h
  still-sync_taken r id ticket m g Preparing h = still-sync_current id ticket m g h

  pub still-beat_taken : (id : List ℕ) (ticket : Ticket) (g : Group) → Still (turn_of g) → Still (beat_taken now id ticket g)
  unfolding beat_taken
  still-beat_taken id ticket g h = still-hearing id g h

  pub still-committed : (entries : List CommitEntry) (ticket : Ticket) (who : Option (List ℕ)) (g : Group) → Still (turn_of g) → Still (committed now entries ticket (hearing_committer now who g))
  unfolding keeping_entries
  still-committed entries ticket None g h = h
  still-committed entries ticket (Some id) g h = still-hearing id g h

  still-keeping : (stays : Member → Bool) (t : Turn) → Still t → Still (record t { group = keeping stays t.group })
  unfolding keeping
  still-keeping stays t h = h

  still-after_removal : (t : Turn) → Still t → Still (after_removal now t)
  unfolding after_removal
  still-after_removal t h =
      still-tried (if has_joined t.group.phase then prepare_rebalance now t else t)
      (elim (has_joined t.group.phase) as (λ b. Still (if b then prepare_rebalance now t else t)) [ true ↦ still-prepared t h.0 | false ↦ h ])

  still-left : (id : List ℕ) (ticket : Ticket) (m : Member) (g : Group) → Still (turn_of g) → Still (left id ticket m g)
  unfolding left keeping
  still-left id ticket m g h = h

  pub still-leave_taken : (id : List ℕ) (ticket : Ticket) (m : Member) (g : Group) → Still (turn_of g) → Still (leave_taken now id ticket m g)
  unfolding leave_taken
  still-leave_taken id ticket m g h = still-after_removal (left id ticket m g) (still-left id ticket m g h)

  pub still-gone_in : (session : ℕ) (g : Group) → Still (turn_of g) → Still (gone_in now session g)
  unfolding gone_in
  still-gone_in session g h = h

  still-expired : (t : Turn) → Still t → Still (expire_heartbeats now t)
  unfolding expire_heartbeats
  still-expired t h =
      elim (list_any (is_overdue now) t.group.members) as (λ b. Still (if b then after_removal now (record t { group = keeping (λ m. not (is_overdue now m)) t.group }) else try_complete_join now t)) [
        | true ↦ still-after_removal (record t { group = keeping (λ m. not (is_overdue now m)) t.group }) (still-keeping (λ m. not (is_overdue now m)) t h)
        | false ↦ still-tried t h
      ]

  still-ended : (t : Turn) → Still t → Still (ended now t)
  unfolding ended
  still-ended t h =
      elim (can_complete t.group.members) as (λ b. Still (if b then complete_join now t else record t { group = record t.group { started = now } })) [
        | true ↦ still-completed t h.0
        | false ↦ h
      ]

  still-at_deadline : (t : Turn) → Still t → Still (at_deadline now t)
  unfolding at_deadline
  still-at_deadline t h =
      elim (is_due now t.group) as (λ b. Still (if b then ended now (record t { group = keeping outstays t.group }) else t)) [
        | true ↦ still-ended (record t { group = keeping outstays t.group }) (still-keeping outstays t h)
        | false ↦ h
      ]

  pub still-ticked : (g : Group) → Still (turn_of g) → Still (ticked now g)
  unfolding ticked
  still-ticked g h = still-at_deadline (expire_heartbeats now (turn_of g)) (still-expired (turn_of g) h)
