-- The JOIN replies of an event in one group name the same leader, protocol and generation.
use Rattle.std.proofs.Common.{◌≡◌, ℕ, Bool, true, false, List, [], ◌∷◌, ◌++◌, map, refl, sym, ◌∙◌, subst, Option, Some, None, Result, Ok, Err}
use Rattle.std.proofs.lemmas.List.{append-nil}
use Rattle.std.specs.Prelude.{if◌then◌else◌}
use Rattle.std.specs.List.{flat_map}
use Rattle.std.proofs.lemmas.Bool.{and_parts, false≢true}
use Rattle.cg_names.specs.declared.code.Code.{Code}
use Rattle.cg_record.specs.declared.member_record.MemberRecord.{MemberRecord}
use Rattle.cg_request.specs.declared.event.Event.{Event}
use Rattle.cg_request.specs.declared.event.Event.TheVariants as event
use Rattle.cg_group_state.specs.declared.group.Group.{Group}
use Rattle.cg_group_state.specs.declared.group.Phase.{Phase}
use Rattle.cg_group_state.specs.declared.group.Phase.TheVariants.{Empty, Preparing, Completing, Stable}
use Rattle.cg_group_state.specs.declared.member.Member.{Member}
use Rattle.cg_group_state.specs.declared.member.Waits.TheVariants.{Join, Sync}
use Rattle.cg_group_state.specs.declared.reply.Reply.{Reply}
use Rattle.cg_group_state.specs.declared.reply.Reply.TheVariants as reply
use Rattle.cg_request.specs.declared.request_fields.JoinRequest.{JoinRequest}
use Rattle.cg_request.specs.declared.request_fields.SyncRequest.{SyncRequest}
use Rattle.cg_request.specs.declared.request_fields.SyncEntry.{SyncEntry}
use Rattle.cg_request.specs.declared.ticket.Ticket.{Ticket}
use Rattle.cg_group_state.specs.declared.turn.Turn.{Turn}
use Rattle.cg_group_rules.specs.Heartbeat.{beat_taken}
use Rattle.cg_group_rules.specs.Join.{admitted, is_current, update_member_and_rebalance, join_current, join_known, add_member_and_rebalance, new_group, new_member, rejoined, updating, waiting}
use Rattle.cg_group_table.specs.Kept.{Each}
use Rattle.cg_group.specs.Laws.{IsInRounds, IsOneRound, Names, RoundsAreOne, replies_by_group}
use Rattle.cg_record.specs.declared.topic_partition.TopicPartition.{TopicPartition}
use Rattle.cg_group_rules.specs.OffsetFetch.{fetched}
use Rattle.cg_group_state.specs.Offsets.{OffsetMap}
use Rattle.cg_group_rules.specs.Leave.{after_removal, gone_in, leave_taken, left}
use Rattle.cg_request.specs.declared.commit_entry.CommitEntry.{CommitEntry}
use Rattle.cg_group_rules.specs.OffsetCommit.{committed, hearing_committer, keeping_entries}
use Rattle.cg_group_table.specs.Expiry.{tick}
use Rattle.cg_group.specs.Machine.{at_event, beat, commit, concluded, deleted, describe, dropped, join, leave, memberless, handled, step, sync}
use Rattle.cg_group_table.specs.GroupTable.{Machine, everywhere}
use Rattle.cg_group_state.specs.Membership.{hearing, is_empty, is_preparing, keeping, leads}
use Rattle.cg_group_rules.specs.Rebalance.{complete_join, emptied, is_ready, joined_reply, init_next_generation, reply_to_joins, try_complete_join, turn_of}
use Rattle.cg_group_rules.specs.Sync.{propagate_assignment, kept_member, sync_current, sync_taken, sync_waits, synced_reply, reply_to_syncs}
use Rattle.cg_group_rules.specs.Tick.{at_deadline, can_complete, ended, is_due, ticked}
use Rattle.cg_group_state.specs.Staying.{outstays}
use Rattle.cg_group_rules.specs.StaticMember.{replace_static_member, keeps_generation, replaced, replaced_in_place, replaced_reply, successor}
use Rattle.cg_group_state.proofs.Together.{flat_map-map}
use Rattle.cg_group_table.proofs.Framed.{each-append}
use Rattle.cg_group.proofs.KeptMachine.{each-over}
use Rattle.cg_group.proofs.Requests.{Fine, fine-beat, fine-commit, fine-join, fine-leave, fine-sync}
use Rattle.cg_group.proofs.Telling.{Told, each-answers, each-any, expired_tried, told-beat_taken, told-completed, told-gone_in, told-in_join_phase, told-left, told-rejoined, told-removal, told-replaced, told-tried, told-waiting}

-- not a JOIN reply
abbrev Bare : Reply → Type 0
Bare (reply.Joined j) = ⊥
Bare (reply.Synced bytes) = Unit {0}
Bare reply.Done = Unit {0}
Bare (reply.Fetched partitions) = Unit {0}
Bare (reply.Described d) = Unit {0}
Bare (reply.Groups groups) = Unit {0}
Bare (reply.Refused code) = Unit {0}

-- a JOIN reply for the group's current generation, or another reply
abbrev OfRound : Group → Reply → Type 0
OfRound g r = Names g.generation g.protocol g.leader r

bare_of : (g : Group) (r : Reply) → Bare r → OfRound g r
bare_of g (reply.Joined j) h = absurd h
bare_of g (reply.Synced bytes) h = tt
bare_of g reply.Done h = tt
bare_of g (reply.Fetched partitions) h = tt
bare_of g (reply.Described d) h = tt
bare_of g (reply.Groups groups) h = tt
bare_of g (reply.Refused code) h = tt

round_of : (g : Group) (replies : List (Ticket × Reply)) → Each (λ r. OfRound g r.1) replies → IsOneRound replies
round_of g replies h = record { generation = g.generation; protocol = g.protocol; leader = g.leader; each = h }

bare_round : (g : Group) (replies : List (Ticket × Reply)) → Each (λ r. Bare r.1) replies → IsOneRound replies
bare_round g replies h = round_of g replies (each-over (λ r. Bare r.1) (λ r. OfRound g r.1) (λ r k. bare_of g r.1 k) replies h)

own_round : (g : Group) (m : Member) → OfRound g (joined_reply g m)
unfolding joined_reply
own_round g m = (refl, refl, refl)

round-tried : (now : ℕ) (t : Turn) → Told Bare t → IsOneRound (try_complete_join now t).replies
round-tried now t h =
    let g : Group = init_next_generation t.group in
    round_of g (try_complete_join now t).replies (told-tried (OfRound g) (λ _. tt) now t (own_round g) (each-over (λ r. Bare r.1) (λ r. OfRound g r.1) (λ r k. bare_of g r.1 k) t.replies h))

round-completed : (now : ℕ) (t : Turn) → Told Bare t → IsOneRound (complete_join now t).replies
round-completed now t h =
    let g : Group = init_next_generation t.group in
    round_of g (complete_join now t).replies (told-completed (OfRound g) (λ _. tt) now t (own_round g) (each-over (λ r. Bare r.1) (λ r. OfRound g r.1) (λ r k. bare_of g r.1 k) t.replies h))

-- while the rebalance is under way, no JOIN got its reply

abbrev Joins : Turn → Bool
Joins t = is_preparing t.group.phase

joins-emptied : (now : ℕ) (t : Turn) → Joins (emptied now t) ≡ false
unfolding emptied
joins-emptied now t = refl

joins-round : (now : ℕ) (t : Turn) → Joins (reply_to_joins now (record t { group = init_next_generation t.group })) ≡ false
unfolding reply_to_joins init_next_generation
joins-round now t = refl

joins-completed : (now : ℕ) (t : Turn) → Joins (complete_join now t) ≡ false
unfolding complete_join
joins-completed now t =
    elim (is_empty t.group.members) as (λ b. Joins (if b then emptied now t else reply_to_joins now (record t { group = init_next_generation t.group })) ≡ false) [ true ↦ joins-emptied now t | false ↦ joins-round now t ]

bare-tried : (now : ℕ) (t : Turn) → Told Bare t → Joins (try_complete_join now t) ≡ true → Told Bare (try_complete_join now t)
unfolding try_complete_join
bare-tried now t h =
    elim (is_ready t.group) as (λ b. Joins (if b then complete_join now t else t) ≡ true → Told Bare (if b then complete_join now t else t)) [
      | true ↦ λ e. absurd (false≢true (sym (joins-completed now t) ∙ e))
      | false ↦ λ e. h
    ]

-- each event

round-add_member_and_rebalance : (now : ℕ) (r : JoinRequest) (new : List ℕ) (ticket : Ticket) (g : Group) → IsOneRound (add_member_and_rebalance now r new ticket g).replies
unfolding add_member_and_rebalance
round-add_member_and_rebalance now r new ticket g = round-tried now _ (told-in_join_phase Bare (λ _. tt) now (turn_of (admitted (new_member now r new [] (Join ticket)) r.kind g)) tt)

round-rejoined : (now : ℕ) (own : List ℕ) (ticket : Ticket) (t : Turn) → Told Bare t → IsOneRound (rejoined now own ticket t).replies
unfolding rejoined
round-rejoined now own ticket t h = round-tried now _ (told-rejoined Bare (λ _. tt) now own ticket t h)

round-update_member_and_rebalance : (now : ℕ) (r : JoinRequest) (own : List ℕ) (ticket : Ticket) (g : Group) → IsOneRound (update_member_and_rebalance now r own ticket g).replies
unfolding update_member_and_rebalance
round-update_member_and_rebalance now r own ticket g = round-rejoined now own ticket (turn_of (updating r own g)) tt

round-replaced_in_place : (ticket : Ticket) (new : MemberRecord) (g : Group) (t : Turn) → Told Bare t → IsOneRound (replaced_in_place ticket new g t).replies
unfolding replaced_in_place
round-replaced_in_place ticket new g t h =
    round_of g (t.replies ++ (ticket, replaced_reply new.id g) ∷ [])
    (each-append (λ r. OfRound g r.1) t.replies ((ticket, replaced_reply new.id g) ∷ []) (each-over (λ r. Bare r.1) (λ r. OfRound g r.1) (λ r k. bare_of g r.1 k) t.replies h) ((refl, refl, refl), tt))

round-replace_static_member : (now : ℕ) (r : JoinRequest) (id : List ℕ) (ticket : Ticket) (old : Member) (g : Group) → IsOneRound (replace_static_member now r id ticket old g).replies
unfolding replace_static_member
round-replace_static_member now r id ticket old g =
    let new : Member = successor now r id old in
    let t : Turn = replaced new old g in
    let h : Told Bare t = told-replaced Bare (λ _. tt) new old g in
    elim (keeps_generation t.group) as (λ b. IsOneRound (if b then replaced_in_place ticket (kept_member g.protocol new) g t else rejoined now id ticket t).replies) [
      | true ↦ round-replaced_in_place ticket (kept_member g.protocol new) g t h
      | false ↦ round-rejoined now id ticket t h
    ]

round-join_current : (now : ℕ) (own : List ℕ) (ticket : Ticket) (m : Member) (g : Group) → IsOneRound (join_current now own ticket m g).replies
unfolding join_current
round-join_current now own ticket m g = round_of g ((ticket, joined_reply g m) ∷ []) (own_round g m, tt)

round-join_known : (now : ℕ) (r : JoinRequest) (own : List ℕ) (ticket : Ticket) (m : Member) (g : Group) → IsOneRound (join_known now r own ticket m g).replies
unfolding join_known
round-join_known now r own ticket m g =
    elim (is_current r m g g.phase) as (λ b. IsOneRound (if b then join_current now own ticket m g else update_member_and_rebalance now r own ticket g).replies) [
      | true ↦ round-join_current now own ticket m g
      | false ↦ round-update_member_and_rebalance now r own ticket g
    ]

bare-reply_to_syncs : (now : ℕ) (t : Turn) → Told Bare t → Told Bare (reply_to_syncs now t)
unfolding reply_to_syncs
bare-reply_to_syncs now t h = each-append (λ r. Bare r.1) t.replies _ h (each-answers (λ r. Bare r.1) _ synced_reply t.group.members (each-any _ (λ m t e. tt) t.group.members))

bare-distributed : (now : ℕ) (entries : List SyncEntry) (t : Turn) → Told Bare t → Told Bare (propagate_assignment now entries t)
unfolding propagate_assignment
bare-distributed now entries t h = bare-reply_to_syncs now _ h

bare-sync_waits : (now : ℕ) (r : SyncRequest) (own : List ℕ) (ticket : Ticket) (m : Member) (g : Group) → Told Bare (sync_waits now r own ticket m g)
unfolding sync_waits
bare-sync_waits now r own ticket m g =
    let t : Turn = waiting now own (Sync ticket) (turn_of (hearing now own g)) in
    let h : Told Bare t = told-waiting Bare (λ _. tt) now own (Sync ticket) (turn_of (hearing now own g)) tt in
    elim (leads g m) as (λ b. Told Bare (if b then propagate_assignment now r.entries t else t)) [ true ↦ bare-distributed now r.entries t h | false ↦ h ]

bare-sync_current : (now : ℕ) (own : List ℕ) (ticket : Ticket) (m : Member) (g : Group) → Told Bare (sync_current now own ticket m g)
unfolding sync_current
bare-sync_current now own ticket m g = (tt, tt)

bare-sync_taken : (now : ℕ) (r : SyncRequest) (own : List ℕ) (ticket : Ticket) (m : Member) (g : Group) (phase : Phase) → Told Bare (sync_taken now r own ticket m g phase)
unfolding sync_taken
bare-sync_taken now r own ticket m g Completing = bare-sync_waits now r own ticket m g
bare-sync_taken now r own ticket m g Stable = bare-sync_current now own ticket m g
bare-sync_taken now r own ticket m g Empty = bare-sync_current now own ticket m g
bare-sync_taken now r own ticket m g Preparing = bare-sync_current now own ticket m g

round-leave_taken : (now : ℕ) (own : List ℕ) (ticket : Ticket) (m : Member) (g : Group) → IsOneRound (leave_taken now own ticket m g).replies
unfolding leave_taken after_removal
round-leave_taken now own ticket m g = round-tried now _ (told-removal Bare (λ _. tt) now (left own ticket m g) (told-left Bare (λ _. tt) tt own ticket m g))

round-ended : (now : ℕ) (t : Turn) → Told Bare t → IsOneRound (ended now t).replies
unfolding ended
round-ended now t h =
    elim (can_complete t.group.members) as (λ b. IsOneRound (if b then complete_join now t else record t { group = record t.group { started = now } }).replies) [
      | true ↦ round-completed now t h
      | false ↦ bare_round t.group t.replies h
    ]

round-at_deadline : (now : ℕ) (from : Turn) → Told Bare from → IsOneRound (at_deadline now (try_complete_join now from)).replies
unfolding at_deadline
round-at_deadline now from h =
    let t : Turn = try_complete_join now from in
    (elim (is_due now t.group) as (λ b. is_due now t.group ≡ b → IsOneRound (if b then ended now (record t { group = keeping outstays t.group }) else t).replies) [
      | true ↦ λ e. round-ended now (record t { group = keeping outstays t.group }) (bare-tried now from h (and_parts (is_preparing t.group.phase) _ e).0)
      | false ↦ λ e. round-tried now from h
    ]) refl

round-ticked : (now : ℕ) (g : Group) → IsOneRound (ticked now g).replies
unfolding ticked
round-ticked now g =
    let x = expired_tried Bare (λ _. tt) now g in
    let P : Turn → Type 0 = λ t. IsOneRound (at_deadline now t).replies in
    subst P (sym x.is) (round-at_deadline now x.from x.told)

-- the machine

abbrev InRound : Turn → Type 0
InRound t = IsOneRound t.replies

no_round : (replies : List (Ticket × Reply)) → Each (λ r. Names 0 None None r.1) replies → IsOneRound replies
no_round replies h = record { generation = 0; protocol = None; leader = None; each = h }

round-concluded : (s : Machine) (ticket : Ticket) (o : Result Turn Code) → Fine InRound o → IsOneRound (concluded s ticket o).effects.replies
unfolding concluded
round-concluded s ticket (Ok t) h = h
round-concluded s ticket (Err code) h = no_round ((ticket, reply.Refused code) ∷ []) (tt, tt)

round-fetched : (offsets : OffsetMap) (group : Option (List ℕ)) (partitions : List TopicPartition) → Names 0 None None (fetched offsets group partitions)
round-fetched offsets None partitions = tt
round-fetched offsets (Some group) partitions = tt

round-describe : (id : Option (List ℕ)) (groups : List Group) → Names 0 None None (describe id groups)
unfolding describe
round-describe None groups = tt
round-describe (Some id) groups = tt

round-committed : (now : ℕ) (entries : List CommitEntry) (ticket : Ticket) (who : Option (List ℕ)) (g : Group) → InRound (committed now entries ticket (hearing_committer now who g))
unfolding keeping_entries
round-committed now entries ticket who g = no_round ((ticket, reply.Done) ∷ []) (tt, tt)

round-deleted : (s : Machine) (ticket : Ticket) (o : Result (List ℕ) Code) → IsOneRound (deleted s ticket o).effects.replies
unfolding deleted
round-deleted s ticket (Ok id) = no_round ((ticket, reply.Done) ∷ []) (tt, tt)
round-deleted s ticket (Err code) = no_round ((ticket, reply.Refused code) ∷ []) (tt, tt)

round-dropped : (s : Machine) (ticket : Ticket) (partitions : List TopicPartition) (o : Result (List ℕ) Code) → IsOneRound (dropped s ticket partitions o).effects.replies
unfolding dropped
round-dropped s ticket partitions (Ok id) = no_round ((ticket, reply.Done) ∷ []) (tt, tt)
round-dropped s ticket partitions (Err code) = no_round ((ticket, reply.Refused code) ∷ []) (tt, tt)

whole-one : (replies : List (Ticket × Reply)) → replies ≡ flat_map (λ rs. rs) (replies ∷ [])
whole-one replies = sym (append-nil replies)

round-groups : (turn : Group → Turn) → ((g : Group) → IsOneRound (turn g).replies) → (gs : List Group) → Each IsOneRound (map (λ g. (turn g).replies) gs)
round-groups turn k [] = tt
round-groups turn k (g ∷ gs) = (k g, round-groups turn k gs)

in_rounds : (s : Machine) (e : Event) → IsInRounds s e
unfolding replies_by_group handled everywhere tick
in_rounds s (event.Join ticket r fresh) = record {
  whole = whole-one _;
  rounds = (
    round-concluded s ticket (join s.last r fresh ticket s.groups) (fine-join InRound s.last r fresh ticket s.groups
        (λ id new _ _. round-add_member_and_rebalance s.last r new ticket _)
        (λ id new g _ _ _ _ _. round-add_member_and_rebalance s.last r new ticket g)
        (λ id new g old _ _ _ _ _. round-replace_static_member s.last r new ticket old g)
        (λ id own g m _ _ _ _. round-join_known s.last r own ticket m g)),
    tt,
  );
}
in_rounds s (event.Sync ticket r) = record {
  whole = whole-one _;
  rounds = (
    round-concluded s ticket (sync s.last r ticket s.groups) (fine-sync InRound s.last r ticket s.groups
        (λ id own g m _ _ _ _ _ _. bare_round g (sync_taken s.last r own ticket m g g.phase).replies (bare-sync_taken s.last r own ticket m g g.phase))),
    tt,
  );
}
in_rounds s (event.Beat ticket r) = record {
  whole = whole-one _;
  rounds = (
    round-concluded s ticket (beat s.last r ticket s.groups) (fine-beat InRound s.last r ticket s.groups
        (λ id own g _. bare_round g (beat_taken s.last own ticket g).replies (told-beat_taken Bare (λ _. tt) tt s.last own ticket g))),
    tt,
  );
}
in_rounds s (event.Leave ticket r) = record {
  whole = whole-one _;
  rounds = (
    round-concluded s ticket (leave s.last r ticket s.groups) (fine-leave InRound s.last r ticket s.groups
        (λ id g m _ _. round-leave_taken s.last m.id ticket m g)),
    tt,
  );
}
in_rounds s (event.Commit ticket r) = record {
  whole = whole-one _;
  rounds = (
    round-concluded s ticket (commit s.last r ticket s.groups) (fine-commit InRound s.last r ticket s.groups
        (λ id _. round-committed s.last r.entries ticket None (new_group id))
        (λ id g who _ _. round-committed s.last r.entries ticket who g)),
    tt,
  );
}
in_rounds s (event.Fetch ticket r) = record { whole = refl; rounds = (no_round ((ticket, fetched s.offsets r.group r.partitions) ∷ []) (round-fetched s.offsets r.group r.partitions, tt), tt) }
in_rounds s (event.Delete ticket id) = record { whole = whole-one _; rounds = (round-deleted s ticket (memberless id s.groups), tt) }
in_rounds s (event.Drop ticket r) = record { whole = whole-one _; rounds = (round-dropped s ticket r.partitions (memberless r.group s.groups), tt) }
in_rounds s (event.Describe ticket id) = record { whole = refl; rounds = (no_round ((ticket, describe id s.groups) ∷ []) (round-describe id s.groups, tt), tt) }
in_rounds s (event.List ticket) = record { whole = refl; rounds = (no_round _ (tt, tt), tt) }
in_rounds s (event.Gone session) = record {
  whole = flat_map-map (λ g. (gone_in s.last session g).replies) s.groups;
  rounds = round-groups (gone_in s.last session) (λ g. bare_round g (gone_in s.last session g).replies (told-gone_in Bare (λ _. tt) s.last session g)) s.groups;
}
in_rounds s event.Tick = record {
  whole = flat_map-map (λ g. (ticked s.last g).replies) s.groups;
  rounds = round-groups (ticked s.last) (λ g. round-ticked s.last g) s.groups;
}

pub rounds_are_one : RoundsAreOne
rounds_are_one [] s = tt
rounds_are_one (e ∷ es) s = (in_rounds (at_event s e.1) e.0, rounds_are_one es (step s e.0 e.1).after)
