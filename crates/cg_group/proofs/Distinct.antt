-- Each stage of an event keeps the ids and the instances of a group's members distinct.
use Rattle.std.proofs.Common.{◌≡◌, ℕ, Bool, true, false, not, List, [], is_some, refl, ap, ◌∙◌, Option, Some, None}
use Rattle.std.specs.Prelude.{if◌then◌else◌}
use Rattle.std.specs.List.{list_any}
use Rattle.std.specs.Option.{option_to_list}
use Rattle.cg_record.specs.declared.member_record.MemberRecord.{MemberRecord}
use Rattle.cg_group_state.specs.declared.calls.Calls.TheVariants.{OfSession}
use Rattle.cg_group_state.specs.declared.member.Member.{Member}
use Rattle.cg_group_state.specs.declared.member.Waits.TheVariants.{Join, Sync}
use Rattle.cg_group_state.specs.declared.group.Group.{Group}
use Rattle.cg_group_state.specs.declared.group.Phase.{Phase}
use Rattle.cg_group_state.specs.declared.group.Phase.TheVariants.{Empty, Preparing, Completing, Stable}
use Rattle.cg_request.specs.declared.request_fields.JoinRequest.{JoinRequest}
use Rattle.cg_request.specs.declared.request_fields.SyncEntry.{SyncEntry}
use Rattle.cg_request.specs.declared.request_fields.SyncRequest.{SyncRequest}
use Rattle.cg_request.specs.declared.ticket.Ticket.{Ticket}
use Rattle.cg_group_state.specs.declared.turn.Turn.{Turn}
use Rattle.cg_request.specs.declared.commit_entry.CommitEntry.{CommitEntry}
use Rattle.cg_group_rules.specs.Heartbeat.{beat_taken}
use Rattle.cg_group_rules.specs.OffsetCommit.{committed, hearing_committer, keeping_entries}
use Rattle.cg_group_rules.specs.Join.{admitted, in_join_phase, is_current, update_member_and_rebalance, join_current, join_known, add_member_and_rebalance, new_group, new_member, rejoined, updating, waiting}
use Rattle.cg_group_state.specs.JoinTerms.{updated}
use Rattle.cg_request.specs.Names.{are_distinct}
use Rattle.cg_group_state.specs.Members.{AreDistinct}
use Rattle.cg_group_rules.specs.Leave.{after_removal, gone_in, leave_taken, left}
use Rattle.cg_group_state.specs.Membership.{has_id, find_member, find_instance, hearing, keeping, leads}
use Rattle.cg_group_rules.specs.Rebalance.{turn_of, complete_join, try_complete_join}
use Rattle.cg_group_state.specs.Assignments.{assigned}
use Rattle.cg_group_rules.specs.Sync.{assigning, propagate_assignment, kept_member, sync_current, sync_taken, sync_waits}
use Rattle.cg_group_rules.specs.Tick.{at_deadline, can_complete, ended, expire_heartbeats, is_due, ticked}
use Rattle.cg_group_state.specs.Staying.{is_overdue, outstays}
use Rattle.cg_group_rules.specs.StaticMember.{replace_static_member, keeps_generation, replaced, replaced_in_place, replacing, successor}
use Rattle.cg_group_state.proofs.Keeping.{map-same, map-with_member, keep-after_answers, keep-hearing}
use Rattle.cg_group_rules.proofs.KeptFields.{keep-waiting, keep-in_join_phase, keep-reply_to_syncs, keep-completed, keep-tried, keep-after_removal}
use Rattle.cg_group_state.proofs.Seats.{distinct-seating}
use Rattle.cg_group_state.proofs.Together.{distinct-filter, distinct-filter_instances, distinct-members-push, distinct-names, lasting_id, lasting_instance}

-- the members of the group are distinct
abbrev pub Distinct : Group → Type 0
Distinct g = AreDistinct g.members

distinct-keeping : (stays : Member → Bool) (g : Group) → Distinct g → Distinct (keeping stays g)
unfolding keeping
distinct-keeping stays g h = (distinct-filter stays g.members h.0, distinct-filter_instances stays g.members h.1)

distinct-admitted : (m : Member) (kind : List ℕ) (g : Group) → is_some (find_member m.id g.members) ≡ false → is_some (find_instance m.instance g.members) ≡ false → Distinct g → Distinct (admitted m kind g)
unfolding admitted
distinct-admitted m kind g own free h = distinct-members-push g.members m own free h

distinct-in_join_phase : (now : ℕ) (t : Turn) → Distinct t.group → Distinct (in_join_phase now t).group
distinct-in_join_phase now t h = distinct-names _ _ (keep-in_join_phase (λ m. m.id) lasting_id now t) (keep-in_join_phase (λ m. option_to_list m.instance) lasting_instance now t) h

distinct-tried : (now : ℕ) (t : Turn) → Distinct t.group → Distinct (try_complete_join now t).group
distinct-tried now t h = distinct-names _ _ (keep-tried (λ m. m.id) lasting_id now t) (keep-tried (λ m. option_to_list m.instance) lasting_instance now t) h

distinct-completed : (now : ℕ) (t : Turn) → Distinct t.group → Distinct (complete_join now t).group
distinct-completed now t h = distinct-names _ _ (keep-completed (λ m. m.id) lasting_id now t) (keep-completed (λ m. option_to_list m.instance) lasting_instance now t) h

distinct-after_removal : (now : ℕ) (t : Turn) → Distinct t.group → Distinct (after_removal now t).group
distinct-after_removal now t h = distinct-names _ _ (keep-after_removal (λ m. m.id) lasting_id now t) (keep-after_removal (λ m. option_to_list m.instance) lasting_instance now t) h

distinct-hearing : (now : ℕ) (id : List ℕ) (g : Group) → Distinct g → Distinct (hearing now id g)
distinct-hearing now id g h = distinct-names _ _ (keep-hearing (λ m. m.id) lasting_id now id g) (keep-hearing (λ m. option_to_list m.instance) lasting_instance now id g) h

distinct-updating : (r : JoinRequest) (id : List ℕ) (g : Group) → Distinct g → Distinct (updating r id g)
unfolding updating
distinct-updating r id g h = distinct-names _ _ (map-with_member (λ m. m.id) id (updated r) (λ m. refl) g.members) (map-with_member (λ m. option_to_list m.instance) id (updated r) (λ m. refl) g.members) h

pub distinct-add_member_and_rebalance : (now : ℕ) (r : JoinRequest) (id : List ℕ) (ticket : Ticket) (g : Group) → Distinct g → is_some (find_member id g.members) ≡ false → is_some (find_instance r.instance g.members) ≡ false → Distinct (add_member_and_rebalance now r id ticket g).group
unfolding add_member_and_rebalance new_member
distinct-add_member_and_rebalance now r id ticket g h own apart =
    distinct-tried now _ (distinct-in_join_phase now _ (distinct-admitted (new_member now r id [] (Join ticket)) r.kind g own apart h))

pub distinct-new_group : (id : List ℕ) → Distinct (new_group id)
unfolding new_group are_distinct
distinct-new_group id = (refl, refl)

pub free-new_group : (id new : List ℕ) → is_some (find_member new (new_group id).members) ≡ false
unfolding new_group find_member
free-new_group id new = refl

pub apart-new_group : (id : List ℕ) (instance : Option (List ℕ)) → is_some (find_instance instance (new_group id).members) ≡ false
unfolding new_group find_instance
apart-new_group id instance = refl

distinct-rejoined : (now : ℕ) (id : List ℕ) (ticket : Ticket) (t : Turn) → Distinct t.group → Distinct (rejoined now id ticket t).group
unfolding rejoined
distinct-rejoined now id ticket t h =
    let u : Turn = in_join_phase now t in
    let v : Distinct (waiting now id (Join ticket) u).group = distinct-names _ _ (keep-waiting (λ m. m.id) lasting_id now id (Join ticket) u) (keep-waiting (λ m. option_to_list m.instance) lasting_instance now id (Join ticket) u) (distinct-in_join_phase now t h) in
    distinct-tried now (waiting now id (Join ticket) u) v

distinct-replacing : (new : Member) (g : Group) → is_some (find_member new.id g.members) ≡ false → Distinct g → Distinct (replacing new g)
unfolding replacing
distinct-replacing new g own h = distinct-seating new g.members own h

distinct-replaced : (new old : Member) (g : Group) → is_some (find_member new.id g.members) ≡ false → Distinct g → Distinct (replaced new old g).group
unfolding replaced
distinct-replaced new old g own h = distinct-replacing new g own h

distinct-replaced_in_place : (ticket : Ticket) (new : MemberRecord) (g : Group) (t : Turn) → Distinct t.group → Distinct (replaced_in_place ticket new g t).group
unfolding replaced_in_place
distinct-replaced_in_place ticket new g t h = h

id_successor : (now : ℕ) (r : JoinRequest) (id : List ℕ) (old : Member) → (successor now r id old).id ≡ id
unfolding new_member
id_successor now r id old = refl

pub distinct-replace_static_member : (now : ℕ) (r : JoinRequest) (id : List ℕ) (ticket : Ticket) (old : Member) (g : Group) → Distinct g → is_some (find_member id g.members) ≡ false → Distinct (replace_static_member now r id ticket old g).group
unfolding replace_static_member
distinct-replace_static_member now r id ticket old g h own =
    let new : Member = successor now r id old in
    let t : Turn = replaced new old g in
    let u : Distinct t.group = distinct-replaced new old g (ap (λ i. is_some (find_member i g.members)) (id_successor now r id old) ∙ own) h in
    elim (keeps_generation t.group) as (λ b. Distinct (if b then replaced_in_place ticket (kept_member g.protocol new) g t else rejoined now id ticket t).group) [
      | true ↦ distinct-replaced_in_place ticket (kept_member g.protocol new) g t u
      | false ↦ distinct-rejoined now id ticket t u
    ]

distinct-update_member_and_rebalance : (now : ℕ) (r : JoinRequest) (id : List ℕ) (ticket : Ticket) (g : Group) → Distinct g → Distinct (update_member_and_rebalance now r id ticket g).group
unfolding update_member_and_rebalance
distinct-update_member_and_rebalance now r id ticket g h = distinct-rejoined now id ticket (turn_of (updating r id g)) (distinct-updating r id g h)

distinct-join_current : (now : ℕ) (id : List ℕ) (ticket : Ticket) (m : Member) (g : Group) → Distinct g → Distinct (join_current now id ticket m g).group
unfolding join_current
distinct-join_current now id ticket m g h = distinct-hearing now id g h

pub distinct-join_known : (now : ℕ) (r : JoinRequest) (id : List ℕ) (ticket : Ticket) (m : Member) (g : Group) → Distinct g → Distinct (join_known now r id ticket m g).group
unfolding join_known
distinct-join_known now r id ticket m g h =
    elim (is_current r m g g.phase) as (λ b. Distinct (if b then join_current now id ticket m g else update_member_and_rebalance now r id ticket g).group) [
      | true ↦ distinct-join_current now id ticket m g h
      | false ↦ distinct-update_member_and_rebalance now r id ticket g h
    ]

distinct-assigning : (entries : List SyncEntry) (g : Group) → Distinct g → Distinct (assigning entries g)
unfolding assigning
distinct-assigning entries g h = distinct-names _ _ (map-same (λ m. m.id) (assigned entries) (λ m. refl) g.members) (map-same (λ m. option_to_list m.instance) (assigned entries) (λ m. refl) g.members) h

distinct-distributed : (now : ℕ) (entries : List SyncEntry) (t : Turn) → Distinct t.group → Distinct (propagate_assignment now entries t).group
unfolding propagate_assignment
distinct-distributed now entries t h = distinct-names _ _ (keep-reply_to_syncs (λ m. m.id) lasting_id now _) (keep-reply_to_syncs (λ m. option_to_list m.instance) lasting_instance now _) (distinct-assigning entries t.group h)

distinct-sync_waits : (now : ℕ) (r : SyncRequest) (id : List ℕ) (ticket : Ticket) (m : Member) (g : Group) → Distinct g → Distinct (sync_waits now r id ticket m g).group
unfolding sync_waits
distinct-sync_waits now r id ticket m g h =
    let t : Turn = waiting now id (Sync ticket) (turn_of (hearing now id g)) in
    let u : Distinct t.group = distinct-names _ _ (keep-waiting (λ m. m.id) lasting_id now id (Sync ticket) (turn_of (hearing now id g))) (keep-waiting (λ m. option_to_list m.instance) lasting_instance now id (Sync ticket) (turn_of (hearing now id g))) (distinct-hearing now id g h) in
    elim (leads g m) as (λ b. Distinct (if b then propagate_assignment now r.entries t else t).group) [
      | true ↦ distinct-distributed now r.entries t u
      | false ↦ u
    ]

distinct-sync_current : (now : ℕ) (id : List ℕ) (ticket : Ticket) (m : Member) (g : Group) → Distinct g → Distinct (sync_current now id ticket m g).group
unfolding sync_current
distinct-sync_current now id ticket m g h = distinct-hearing now id g h

pub distinct-sync_taken : (now : ℕ) (r : SyncRequest) (id : List ℕ) (ticket : Ticket) (m : Member) (g : Group) (phase : Phase) → Distinct g → Distinct (sync_taken now r id ticket m g phase).group
unfolding sync_taken
distinct-sync_taken now r id ticket m g Completing h = distinct-sync_waits now r id ticket m g h
distinct-sync_taken now r id ticket m g Stable h = distinct-sync_current now id ticket m g h
distinct-sync_taken now r id ticket m g Empty h = distinct-sync_current now id ticket m g h
distinct-sync_taken now r id ticket m g Preparing h = distinct-sync_current now id ticket m g h

pub distinct-committed : (now : ℕ) (entries : List CommitEntry) (ticket : Ticket) (who : Option (List ℕ)) (g : Group) → Distinct g → Distinct (committed now entries ticket (hearing_committer now who g)).group
unfolding keeping_entries
distinct-committed now entries ticket None g h = h
distinct-committed now entries ticket (Some id) g h = distinct-hearing now id g h

pub distinct-beat_taken : (now : ℕ) (id : List ℕ) (ticket : Ticket) (g : Group) → Distinct g → Distinct (beat_taken now id ticket g).group
unfolding beat_taken
distinct-beat_taken now id ticket g h = distinct-hearing now id g h

distinct-left : (id : List ℕ) (ticket : Ticket) (m : Member) (g : Group) → Distinct g → Distinct (left id ticket m g).group
unfolding left
distinct-left id ticket m g h = distinct-keeping (λ other. not (has_id id other)) g h

pub distinct-leave_taken : (now : ℕ) (id : List ℕ) (ticket : Ticket) (m : Member) (g : Group) → Distinct g → Distinct (leave_taken now id ticket m g).group
unfolding leave_taken
distinct-leave_taken now id ticket m g h = distinct-after_removal now (left id ticket m g) (distinct-left id ticket m g h)

pub distinct-gone_in : (now session : ℕ) (g : Group) → Distinct g → Distinct (gone_in now session g).group
unfolding gone_in
distinct-gone_in now session g h = distinct-names _ _ (keep-after_answers (λ m. m.id) lasting_id (OfSession session) now g.members) (keep-after_answers (λ m. option_to_list m.instance) lasting_instance (OfSession session) now g.members) h

distinct-expired : (now : ℕ) (t : Turn) → Distinct t.group → Distinct (expire_heartbeats now t).group
unfolding expire_heartbeats
distinct-expired now t h =
    elim (list_any (is_overdue now) t.group.members) as (λ b. Distinct (if b then after_removal now (record t { group = keeping (λ m. not (is_overdue now m)) t.group }) else try_complete_join now t).group) [
      | true ↦ distinct-after_removal now (record t { group = keeping (λ m. not (is_overdue now m)) t.group }) (distinct-keeping (λ m. not (is_overdue now m)) t.group h)
      | false ↦ distinct-tried now t h
    ]

distinct-ended : (now : ℕ) (t : Turn) → Distinct t.group → Distinct (ended now t).group
unfolding ended
distinct-ended now t h =
    elim (can_complete t.group.members) as (λ b. Distinct (if b then complete_join now t else record t { group = record t.group { started = now } }).group) [
      | true ↦ distinct-completed now t h
      | false ↦ h
    ]

distinct-at_deadline : (now : ℕ) (t : Turn) → Distinct t.group → Distinct (at_deadline now t).group
unfolding at_deadline
distinct-at_deadline now t h =
    elim (is_due now t.group) as (λ b. Distinct (if b then ended now (record t { group = keeping outstays t.group }) else t).group) [
      | true ↦ distinct-ended now (record t { group = keeping outstays t.group }) (distinct-keeping outstays t.group h)
      | false ↦ h
    ]

pub distinct-ticked : (now : ℕ) (g : Group) → Distinct g → Distinct (ticked now g).group
unfolding ticked
distinct-ticked now g h = distinct-at_deadline now (expire_heartbeats now (turn_of g)) (distinct-expired now (turn_of g) h)
