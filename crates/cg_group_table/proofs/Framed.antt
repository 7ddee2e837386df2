-- A step stays in its group: the group keeps its id, and the commands name that group.
use Rattle.std.proofs.Common.{◌≡◌, ℕ, Bool, true, false, not, List, [], ◌∷◌, ◌++◌, refl, ◌∙◌, subst, Option, Some, None}
use Rattle.std.specs.Prelude.{if◌then◌else◌}
use Rattle.std.specs.List.{list_any}
use Rattle.std.specs.Option.{option_to_list, option_map, option_and_then}
use Rattle.cg_record.specs.declared.command.Command.{Command}
use Rattle.cg_record.specs.declared.command.Command.TheVariants as command
use Rattle.cg_record.specs.declared.member_record.MemberRecord.{MemberRecord}
use Rattle.cg_group_state.specs.declared.group.Group.{Group}
use Rattle.cg_group_state.specs.declared.group.Phase.{Phase}
use Rattle.cg_group_state.specs.declared.group.Phase.TheVariants.{Empty, Preparing, Completing, Stable}
use Rattle.cg_group_state.specs.declared.member.Member.{Member}
use Rattle.cg_group_state.specs.declared.member.Waits.{Waits}
use Rattle.cg_group_state.specs.declared.member.Waits.TheVariants.{Join, Sync}
use Rattle.cg_request.specs.declared.request_fields.JoinRequest.{JoinRequest}
use Rattle.cg_request.specs.declared.request_fields.SyncEntry.{SyncEntry}
use Rattle.cg_request.specs.declared.request_fields.SyncRequest.{SyncRequest}
use Rattle.cg_request.specs.declared.ticket.Ticket.{Ticket}
use Rattle.cg_group_state.specs.declared.turn.Turn.{Turn}
use Rattle.cg_request.specs.declared.commit_entry.CommitEntry.{CommitEntry}
use Rattle.cg_group_rules.specs.Heartbeat.{beat_taken}
use Rattle.cg_group_rules.specs.OffsetCommit.{committed, hearing_committer, keeping_entries}
use Rattle.cg_group_rules.specs.Join.{admitted, in_join_phase, is_current, update_member_and_rebalance, join_current, join_known, add_member_and_rebalance, new_member, rejoined, updating, waiting}
use Rattle.cg_group_table.specs.Kept.{Each}
use Rattle.cg_group_table.proofs.Kept.{group_of}
use Rattle.cg_group_rules.specs.Leave.{after_removal, gone_in, has_joined, leave_taken, left}
use Rattle.cg_group_state.specs.Membership.{hearing, is_empty, is_preparing, keeping, leads}
use Rattle.cg_group_rules.specs.Rebalance.{complete_join, completed_generation, emptied, emptied_command, is_ready, init_next_generation, prepare_rebalance, reply_to_joins, try_complete_join, turn_of}
use Rattle.cg_group_rules.specs.Sync.{assigned_command, assigning, propagate_assignment, kept_member, kept_roster, sync_current, sync_taken, sync_waits, reply_to_syncs}
use Rattle.cg_group_rules.specs.Tick.{at_deadline, can_complete, ended, expire_heartbeats, is_due, ticked}
use Rattle.cg_group_state.specs.Staying.{is_overdue, outstays}
use Rattle.cg_group_rules.specs.StaticMember.{replace_static_member, keeps_generation, replaced, replaced_command, replaced_in_place, replacing, successor}

pub each-append : {X : Type 0} (P : X → Type 0) (xs ys : List X) → Each P xs → Each P ys → Each P (xs ++ ys)
each-append P [] ys h k = k
each-append P (x ∷ xs) ys h k = (h.0, each-append P xs ys h.1 k)

abbrev pub OfGroup : List ℕ → List Command → Type 0
OfGroup id commands = Each (λ c. group_of c ≡ id) commands

abbrev pub Framed : List ℕ → Turn → Type 0
Framed id t = (t.group.id ≡ id) × OfGroup id t.commands

pub framed-prepared : (id : List ℕ) (now : ℕ) (t : Turn) → Framed id t → Framed id (prepare_rebalance now t)
unfolding prepare_rebalance
framed-prepared id now t h = h

pub framed-in_join_phase : (id : List ℕ) (now : ℕ) (t : Turn) → Framed id t → Framed id (in_join_phase now t)
framed-in_join_phase id now t h = elim (is_preparing t.group.phase) as (λ b. Framed id (if b then t else prepare_rebalance now t)) [ true ↦ h | false ↦ framed-prepared id now t h ]

pub framed-waiting : (id : List ℕ) (now : ℕ) (own : List ℕ) (waits : Waits) (t : Turn) → Framed id t → Framed id (waiting now own waits t)
unfolding waiting
framed-waiting id now own waits t h = h

framed-reply_to_joins : (id : List ℕ) (now : ℕ) (t : Turn) → Framed id t → Framed id (reply_to_joins now t)
unfolding reply_to_joins
framed-reply_to_joins id now t h = h

framed-init_next_generation : (id : List ℕ) (t : Turn) → Framed id t → Framed id (record t { group = init_next_generation t.group })
unfolding init_next_generation
framed-init_next_generation id t h = h

one-emptied : (now : ℕ) (g : Group) → OfGroup g.id (emptied_command now g)
unfolding emptied_command
one-emptied now g =
    go (completed_generation g.generation) g.kind
  where
    go : (n : Option ℕ) (k : Option (List ℕ)) → OfGroup g.id (option_to_list (option_and_then (λ generation. option_map (λ kind. command.Emptied (record { group = g.id; generation = generation; kind = kind; moment = Some now })) k) n))
    go None k = tt
    go (Some n) None = tt
    go (Some n) (Some k) = (refl, tt)

framed-emptied : (now : ℕ) (id : List ℕ) (t : Turn) → Framed id t → Framed id (emptied now t)
unfolding emptied
framed-emptied now id t h =
    let own : OfGroup (emptied now t).group.id (emptied_command now (emptied now t).group) = one-emptied now (emptied now t).group in
    let P : List ℕ → Type 0 = λ i. OfGroup i (emptied_command now (emptied now t).group) in
    (h.0, each-append (λ c. group_of c ≡ id) t.commands (emptied_command now (emptied now t).group) h.1 (subst P h.0 own))

pub framed-completed : (id : List ℕ) (now : ℕ) (t : Turn) → Framed id t → Framed id (complete_join now t)
unfolding complete_join
framed-completed id now t h =
    elim (is_empty t.group.members) as (λ b. Framed id (if b then emptied now t else reply_to_joins now (record t { group = init_next_generation t.group }))) [
      | true ↦ framed-emptied now id t h
      | false ↦ framed-reply_to_joins id now (record t { group = init_next_generation t.group }) (framed-init_next_generation id t h)
    ]

pub framed-tried : (id : List ℕ) (now : ℕ) (t : Turn) → Framed id t → Framed id (try_complete_join now t)
unfolding try_complete_join
framed-tried id now t h = elim (is_ready t.group) as (λ b. Framed id (if b then complete_join now t else t)) [ true ↦ framed-completed id now t h | false ↦ h ]

framed-admitted : (m : Member) (kind : List ℕ) (g : Group) → Framed g.id (turn_of (admitted m kind g))
unfolding admitted
framed-admitted m kind g = (refl, tt)

framed-updating : (r : JoinRequest) (own : List ℕ) (g : Group) → Framed g.id (turn_of (updating r own g))
unfolding updating
framed-updating r own g = (refl, tt)

pub framed-add_member_and_rebalance : (now : ℕ) (r : JoinRequest) (id : List ℕ) (ticket : Ticket) (g : Group) → Framed g.id (add_member_and_rebalance now r id ticket g)
unfolding add_member_and_rebalance
framed-add_member_and_rebalance now r id ticket g = framed-tried g.id now _ (framed-in_join_phase g.id now _ (framed-admitted (new_member now r id [] (Join ticket)) r.kind g))

framed-rejoined : (id : List ℕ) (now : ℕ) (own : List ℕ) (ticket : Ticket) (t : Turn) → Framed id t → Framed id (rejoined now own ticket t)
unfolding rejoined
framed-rejoined id now own ticket t h = framed-tried id now _ (framed-waiting id now own _ _ (framed-in_join_phase id now t h))

pub framed-update_member_and_rebalance : (now : ℕ) (r : JoinRequest) (id : List ℕ) (ticket : Ticket) (g : Group) → Framed g.id (update_member_and_rebalance now r id ticket g)
unfolding update_member_and_rebalance
framed-update_member_and_rebalance now r id ticket g = framed-rejoined g.id now id ticket _ (framed-updating r id g)

framed-replaced : (new old : Member) (g : Group) → Framed g.id (replaced new old g)
unfolding replaced replacing
framed-replaced new old g = (refl, tt)

framed-replaced_in_place : (ticket : Ticket) (new : MemberRecord) (g : Group) (t : Turn) → Framed g.id t → Framed g.id (replaced_in_place ticket new g t)
unfolding replaced_in_place
framed-replaced_in_place ticket new g t h = (h.0, each-append (λ c. group_of c ≡ g.id) t.commands (replaced_command new g ∷ []) h.1 (refl, tt))

pub framed-replace_static_member : (now : ℕ) (r : JoinRequest) (id : List ℕ) (ticket : Ticket) (old : Member) (g : Group) → Framed g.id (replace_static_member now r id ticket old g)
unfolding replace_static_member
framed-replace_static_member now r id ticket old g =
    let new : Member = successor now r id old in
    let t : Turn = replaced new old g in
    elim (keeps_generation t.group) as (λ b. Framed g.id (if b then replaced_in_place ticket (kept_member g.protocol new) g t else rejoined now id ticket t)) [
      | true ↦ framed-replaced_in_place ticket (kept_member g.protocol new) g t (framed-replaced new old g)
      | false ↦ framed-rejoined g.id now id ticket t (framed-replaced new old g)
    ]

framed-join_current : (now : ℕ) (id : List ℕ) (ticket : Ticket) (m : Member) (g : Group) → Framed g.id (join_current now id ticket m g)
unfolding join_current hearing
framed-join_current now id ticket m g = (refl, tt)

pub framed-join_known : (now : ℕ) (r : JoinRequest) (id : List ℕ) (ticket : Ticket) (m : Member) (g : Group) → Framed g.id (join_known now r id ticket m g)
unfolding join_known
framed-join_known now r id ticket m g =
    elim (is_current r m g g.phase) as (λ b. Framed g.id (if b then join_current now id ticket m g else update_member_and_rebalance now r id ticket g)) [
      | true ↦ framed-join_current now id ticket m g
      | false ↦ framed-update_member_and_rebalance now r id ticket g
    ]

one-assigned : (g : Group) → OfGroup g.id (assigned_command g)
unfolding assigned_command
one-assigned g = go (completed_generation g.generation) g.kind g.protocol g.leader
  where
    go : (n : Option ℕ) (k p l : Option (List ℕ)) → OfGroup g.id (option_to_list (option_and_then (λ generation. option_and_then (λ kind. option_and_then (λ protocol. option_map (λ leader. command.Assigned (record { group = g.id; generation = generation; kind = kind; roster = kept_roster protocol leader g })) l) p) k) n))
    go None k p l = tt
    go (Some n) None p l = tt
    go (Some n) (Some k) None l = tt
    go (Some n) (Some k) (Some p) None = tt
    go (Some n) (Some k) (Some p) (Some l) = (refl, tt)

framed-reply_to_syncs : (id : List ℕ) (now : ℕ) (t : Turn) → Framed id t → Framed id (reply_to_syncs now t)
unfolding reply_to_syncs
framed-reply_to_syncs id now t h = h

id-assigning : (entries : List SyncEntry) (g : Group) → (assigning entries g).id ≡ g.id
unfolding assigning
id-assigning entries g = refl

framed-distributed : (id : List ℕ) (now : ℕ) (entries : List SyncEntry) (t : Turn) → Framed id t → Framed id (propagate_assignment now entries t)
unfolding propagate_assignment
framed-distributed id now entries t h =
    let g : Group = assigning entries t.group in
    let P : List ℕ → Type 0 = λ i. OfGroup i (assigned_command g) in
    framed-reply_to_syncs id now (record { group = g; replies = t.replies; commands = t.commands ++ assigned_command g })
    (id-assigning entries t.group ∙ h.0, each-append (λ c. group_of c ≡ id) t.commands (assigned_command g) h.1 (subst P (id-assigning entries t.group ∙ h.0) (one-assigned g)))

framed-hearing : (now : ℕ) (own : List ℕ) (g : Group) → Framed g.id (turn_of (hearing now own g))
unfolding hearing
framed-hearing now own g = (refl, tt)

framed-sync_waits : (now : ℕ) (r : SyncRequest) (id : List ℕ) (ticket : Ticket) (m : Member) (g : Group) → Framed g.id (sync_waits now r id ticket m g)
unfolding sync_waits
framed-sync_waits now r id ticket m g =
    let t : Turn = waiting now id (Sync ticket) (turn_of (hearing now id g)) in
    let h : Framed g.id t = framed-waiting g.id now id (Sync ticket) (turn_of (hearing now id g)) (framed-hearing now id g) in
    elim (leads g m) as (λ b. Framed g.id (if b then propagate_assignment now r.entries t else t)) [ true ↦ framed-distributed g.id now r.entries t h | false ↦ h ]

framed-sync_current : (now : ℕ) (id : List ℕ) (ticket : Ticket) (m : Member) (g : Group) → Framed g.id (sync_current now id ticket m g)
unfolding sync_current hearing
framed-sync_current now id ticket m g = (refl, tt)

pub framed-sync_taken : (now : ℕ) (r : SyncRequest) (id : List ℕ) (ticket : Ticket) (m : Member) (g : Group) (phase : Phase) → Framed g.id (sync_taken now r id ticket m g phase)
unfolding sync_taken
framed-sync_taken now r id ticket m g Completing = framed-sync_waits now r id ticket m g
framed-sync_taken now r id ticket m g Stable = framed-sync_current now id ticket m g
framed-sync_taken now r id ticket m g Empty = framed-sync_current now id ticket m g
framed-sync_taken now r id ticket m g Preparing = framed-sync_current now id ticket m g

pub framed-committed : (now : ℕ) (entries : List CommitEntry) (ticket : Ticket) (who : Option (List ℕ)) (g : Group) → Framed g.id (committed now entries ticket (hearing_committer now who g))
unfolding keeping_entries hearing
framed-committed now entries ticket None g = (refl, (refl, tt))
framed-committed now entries ticket (Some id) g = (refl, (refl, tt))

pub framed-beat_taken : (now : ℕ) (id : List ℕ) (ticket : Ticket) (g : Group) → Framed g.id (beat_taken now id ticket g)
unfolding beat_taken hearing
framed-beat_taken now id ticket g = (refl, tt)

framed-after_removal : (id : List ℕ) (now : ℕ) (t : Turn) → Framed id t → Framed id (after_removal now t)
unfolding after_removal
framed-after_removal id now t h =
    framed-tried id now _ (elim (has_joined t.group.phase) as (λ b. Framed id (if b then prepare_rebalance now t else t)) [ true ↦ framed-prepared id now t h | false ↦ h ])

framed-left : (id : List ℕ) (ticket : Ticket) (m : Member) (g : Group) → Framed g.id (left id ticket m g)
unfolding left keeping
framed-left id ticket m g = (refl, tt)

pub framed-leave_taken : (now : ℕ) (id : List ℕ) (ticket : Ticket) (m : Member) (g : Group) → Framed g.id (leave_taken now id ticket m g)
unfolding leave_taken
framed-leave_taken now id ticket m g = framed-after_removal g.id now (left id ticket m g) (framed-left id ticket m g)

pub framed-gone_in : (now session : ℕ) (g : Group) → Framed g.id (gone_in now session g)
unfolding gone_in
framed-gone_in now session g = (refl, tt)

framed-keeping : (id : List ℕ) (stays : Member → Bool) (t : Turn) → Framed id t → Framed id (record t { group = keeping stays t.group })
unfolding keeping
framed-keeping id stays t h = h

framed-expired : (id : List ℕ) (now : ℕ) (t : Turn) → Framed id t → Framed id (expire_heartbeats now t)
unfolding expire_heartbeats
framed-expired id now t h =
    elim (list_any (is_overdue now) t.group.members) as (λ b. Framed id (if b then after_removal now (record t { group = keeping (λ m. not (is_overdue now m)) t.group }) else try_complete_join now t)) [
      | true ↦ framed-after_removal id now _ (framed-keeping id (λ m. not (is_overdue now m)) t h)
      | false ↦ framed-tried id now t h
    ]

framed-ended : (id : List ℕ) (now : ℕ) (t : Turn) → Framed id t → Framed id (ended now t)
unfolding ended
framed-ended id now t h =
    elim (can_complete t.group.members) as (λ b. Framed id (if b then complete_join now t else record t { group = record t.group { started = now } })) [
      | true ↦ framed-completed id now t h
      | false ↦ h
    ]

framed-at_deadline : (id : List ℕ) (now : ℕ) (t : Turn) → Framed id t → Framed id (at_deadline now t)
unfolding at_deadline
framed-at_deadline id now t h =
    elim (is_due now t.group) as (λ b. Framed id (if b then ended now (record t { group = keeping outstays t.group }) else t)) [
      | true ↦ framed-ended id now _ (framed-keeping id outstays t h)
      | false ↦ h
    ]

pub framed-expired_of : (now : ℕ) (g : Group) → Framed g.id (expire_heartbeats now (turn_of g))
framed-expired_of now g = framed-expired g.id now (turn_of g) (refl, tt)

pub framed-ticked : (now : ℕ) (g : Group) → Framed g.id (ticked now g)
unfolding ticked
framed-ticked now g = framed-at_deadline g.id now (expire_heartbeats now (turn_of g)) (framed-expired_of now g)
