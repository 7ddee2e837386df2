-- Steps other than a commit's make only the commands Assigned and Emptied, and a replacement also Replaced.
use Rattle.std.proofs.Common.{◌≡◌, ◌≤◌, ℕ, true, false, not, nat_le, List, [], ◌∷◌, refl, subst, Option, Some, None}
use Rattle.std.specs.Prelude.{if◌then◌else◌}
use Rattle.std.specs.List.{list_any, flat_map}
use Rattle.std.specs.Option.{option_to_list, option_map, option_and_then}
use Rattle.std.proofs.lemmas.Bool.{leb-true}
use Rattle.cg_record.specs.declared.assigned.Assigned.{Assigned}
use Rattle.cg_record.specs.declared.command.Command.{Command}
use Rattle.cg_record.specs.declared.command.Command.TheVariants as command
use Rattle.cg_record.specs.declared.emptied.Emptied.{Emptied}
use Rattle.cg_group_state.specs.declared.group.Group.{Group}
use Rattle.cg_group_state.specs.declared.group.Phase.{Phase}
use Rattle.cg_group_state.specs.declared.group.Phase.TheVariants.{Empty, Preparing, Completing, Stable}
use Rattle.cg_group_state.specs.declared.member.Member.{Member}
use Rattle.cg_group_state.specs.declared.member.Waits.{Waits}
use Rattle.cg_group_state.specs.declared.member.Waits.TheVariants.{Join, Sync}
use Rattle.cg_request.specs.declared.request_fields.JoinRequest.{JoinRequest}
use Rattle.cg_request.specs.declared.request_fields.SyncEntry.{SyncEntry}
use Rattle.cg_request.specs.declared.request_fields.SyncRequest.{SyncRequest}
use Rattle.cg_request.specs.declared.ticket.Ticket.{Ticket}
use Rattle.cg_group_state.specs.declared.turn.Turn.{Turn}
use Rattle.cg_group_rules.specs.Heartbeat.{beat_taken}
use Rattle.cg_group_rules.specs.Join.{admitted, in_join_phase, is_current, update_member_and_rebalance, join_current, join_known, add_member_and_rebalance, new_member, rejoined, updating, waiting}
use Rattle.cg_group_table.specs.Kept.{Each}
use Rattle.cg_group_rules.specs.Leave.{after_removal, gone_in, has_joined, leave_taken, left}
use Rattle.cg_group_state.specs.Membership.{hearing, is_empty, is_preparing, keeping, leads}
use Rattle.cg_group_rules.specs.Rebalance.{complete_join, completed_generation, emptied, emptied_command, is_ready, init_next_generation, prepare_rebalance, reply_to_joins, try_complete_join, turn_of}
use Rattle.cg_group_rules.specs.Sync.{assigned_command, assigning, propagate_assignment, kept_roster, sync_current, sync_taken, sync_waits, reply_to_syncs}
use Rattle.cg_group_rules.specs.Tick.{at_deadline, can_complete, ended, expire_heartbeats, is_due, ticked}
use Rattle.cg_group_state.specs.Staying.{is_overdue, outstays}
use Rattle.cg_group_table.proofs.Framed.{each-append}

-- the generation in a command is a completed one
completed_from : (g n : ℕ) → completed_generation g ≡ Some n → 1 ≤ n
completed_from g n e =
    (elim (nat_le 1 g) as (λ b. nat_le 1 g ≡ b → (if b then Some g else None) ≡ Some n → 1 ≤ n) [
      | true ↦ λ h k. let same : g ≡ n = cc in subst (λ (x : ℕ). 1 ≤ x) same (leb-true 1 g h)
      | false ↦ λ _ k. cc
    ]) refl e

module _ (P : Command → Type 0) (assigned_is : (a : Assigned) → 1 ≤ a.generation → P (command.Assigned a)) (emptied_is : (e : Emptied) → 1 ≤ e.generation → P (command.Emptied e)) where
  abbrev Makes : Turn → Type 0
  Makes t = Each P t.commands

  makes-prepared : (now : ℕ) (t : Turn) → Makes t → Makes (prepare_rebalance now t)
  unfolding prepare_rebalance
  makes-prepared now t h = h

  makes-in_join_phase : (now : ℕ) (t : Turn) → Makes t → Makes (in_join_phase now t)
  makes-in_join_phase now t h = elim (is_preparing t.group.phase) as (λ b. Makes (if b then t else prepare_rebalance now t)) [ true ↦ h | false ↦ makes-prepared now t h ]

  makes-waiting : (now : ℕ) (own : List ℕ) (waits : Waits) (t : Turn) → Makes t → Makes (waiting now own waits t)
  unfolding waiting
  makes-waiting now own waits t h = h

  makes-reply_to_joins : (now : ℕ) (t : Turn) → Makes t → Makes (reply_to_joins now t)
  unfolding reply_to_joins
  makes-reply_to_joins now t h = h

  makes-one_emptied : (now : ℕ) (g : Group) → Each P (emptied_command now g)
  unfolding emptied_command
  makes-one_emptied now g = go (completed_generation g.generation) g.kind (completed_from g.generation)
    where
      go : (n : Option ℕ) (k : Option (List ℕ)) → ((x : ℕ) → n ≡ Some x → 1 ≤ x) → Each P (option_to_list (option_and_then (λ generation. option_map (λ kind. command.Emptied (record { group = g.id; generation = generation; kind = kind; moment = Some now })) k) n))
      go None k dated = tt
      go (Some n) None dated = tt
      go (Some n) (Some k) dated = (emptied_is (record { group = g.id; generation = n; kind = k; moment = Some now }) (dated n refl), tt)

  makes-emptied : (now : ℕ) (t : Turn) → Makes t → Makes (emptied now t)
  unfolding emptied
  makes-emptied now t h = each-append P t.commands (emptied_command now (emptied now t).group) h (makes-one_emptied now (emptied now t).group)

  makes-completed : (now : ℕ) (t : Turn) → Makes t → Makes (complete_join now t)
  unfolding complete_join
  makes-completed now t h =
      elim (is_empty t.group.members) as (λ b. Makes (if b then emptied now t else reply_to_joins now (record t { group = init_next_generation t.group }))) [
        | true ↦ makes-emptied now t h
        | false ↦ makes-reply_to_joins now (record t { group = init_next_generation t.group }) h
      ]

  makes-tried : (now : ℕ) (t : Turn) → Makes t → Makes (try_complete_join now t)
  unfolding try_complete_join
  makes-tried now t h = elim (is_ready t.group) as (λ b. Makes (if b then complete_join now t else t)) [ true ↦ makes-completed now t h | false ↦ h ]

  pub makes-add_member_and_rebalance : (now : ℕ) (r : JoinRequest) (id : List ℕ) (ticket : Ticket) (g : Group) → Makes (add_member_and_rebalance now r id ticket g)
  unfolding add_member_and_rebalance
  makes-add_member_and_rebalance now r id ticket g = makes-tried now _ (makes-in_join_phase now (turn_of (admitted (new_member now r id [] (Join ticket)) r.kind g)) tt)

  pub makes-rejoined : (now : ℕ) (own : List ℕ) (ticket : Ticket) (t : Turn) → Makes t → Makes (rejoined now own ticket t)
  unfolding rejoined
  makes-rejoined now own ticket t h = makes-tried now _ (makes-waiting now own _ _ (makes-in_join_phase now t h))

  makes-update_member_and_rebalance : (now : ℕ) (r : JoinRequest) (id : List ℕ) (ticket : Ticket) (g : Group) → Makes (update_member_and_rebalance now r id ticket g)
  unfolding update_member_and_rebalance
  makes-update_member_and_rebalance now r id ticket g = makes-rejoined now id ticket (turn_of (updating r id g)) tt

  makes-join_current : (now : ℕ) (id : List ℕ) (ticket : Ticket) (m : Member) (g : Group) → Makes (join_current now id ticket m g)
  unfolding join_current
  makes-join_current now id ticket m g = tt

  pub makes-join_known : (now : ℕ) (r : JoinRequest) (id : List ℕ) (ticket : Ticket) (m : Member) (g : Group) → Makes (join_known now r id ticket m g)
  unfolding join_known
  makes-join_known now r id ticket m g =
      elim (is_current r m g g.phase) as (λ b. Makes (if b then join_current now id ticket m g else update_member_and_rebalance now r id ticket g)) [
        | true ↦ makes-join_current now id ticket m g
        | false ↦ makes-update_member_and_rebalance now r id ticket g
      ]

  makes-one_assigned : (g : Group) → Each P (assigned_command g)
  unfolding assigned_command
  makes-one_assigned g = go (completed_generation g.generation) g.kind g.protocol g.leader (completed_from g.generation)
    where
      go : (n : Option ℕ) (k p l : Option (List ℕ)) → ((x : ℕ) → n ≡ Some x → 1 ≤ x) → Each P (option_to_list (option_and_then (λ generation. option_and_then (λ kind. option_and_then (λ protocol. option_map (λ leader. command.Assigned (record { group = g.id; generation = generation; kind = kind; roster = kept_roster protocol leader g })) l) p) k) n))
      go None k p l dated = tt
      go (Some n) None p l dated = tt
      go (Some n) (Some k) None l dated = tt
      go (Some n) (Some k) (Some p) None dated = tt
      go (Some n) (Some k) (Some p) (Some l) dated = (assigned_is (record { group = g.id; generation = n; kind = k; roster = kept_roster p l g }) (dated n refl), tt)

  makes-distributed : (now : ℕ) (entries : List SyncEntry) (t : Turn) → Makes t → Makes (propagate_assignment now entries t)
  unfolding propagate_assignment reply_to_syncs
  makes-distributed now entries t h = each-append P t.commands (assigned_command (assigning entries t.group)) h (makes-one_assigned (assigning entries t.group))

  makes-sync_waits : (now : ℕ) (r : SyncRequest) (id : List ℕ) (ticket : Ticket) (m : Member) (g : Group) → Makes (sync_waits now r id ticket m g)
  unfolding sync_waits
  makes-sync_waits now r id ticket m g =
      let t : Turn = waiting now id (Sync ticket) (turn_of (hearing now id g)) in
      let h : Makes t = makes-waiting now id (Sync ticket) (turn_of (hearing now id g)) tt in
      elim (leads g m) as (λ b. Makes (if b then propagate_assignment now r.entries t else t)) [ true ↦ makes-distributed now r.entries t h | false ↦ h ]

  makes-sync_current : (now : ℕ) (id : List ℕ) (ticket : Ticket) (m : Member) (g : Group) → Makes (sync_current now id ticket m g)
  unfolding sync_current
  makes-sync_current now id ticket m g = tt

  pub makes-sync_taken : (now : ℕ) (r : SyncRequest) (id : List ℕ) (ticket : Ticket) (m : Member) (g : Group) (phase : Phase) → Makes (sync_taken now r id ticket m g phase)
  unfolding sync_taken
  makes-sync_taken now r id ticket m g Completing = makes-sync_waits now r id ticket m g
  makes-sync_taken now r id ticket m g Stable = makes-sync_current now id ticket m g
  makes-sync_taken now r id ticket m g Empty = makes-sync_current now id ticket m g
  makes-sync_taken now r id ticket m g Preparing = makes-sync_current now id ticket m g

  pub makes-beat_taken : (now : ℕ) (id : List ℕ) (ticket : Ticket) (g : Group) → Makes (beat_taken now id ticket g)
  unfolding beat_taken
  makes-beat_taken now id ticket g = tt

  makes-after_removal : (now : ℕ) (t : Turn) → Makes t → Makes (after_removal now t)
  unfolding after_removal
  makes-after_removal now t h =
      makes-tried now _ (elim (has_joined t.group.phase) as (λ b. Makes (if b then prepare_rebalance now t else t)) [ true ↦ makes-prepared now t h | false ↦ h ])

  makes-left : (id : List ℕ) (ticket : Ticket) (m : Member) (g : Group) → Makes (left id ticket m g)
  unfolding left
  makes-left id ticket m g = tt

  pub makes-leave_taken : (now : ℕ) (id : List ℕ) (ticket : Ticket) (m : Member) (g : Group) → Makes (leave_taken now id ticket m g)
  unfolding leave_taken
  makes-leave_taken now id ticket m g = makes-after_removal now (left id ticket m g) (makes-left id ticket m g)

  pub makes-gone_in : (now session : ℕ) (g : Group) → Makes (gone_in now session g)
  unfolding gone_in
  makes-gone_in now session g = tt

  makes-expired : (now : ℕ) (t : Turn) → Makes t → Makes (expire_heartbeats now t)
  unfolding expire_heartbeats
  makes-expired now t h =
      elim (list_any (is_overdue now) t.group.members) as (λ b. Makes (if b then after_removal now (record t { group = keeping (λ m. not (is_overdue now m)) t.group }) else try_complete_join now t)) [
        | true ↦ makes-after_removal now _ h
        | false ↦ makes-tried now t h
      ]

  makes-ended : (now : ℕ) (t : Turn) → Makes t → Makes (ended now t)
  unfolding ended
  makes-ended now t h =
      elim (can_complete t.group.members) as (λ b. Makes (if b then complete_join now t else record t { group = record t.group { started = now } })) [ true ↦ makes-completed now t h | false ↦ h ]

  makes-at_deadline : (now : ℕ) (t : Turn) → Makes t → Makes (at_deadline now t)
  unfolding at_deadline
  makes-at_deadline now t h =
      elim (is_due now t.group) as (λ b. Makes (if b then ended now (record t { group = keeping outstays t.group }) else t)) [ true ↦ makes-ended now (record t { group = keeping outstays t.group }) h | false ↦ h ]

  pub makes-ticked : (now : ℕ) (g : Group) → Makes (ticked now g)
  unfolding ticked
  makes-ticked now g = makes-at_deadline now (expire_heartbeats now (turn_of g)) (makes-expired now (turn_of g) tt)

  pub makes-all : (turn : Group → Turn) → ((g : Group) → Makes (turn g)) → (groups : List Group) → Each P (flat_map (λ g. (turn g).commands) groups)
  makes-all turn h [] = tt
  makes-all turn h (g ∷ gs) = each-append P (turn g).commands (flat_map (λ g. (turn g).commands) gs) (h g) (makes-all turn h gs)
