-- A property of every refusal and of every JOIN reply of a generation holds for all replies of an event.
use Rattle.std.proofs.Common.{◌≡◌, ℕ, Bool, true, false, not, List, [], ◌∷◌, refl, Option, Some, None}
use Rattle.std.specs.Prelude.{if◌then◌else◌, option_map, option_to_list}
use Rattle.std.specs.List.{list_any, flat_map}
use Rattle.cg_names.specs.declared.code.Code.{Code}
use Rattle.cg_names.specs.declared.code.Code.TheVariants.{FencedInstanceId, RebalanceInProgress, UnknownMemberId}
use Rattle.cg_group_state.specs.declared.calls.Calls.{Calls}
use Rattle.cg_group_state.specs.declared.calls.Calls.TheVariants.{Any, Joins, OfSession, Syncs}
use Rattle.cg_group_state.specs.declared.group.Group.{Group}
use Rattle.cg_group_state.specs.declared.member.Member.{Member}
use Rattle.cg_group_state.specs.declared.member.Waits.{Waits}
use Rattle.cg_group_state.specs.declared.member.Waits.TheVariants.{Join}
use Rattle.cg_group_state.specs.declared.reply.Reply.{Reply}
use Rattle.cg_group_state.specs.declared.reply.Reply.TheVariants as reply
use Rattle.cg_request.specs.declared.ticket.Ticket.{Ticket}
use Rattle.cg_group_state.specs.declared.turn.Turn.{Turn}
use Rattle.cg_group_rules.specs.Heartbeat.{beat_reply, beat_taken}
use Rattle.cg_group_rules.specs.Join.{displaced, in_join_phase, waiting}
use Rattle.cg_group_table.specs.Kept.{Each}
use Rattle.cg_group_rules.specs.Leave.{after_removal, gone_in, has_joined, left}
use Rattle.cg_group_state.specs.Membership.{find_member, is_empty, is_preparing, keeping}
use Rattle.cg_group_rules.specs.Rebalance.{complete_join, emptied, is_ready, joined_reply, init_next_generation, prepare_rebalance, reply_to_joins, try_complete_join, turn_of}
use Rattle.cg_group_rules.specs.StaticMember.{replaced}
use Rattle.cg_group_rules.specs.Tick.{expire_heartbeats}
use Rattle.cg_group_state.specs.Staying.{is_overdue}
use Rattle.cg_group_state.specs.Waiting.{answer, answers, called, refusing}
use Rattle.cg_group_table.proofs.Framed.{each-append}

-- each reply of the step
abbrev pub Told : (Reply → Type 0) → Turn → Type 0
Told P t = Each (λ r. P r.1) t.replies

pub each-answer : (P : Ticket × Reply → Type 0) (which : Calls) (tell : Member → Reply) (m : Member) → ((t : Ticket) → called which m.waits ≡ Some t → P (t, tell m)) → Each P (answer which tell m)
each-answer P which tell m k = go (called which m.waits) k
  where
    go : (o : Option Ticket) → ((t : Ticket) → o ≡ Some t → P (t, tell m)) → Each P (option_to_list (option_map (λ t. (t, tell m)) o))
    go None k = tt
    go (Some t) k = (k t refl, tt)

pub each-answers : (P : Ticket × Reply → Type 0) (which : Calls) (tell : Member → Reply) (ms : List Member) → Each (λ m. (t : Ticket) → called which m.waits ≡ Some t → P (t, tell m)) ms → Each P (answers which tell ms)
unfolding answers
each-answers P which tell [] k = tt
each-answers P which tell (m ∷ ms) k = each-append P (answer which tell m) (flat_map (answer which tell) ms) (each-answer P which tell m k.0) (each-answers P which tell ms k.1)

pub each-any : {X : Type 0} (P : X → Type 0) → ((x : X) → P x) → (xs : List X) → Each P xs
each-any P k [] = tt
each-any P k (x ∷ xs) = (k x, each-any P k xs)

module _ (P : Reply → Type 0) (refused : (code : Code) → P (reply.Refused code)) where
  told-alike : (which : Calls) (tell : Member → Reply) → ((m : Member) → P (tell m)) → (ms : List Member) → Each (λ r. P r.1) (answers which tell ms)
  told-alike which tell k ms = each-answers (λ r. P r.1) which tell ms (each-any (λ m. (t : Ticket) → called which m.waits ≡ Some t → P (tell m)) (λ m t e. k m) ms)

  pub told-prepared : (now : ℕ) (t : Turn) → Told P t → Told P (prepare_rebalance now t)
  unfolding prepare_rebalance
  told-prepared now t h = each-append (λ r. P r.1) t.replies _ h (told-alike Syncs _ (λ m. refused _) t.group.members)

  pub told-in_join_phase : (now : ℕ) (t : Turn) → Told P t → Told P (in_join_phase now t)
  told-in_join_phase now t h = elim (is_preparing t.group.phase) as (λ b. Told P (if b then t else prepare_rebalance now t)) [ true ↦ h | false ↦ told-prepared now t h ]

  told-displaced : (o : Option Member) → Each (λ r. P r.1) (displaced o)
  told-displaced None = tt
  told-displaced (Some m) = each-answer (λ r. P r.1) Any (refusing RebalanceInProgress) m (λ t e. refused RebalanceInProgress)

  pub told-waiting : (now : ℕ) (own : List ℕ) (waits : Waits) (t : Turn) → Told P t → Told P (waiting now own waits t)
  unfolding waiting
  told-waiting now own waits t h = each-append (λ r. P r.1) t.replies _ h (told-displaced (find_member own t.group.members))

  pub told-rejoined : (now : ℕ) (own : List ℕ) (ticket : Ticket) (t : Turn) → Told P t → Told P (waiting now own (Join ticket) (in_join_phase now t))
  told-rejoined now own ticket t h = told-waiting now own (Join ticket) (in_join_phase now t) (told-in_join_phase now t h)

  pub told-replaced : (new old : Member) (g : Group) → Told P (replaced new old g)
  unfolding replaced
  told-replaced new old g = each-answer (λ r. P r.1) Any (refusing FencedInstanceId) old (λ t e. refused FencedInstanceId)

  told-reply_to_joins : (now : ℕ) (t : Turn) → ((m : Member) → P (joined_reply t.group m)) → Told P t → Told P (reply_to_joins now t)
  unfolding reply_to_joins
  told-reply_to_joins now t k h = each-append (λ r. P r.1) t.replies _ h (told-alike Joins (joined_reply t.group) k t.group.members)

  told-emptied : (now : ℕ) (t : Turn) → Told P t → Told P (emptied now t)
  unfolding emptied
  told-emptied now t h = h

  pub told-completed : (now : ℕ) (t : Turn) → ((m : Member) → P (joined_reply (init_next_generation t.group) m)) → Told P t → Told P (complete_join now t)
  unfolding complete_join
  told-completed now t k h =
      elim (is_empty t.group.members) as (λ b. Told P (if b then emptied now t else reply_to_joins now (record t { group = init_next_generation t.group }))) [
        | true ↦ told-emptied now t h
        | false ↦ told-reply_to_joins now (record t { group = init_next_generation t.group }) k h
      ]

  pub told-tried : (now : ℕ) (t : Turn) → ((m : Member) → P (joined_reply (init_next_generation t.group) m)) → Told P t → Told P (try_complete_join now t)
  unfolding try_complete_join
  told-tried now t k h = elim (is_ready t.group) as (λ b. Told P (if b then complete_join now t else t)) [ true ↦ told-completed now t k h | false ↦ h ]

  pub told-removal : (now : ℕ) (t : Turn) → Told P t → Told P (if has_joined t.group.phase then prepare_rebalance now t else t)
  told-removal now t h = elim (has_joined t.group.phase) as (λ b. Told P (if b then prepare_rebalance now t else t)) [ true ↦ told-prepared now t h | false ↦ h ]

  pub told-left : P reply.Done → (own : List ℕ) (ticket : Ticket) (m : Member) (g : Group) → Told P (left own ticket m g)
  unfolding left
  told-left done own ticket m g = each-append (λ r. P r.1) (answer Any (refusing UnknownMemberId) m) ((ticket, reply.Done) ∷ []) (each-answer (λ r. P r.1) Any (refusing UnknownMemberId) m (λ t e. refused UnknownMemberId)) (done, tt)

  pub told-gone_in : (now session : ℕ) (g : Group) → Told P (gone_in now session g)
  unfolding gone_in
  told-gone_in now session g = told-alike (OfSession session) _ (λ m. refused _) g.members

  pub told-beat_taken : P reply.Done → (now : ℕ) (own : List ℕ) (ticket : Ticket) (g : Group) → Told P (beat_taken now own ticket g)
  unfolding beat_taken beat_reply
  told-beat_taken done now own ticket g = (elim (is_preparing g.phase) as (λ b. P (if b then reply.Refused RebalanceInProgress else reply.Done)) [ true ↦ refused RebalanceInProgress | false ↦ done ], tt)

-- the step that removes expired members ends with `tried`, from a state whose replies have the property
pub record TriedFrom (P : Reply → Type 0) (now : ℕ) (t : Turn) : Type 0 where
  pub from : Turn
  pub is : t ≡ try_complete_join now from
  pub told : Told P from

pub expired_tried : (P : Reply → Type 0) → ((code : Code) → P (reply.Refused code)) → (now : ℕ) (g : Group) → TriedFrom P now (expire_heartbeats now (turn_of g))
unfolding expire_heartbeats after_removal
expired_tried P refused now g =
    let stays : Member → Bool = λ m. not (is_overdue now m) in
    let fewer : Turn = record (turn_of g) { group = keeping stays g } in
    elim (list_any (is_overdue now) g.members) as (λ b. TriedFrom P now (if b then after_removal now fewer else try_complete_join now (turn_of g))) [
      | true ↦ record { from = if has_joined fewer.group.phase then prepare_rebalance now fewer else fewer; is = refl; told = told-removal P refused now fewer tt }
      | false ↦ record { from = turn_of g; is = refl; told = tt }
    ]
