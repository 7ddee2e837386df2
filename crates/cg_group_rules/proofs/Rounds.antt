-- A rebalance that begins and completes in one step: what is worked out before it begins holds then.
use Rattle.std.proofs.Common.{◌≡◌, ℕ, Bool, true, false, ◌&&◌, ◌||◌, List, [], ◌∷◌, ◌++◌, map, Some, refl, sym, ap, ◌∙◌}
use Rattle.std.specs.Prelude.{Option, None, find, option_map, if◌then◌else◌}
use Rattle.std.specs.List.{list_all, list_any}
use Rattle.std.proofs.lemmas.Bool.{and_parts, false≢true, or_parts}
use Rattle.cg_names.specs.Generations.{next_generation}
use Rattle.cg_record.specs.declared.command.Command.{Command}
use Rattle.cg_request.specs.declared.ticket.Ticket.{Ticket}
use Rattle.cg_group_state.specs.declared.calls.Calls.TheVariants.{Joins, Syncs}
use Rattle.cg_group_state.specs.declared.effects.Effects.{Effects}
use Rattle.cg_group_state.specs.declared.group.Group.{Group}
use Rattle.cg_group_state.specs.declared.group.Phase.TheVariants.{Empty, Preparing}
use Rattle.cg_group_state.specs.declared.member.Member.{Member}
use Rattle.cg_group_state.specs.declared.member.Waits.{Waits}
use Rattle.cg_group_state.specs.declared.member.Waits.TheVariants.{Nothing, Join, Sync}
use Rattle.cg_group_state.specs.declared.reply.Reply.{Reply}
use Rattle.cg_group_state.specs.declared.turn.Turn.{Turn}
use Rattle.cg_group_state.specs.Membership.{is_empty, is_named, is_preparing, leader_among}
use Rattle.cg_group_rules.specs.Rebalance.{begun, complete_join, emptied, emptied_command, is_ready, joined_members, joined_reply, next_leader, init_next_generation, reply_to_joins, try_complete_join, turned}
use Rattle.cg_group_state.specs.Waiting.{after_answer, after_answers, answered, answers, is_waiting}
use Rattle.cg_group_rules.specs.declared.rebalance.Round.{Round}
use Rattle.cg_group_rules.specs.RebalancePlan.{IsPlan, is_complete, in_round, rounded}

-- a reply to a SYNC leaves a member with a parked JOIN as it is
sync_of_joined : (now : ℕ) (m : Member) → is_waiting Joins m ≡ true → after_answer Syncs now m ≡ m
sync_of_joined now m h = go m.waits refl h
  where
    go : (w : Waits) → m.waits ≡ w → is_waiting Joins (record m { waits = w }) ≡ true → after_answer Syncs now m ≡ m
    go (Join t) e h = ap (λ w. if is_waiting Syncs (record m { waits = w }) then answered now m else m) e
    go Nothing e h = absurd (false≢true h)
    go (Sync t) e h = absurd (false≢true h)

-- where every member has a parked JOIN, a rebalance that begins changes no member
pub syncs_of_joined : (now : ℕ) (ms : List Member) → list_all (is_waiting Joins) ms ≡ true → after_answers Syncs now ms ≡ ms
unfolding after_answers
syncs_of_joined now [] h = refl
syncs_of_joined now (m ∷ ms) h =
    let parts = and_parts (is_waiting Joins m) (list_all (is_waiting Joins) ms) h in
    ap (λ x. x ∷ map (after_answer Syncs now) ms) (sync_of_joined now m parts.0) ∙ ap (λ xs. m ∷ xs) (syncs_of_joined now ms parts.1)

-- a reply to a SYNC leaves no member with a parked JOIN
joins_after_sync : (now : ℕ) (m : Member) → is_waiting Joins (after_answer Syncs now m) ≡ is_waiting Joins m
joins_after_sync now m = go m.waits refl
  where
    go : (w : Waits) → m.waits ≡ w → is_waiting Joins (after_answer Syncs now m) ≡ is_waiting Joins m
    go (Join t) e = ap (λ w. is_waiting Joins (if is_waiting Syncs (record m { waits = w }) then answered now m else m)) e
    go Nothing e = ap (λ w. is_waiting Joins (if is_waiting Syncs (record m { waits = w }) then answered now m else m)) e
    go (Sync t) e = ap (λ w. is_waiting Joins (if is_waiting Syncs (record m { waits = w }) then answered now m else m)) e ∙ ap (λ w. is_waiting Joins (record m { waits = w })) (sym e)

joined_after_syncs : (now : ℕ) (ms : List Member) → list_all (is_waiting Joins) (after_answers Syncs now ms) ≡ list_all (is_waiting Joins) ms
unfolding after_answers
joined_after_syncs now [] = refl
joined_after_syncs now (m ∷ ms) =
    ap (λ b. b && list_all (is_waiting Joins) (map (after_answer Syncs now) ms)) (joins_after_sync now m) ∙ ap (λ b. is_waiting Joins m && b) (joined_after_syncs now ms)

-- whether a rebalance that begins or is under way is ready
begun_ready : (begins : Bool) (now : ℕ) (g : Group) → is_ready (begun begins now g) ≡ is_complete begins g
unfolding is_ready
begun_ready true now g = joined_after_syncs now g.members
begun_ready false now g = refl

unready_stays : (begins : Bool) (now : ℕ) (g : Group) (e : Effects) → is_complete begins g ≡ false → try_complete_join now (turned (begun begins now g) e) ≡ turned (begun begins now g) e
unfolding try_complete_join
unready_stays begins now g e h = ap (λ b. if b then complete_join now (turned (begun begins now g) e) else turned (begun begins now g) e) (begun_ready begins now g ∙ h)

module _ (now : ℕ) (g : Group) (e : Effects) (r : Round) where
  -- a rebalance without members completes
  pub completed_empty : (commands : List Command) → is_empty g.members ≡ true → r ≡ record { phase = Empty; generation = next_generation g.generation; protocol = None; leader = None; emptied = Some now }
      → commands ≡ e.commands ++ emptied_command now (record g { generation = next_generation g.generation })
      → complete_join now (turned g e) ≡ turned (rounded now (Some r) g) (record { commands = commands; replies = e.replies })
  unfolding complete_join emptied emptied_command after_answers
  completed_empty commands none is by = go g.members refl none
    where
      go : (ms : List Member) → g.members ≡ ms → is_empty ms ≡ true → complete_join now (turned g e) ≡ turned (rounded now (Some r) g) (record { commands = commands; replies = e.replies })
      go [] f h = rw (f, is, by) refl
      go (m ∷ ms) f h = absurd (false≢true h)

  -- a rebalance of members completes
  pub completed_told : (replies : List (Ticket × Reply)) → is_empty g.members ≡ false → in_round r g ≡ init_next_generation g
      → replies ≡ e.replies ++ answers Joins (joined_reply (init_next_generation g)) g.members
      → complete_join now (turned g e) ≡ turned (rounded now (Some r) g) (record { commands = e.commands; replies = replies })
  unfolding complete_join reply_to_joins init_next_generation
  completed_told replies some is by =
      ap (λ b. if b then emptied now (turned g e) else reply_to_joins now (record (turned g e) { group = init_next_generation g })) some
      ∙ ap (λ (x : Group). turned (record x { members = after_answers Joins now g.members }) (record { commands = e.commands; replies = e.replies ++ answers Joins (joined_reply (init_next_generation g)) g.members })) (sym is)
      ∙ ap (λ rs. turned (rounded now (Some r) g) (record { commands = e.commands; replies = rs })) (sym by)

  -- the moment at which a rebalance begins goes into nothing that completes it
  completed_started : complete_join now (turned (record g { phase = Preparing; started = now }) e) ≡ record (complete_join now (turned g e)) { group = record (complete_join now (turned g e)).group { started = now } }
  unfolding complete_join emptied emptied_command reply_to_joins init_next_generation next_leader joined_reply joined_members
  completed_started =
      elim (is_empty g.members) as (λ b. (if b then emptied now (turned (record g { phase = Preparing; started = now }) e) else reply_to_joins now (turned (init_next_generation (record g { phase = Preparing; started = now })) e))
      ≡ record (if b then emptied now (turned g e) else reply_to_joins now (turned (init_next_generation g) e)) { group = record (if b then emptied now (turned g e) else reply_to_joins now (turned (init_next_generation g) e)).group { started = now } }) [
        | true ↦ refl
        | false ↦ refl
      ]

  -- a rebalance that begins completes in the round that was worked out before
  ready_completes : (begins : Bool) (after : Effects) → is_complete begins g ≡ true → complete_join now (turned g e) ≡ turned (rounded now (Some r) g) after
      → try_complete_join now (turned (begun begins now g) e) ≡ turned (rounded now (Some r) (begun begins now g)) after
  unfolding try_complete_join
  ready_completes begins after h by =
      let joined = and_parts (begins || is_preparing g.phase) (list_all (is_waiting Joins) g.members) h in
      ap (λ b. if b then complete_join now (turned (begun begins now g) e) else turned (begun begins now g) e) (begun_ready begins now g ∙ h) ∙ go begins joined.1
    where
      go : (b : Bool) → list_all (is_waiting Joins) g.members ≡ true → complete_join now (turned (begun b now g) e) ≡ turned (rounded now (Some r) (begun b now g)) after
      go false j = by
      go true j =
          ap (λ ms. complete_join now (turned (record g { phase = Preparing; started = now; members = ms }) e)) (syncs_of_joined now g.members j)
          ∙ completed_started
          ∙ ap (λ (t : Turn). record t { group = record t.group { started = now } }) by
          ∙ ap (λ ms. turned (in_round r (record g { started = now; members = after_answers Joins now ms })) after) (sym (syncs_of_joined now g.members j))

-- what was planned is what the rebalance comes to
pub plan_holds : (begins : Bool) (now : ℕ) (g : Group) (before : Effects) (round : Option Round) (after : Effects) → IsPlan now begins g before round after
    → try_complete_join now (turned (begun begins now g) before) ≡ turned (rounded now round (begun begins now g)) after
plan_holds begins now g before None after h = unready_stays begins now g before h.0 ∙ ap (λ e. turned (begun begins now g) e) (sym h.1)
plan_holds begins now g before (Some r) after h = ready_completes now g before r begins after h.0 h.1

-- nobody is chosen where nobody leads
pub unled : (p q : Member → Bool) (ms : List Member) → list_any p ms ≡ false → list_any (λ m. p m && q m) ms ≡ false
unled p q [] h = refl
unled p q (m ∷ ms) h =
    let parts = or_parts (p m) (list_any p ms) h in
    ap (λ b. (b && q m) || list_any (λ x. p x && q x) ms) parts.0 ∙ unled p q ms parts.1

pub nobody : (ms : List Member) → list_any (λ m. is_named None m.id) ms ≡ false
nobody [] = refl
nobody (m ∷ ms) = nobody ms

-- a leader that is no member leads no round
next_leader_unled : (g : Group) → next_leader (record g { leader = leader_among g.members g.leader }) ≡ next_leader g
unfolding next_leader
next_leader_unled g =
    (elim (list_any (λ m. is_named g.leader m.id) g.members) as (λ b. list_any (λ m. is_named g.leader m.id) g.members ≡ b → next_leader (record g { leader = if b then g.leader else None }) ≡ next_leader g) [
      | true ↦ λ _. refl
      | false ↦ λ e.
          ap (λ b. if b then None else option_map (λ m. m.id) (find (is_waiting Joins) g.members)) (unled (λ m. is_named None m.id) (is_waiting Joins) g.members (nobody g.members))
          ∙ sym (ap (λ b. if b then g.leader else option_map (λ m. m.id) (find (is_waiting Joins) g.members)) (unled (λ m. is_named g.leader m.id) (is_waiting Joins) g.members e))
    ]) refl

completed_unled : (now : ℕ) (g : Group) (e : Effects) → complete_join now (turned (record g { leader = leader_among g.members g.leader }) e) ≡ complete_join now (turned g e)
unfolding complete_join emptied emptied_command init_next_generation
completed_unled now g e =
    elim (is_empty g.members) as (λ b. (if b then emptied now (turned (record g { leader = leader_among g.members g.leader }) e) else reply_to_joins now (turned (init_next_generation (record g { leader = leader_among g.members g.leader })) e))
    ≡ (if b then emptied now (turned g e) else reply_to_joins now (turned (init_next_generation g) e))) [
      | true ↦ refl
      | false ↦ ap (λ leader. reply_to_joins now (turned (record (init_next_generation g) { leader = leader }) e)) (next_leader_unled g)
    ]

-- so what was planned with it holds without it
pub plan_unled : (now : ℕ) (begins : Bool) (g : Group) (before : Effects) (round : Option Round) (after : Effects) → IsPlan now begins g before round after → IsPlan now begins (record g { leader = leader_among g.members g.leader }) before round after
plan_unled now begins g before None after h = h
plan_unled now begins g before (Some r) after h = (h.0, completed_unled now g before ∙ h.1)
