-- A machine that events make after recovery: its groups stay ordered and its members distinct, so requests are kept.
use Rattle.std.proofs.Common.{◌≡◌, ℕ, true, false, not, ◌&&◌, List, [], ◌∷◌, ◌++◌, refl, sym, ap, ◌∙◌, subst, max, Result, Ok, Err}
use Rattle.std.specs.Prelude.{if◌then◌else◌}
use Rattle.cg_names.specs.declared.code.Code.{Code}
use Rattle.cg_fold.specs.Durable.{State}
use Rattle.cg_record.specs.declared.command.Command.{Command}
use Rattle.cg_record.specs.declared.topic_partition.TopicPartition.{TopicPartition}
use Rattle.cg_request.specs.declared.event.Event.{Event}
use Rattle.cg_request.specs.declared.event.Event.TheVariants as event
use Rattle.cg_group_state.specs.declared.group.Group.{Group}
use Rattle.cg_request.specs.declared.ticket.Ticket.{Ticket}
use Rattle.cg_group_state.specs.declared.turn.Turn.{Turn}
use Rattle.cg_group_table.specs.Kept.{Ascending}
use Rattle.cg_group.specs.Laws.{after_all}
use Rattle.cg_group_rules.specs.Leave.{gone_in}
use Rattle.cg_group.specs.Machine.{beat, commit, concluded, deleted, drop_command, dropped, founded_after, is_unfounded, join, leave, memberless, handled, step, sync, with_offset}
use Rattle.cg_group_table.specs.Expiry.{goes, is_nil, lasting, tick, tick_effects}
use Rattle.cg_group_table.specs.GroupTable.{InOrder, Machine, groups_after, everywhere, without_group}
use Rattle.cg_group_table.specs.Recovery.{revive}
use Rattle.cg_group_state.specs.Offsets.{OffsetMap, offsets_after}
use Rattle.cg_group_rules.specs.Tick.{ticked}
use Rattle.cg_group.proofs.AgreeingTick.{ascending-filter}
use Rattle.cg_group.proofs.DistinctMachine.{members_stay_distinct}
use Rattle.cg_group_table.proofs.Framed.{framed-gone_in, framed-ticked}
use Rattle.cg_group_table.proofs.KeptLists.{ascending-with_group, group_ids}
use Rattle.cg_group_table.proofs.Removing.{ascending-without}
use Rattle.cg_group_table.proofs.Revived.{in_order-revived}
use Rattle.cg_desk.specs.Made.{EventsKeepCalls, IsMade}
use Rattle.cg_desk.proofs.CalledEvents.{IsSound, request-keeps}
use Rattle.cg_desk.proofs.CalledEverywhere.{gone-keeps, loaded-idle, tick-keeps}

-- the groups stay ordered

concluded-ordered : (s : Machine) (ticket : Ticket) (o : Result Turn Code) → InOrder s.groups → InOrder (concluded s ticket o).after.groups
unfolding concluded
concluded-ordered s ticket (Ok t) h = ascending-with_group t.group s.groups h
concluded-ordered s ticket (Err code) h = h

deleted-ordered : (s : Machine) (ticket : Ticket) (o : Result (List ℕ) Code) → InOrder s.groups → InOrder (deleted s ticket o).after.groups
unfolding deleted
deleted-ordered s ticket (Ok id) h = ascending-without id s.groups h
deleted-ordered s ticket (Err code) h = h

founded-ordered : (offsets : OffsetMap) (commands : List Command) (id : List ℕ) (groups : List Group) → InOrder groups → InOrder (founded_after offsets commands id groups)
founded-ordered offsets commands id groups h =
    elim (not (is_nil commands) && is_unfounded (offsets_after offsets commands) groups id) as (λ b. InOrder (if b then without_group id groups else groups)) [ true ↦ ascending-without id groups h | false ↦ h ]

dropped-ordered : (s : Machine) (ticket : Ticket) (partitions : List TopicPartition) (o : Result (List ℕ) Code) → InOrder s.groups → InOrder (dropped s ticket partitions o).after.groups
unfolding dropped
dropped-ordered s ticket partitions (Ok id) h = founded-ordered s.offsets (drop_command id (with_offset s.offsets id partitions)) id s.groups h
dropped-ordered s ticket partitions (Err code) h = h

same-ids : (turn : Group → Turn) → ((g : Group) → (turn g).group.id ≡ g.id) → (gs : List Group) → group_ids (groups_after turn gs) ≡ group_ids gs
same-ids turn same [] = refl
same-ids turn same (g ∷ gs) = ap (λ x. x ∷ group_ids (groups_after turn gs)) (same g) ∙ ap (λ xs. g.id ∷ xs) (same-ids turn same gs)

everywhere-ordered : (turn : Group → Turn) → ((g : Group) → (turn g).group.id ≡ g.id) → (s : Machine) → InOrder s.groups → InOrder (everywhere turn s).after.groups
unfolding everywhere
everywhere-ordered turn same s h = let P : List (List ℕ) → Type 0 = λ xs. Ascending xs in subst P (sym (same-ids turn same s.groups)) h

tick-ordered : (s : Machine) → InOrder s.groups → InOrder (tick s).after.groups
unfolding tick
tick-ordered s h =
    let P : List (List ℕ) → Type 0 = λ xs. Ascending xs in
    let later : OffsetMap = offsets_after s.offsets (tick_effects s).commands in
    subst P (sym (same-ids (ticked s.last) (λ g. (framed-ticked s.last g).0) (lasting s.loaded s.last s.offsets later s.groups)))
    (ascending-filter (λ g. not (goes s.loaded s.last s.offsets later g)) s.groups h)

met-ordered : (s : Machine) (e : Event) → InOrder s.groups → InOrder (handled s e).after.groups
unfolding handled
met-ordered s (event.Join ticket r fresh) h = concluded-ordered s ticket (join s.last r fresh ticket s.groups) h
met-ordered s (event.Sync ticket r) h = concluded-ordered s ticket (sync s.last r ticket s.groups) h
met-ordered s (event.Beat ticket r) h = concluded-ordered s ticket (beat s.last r ticket s.groups) h
met-ordered s (event.Leave ticket r) h = concluded-ordered s ticket (leave s.last r ticket s.groups) h
met-ordered s (event.Commit ticket r) h = concluded-ordered s ticket (commit s.last r ticket s.groups) h
met-ordered s (event.Fetch ticket r) h = h
met-ordered s (event.Delete ticket id) h = deleted-ordered s ticket (memberless id s.groups) h
met-ordered s (event.Drop ticket r) h = dropped-ordered s ticket r.partitions (memberless r.group s.groups) h
met-ordered s (event.Describe ticket id) h = h
met-ordered s (event.List ticket) h = h
met-ordered s (event.Gone session) h = everywhere-ordered (gone_in s.last session) (λ g. (framed-gone_in s.last session g).0) s h
met-ordered s event.Tick h = tick-ordered s h

step-ordered : (s : Machine) (e : Event) (now : ℕ) → InOrder s.groups → InOrder (step s e now).after.groups
unfolding step
step-ordered s e now h = met-ordered (record s { last = max s.last now }) e h

all-ordered : (events : List (Event × ℕ)) (s : Machine) → InOrder s.groups → InOrder (after_all events s).groups
unfolding after_all
all-ordered [] s h = h
all-ordered (e ∷ es) s h = all-ordered es (step s e.0 e.1).after (step-ordered s e.0 e.1 h)

revive-ordered : (state : State) (now : ℕ) → InOrder (revive state now).groups
unfolding revive
revive-ordered state now = in_order-revived now state

sound : (s : Machine) → IsMade s → IsSound s
sound s made =
    let P : Machine → Type 0 = λ m. IsSound m in
    subst P (sym made.is) record {
      distinct = members_stay_distinct made.state made.began made.events made.lawful;
      in_order = all-ordered made.events (revive made.state made.began) (revive-ordered made.state made.began);
    }

-- one more event

all-append : (es fs : List (Event × ℕ)) (s : Machine) → after_all (es ++ fs) s ≡ after_all fs (after_all es s)
unfolding after_all
all-append [] fs s = refl
all-append (e ∷ es) fs s = all-append es fs (step s e.0 e.1).after

one-more : (s : Machine) (e : Event) (now : ℕ) → after_all ((e, now) ∷ []) s ≡ (step s e now).after
unfolding after_all
one-more s e now = refl

pub made-step : (s : Machine) (e : Event) (now : ℕ) → IsMade s → IsMade (step s e now).after
made-step s e now made = record {
  state = made.state;
  began = made.began;
  events = made.events ++ (e, now) ∷ [];
  lawful = made.lawful;
  is = ap (λ (m : Machine). (step m e now).after) made.is ∙ sym (all-append made.events ((e, now) ∷ []) (revive made.state made.began) ∙ one-more (after_all made.events (revive made.state made.began)) e now);
}

pub events_keep_calls : EventsKeepCalls
events_keep_calls = record {
  loaded = loaded-idle;
  request = λ s r token fresh now made. request-keeps s r token fresh now (sound s made);
  tick = tick-keeps;
  gone = gone-keeps;
}
