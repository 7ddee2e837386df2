-- Each event, and so every list of events, keeps the ids and the instances of members distinct.
use Rattle.std.proofs.Common.{ℕ, List, [], ◌∷◌, map, refl, max, Option, Some, None, Result, Ok, Err}
use Rattle.std.specs.Prelude.{IfSome}
use Rattle.cg_record.specs.Rosters.{IsRoster, RosterParts}
use Rattle.cg_fold.specs.declared.group_record.GroupRecord.{GroupRecord}
use Rattle.cg_fold.specs.declared.group_record.RecordedMembers.{RecordedMembers}
use Rattle.cg_fold.specs.declared.group_record.RecordedMembers.TheVariants as recorded
use Rattle.cg_fold.specs.Record.{roster_in}
use Rattle.cg_fold.specs.Durable.{State}
use Rattle.cg_fold.specs.Snapshot.{groups_in, in_order}
use Rattle.cg_request.specs.declared.event.Event.{Event}
use Rattle.cg_request.specs.declared.event.Event.TheVariants as event
use Rattle.cg_group_state.specs.declared.group.Group.{Group}
use Rattle.cg_request.specs.declared.ticket.Ticket.{Ticket}
use Rattle.cg_group_state.specs.declared.turn.Turn.{Turn}
use Rattle.cg_group_rules.specs.Join.{new_group}
use Rattle.cg_group_table.specs.Kept.{AreRecords, Each, IsRecord, kept_in}
use Rattle.cg_request.specs.Names.{are_distinct}
use Rattle.cg_group.specs.Laws.{MembersStayDistinct, after_all}
use Rattle.cg_group_rules.specs.Leave.{gone_in}
use Rattle.cg_record.specs.declared.topic_partition.TopicPartition.{TopicPartition}
use Rattle.cg_group_state.specs.Offsets.{offsets_after}
use Rattle.cg_group_table.specs.Expiry.{lasting, tick, tick_effects}
use Rattle.cg_group.proofs.Sweeping.{each-founded, each-lasting}
use Rattle.cg_group.specs.Machine.{beat, commit, concluded, deleted, drop_command, dropped, join, leave, memberless, handled, step, sync, with_offset}
use Rattle.cg_group_table.specs.GroupTable.{Machine, everywhere, groups_after}
use Rattle.cg_group_table.specs.Recovery.{revive, revived, revived_from, revived_with}
use Rattle.cg_group_rules.specs.Tick.{ticked}
use Rattle.cg_group.proofs.Distinct.{Distinct, apart-new_group, distinct-beat_taken, distinct-committed, distinct-gone_in, distinct-join_known, distinct-add_member_and_rebalance, distinct-replace_static_member, distinct-leave_taken, distinct-new_group, distinct-sync_taken, distinct-ticked, free-new_group}
use Rattle.cg_group_table.proofs.KeptLists.{each-found, each-put}
use Rattle.cg_group_table.proofs.Recalled.{distinct-revived_members}
use Rattle.cg_group_table.proofs.Removing.{each-without}
use Rattle.cg_group.proofs.Requests.{Fine, fine-beat, fine-commit, fine-join, fine-leave, fine-sync}
use Rattle.cg_names.specs.declared.code.Code.{Code}

abbrev AllDistinct : List Group → Type 0
AllDistinct groups = Each Distinct groups

-- the members are distinct after the step
abbrev After : Turn → Type 0
After t = Distinct t.group

distinct-concluded : (s : Machine) (ticket : Ticket) (o : Result Turn Code) → Fine After o → AllDistinct s.groups → AllDistinct (concluded s ticket o).after.groups
unfolding concluded
distinct-concluded s ticket (Ok t) d h = each-put Distinct t.group s.groups d h
distinct-concluded s ticket (Err code) d h = h

distinct-groups_after : (turn : Group → Turn) → ((g : Group) → Distinct g → Distinct (turn g).group) → (groups : List Group) → AllDistinct groups → AllDistinct (groups_after turn groups)
distinct-groups_after turn keeps [] h = tt
distinct-groups_after turn keeps (g ∷ gs) h = (keeps g h.0, distinct-groups_after turn keeps gs h.1)

distinct-everywhere : (turn : Group → Turn) → ((g : Group) → Distinct g → Distinct (turn g).group) → (s : Machine) → AllDistinct s.groups → AllDistinct (everywhere turn s).after.groups
unfolding everywhere
distinct-everywhere turn keeps s h = distinct-groups_after turn keeps s.groups h

distinct-deleted : (s : Machine) (ticket : Ticket) (o : Result (List ℕ) Code) → AllDistinct s.groups → AllDistinct (deleted s ticket o).after.groups
unfolding deleted
distinct-deleted s ticket (Ok id) h = each-without Distinct id s.groups h
distinct-deleted s ticket (Err code) h = h

distinct-dropped : (s : Machine) (ticket : Ticket) (partitions : List TopicPartition) (o : Result (List ℕ) Code) → AllDistinct s.groups → AllDistinct (dropped s ticket partitions o).after.groups
unfolding dropped
distinct-dropped s ticket partitions (Ok id) h = each-founded Distinct s.offsets (drop_command id (with_offset s.offsets id partitions)) id s.groups h
distinct-dropped s ticket partitions (Err code) h = h

distinct-met : (s : Machine) (e : Event) → AllDistinct s.groups → AllDistinct (handled s e).after.groups
unfolding handled tick
distinct-met s (event.Join ticket r fresh) h =
    distinct-concluded s ticket (join s.last r fresh ticket s.groups)
    (fine-join After s.last r fresh ticket s.groups
    (λ id new _ _. distinct-add_member_and_rebalance s.last r new ticket (new_group id) (distinct-new_group id) (free-new_group id new) (apart-new_group id r.instance))
    (λ id new g _ e free apart _. distinct-add_member_and_rebalance s.last r new ticket g (each-found Distinct id s.groups g e h) free apart)
    (λ id new g old _ e free _ _. distinct-replace_static_member s.last r new ticket old g (each-found Distinct id s.groups g e h) free)
    (λ id own g m _ e _ _. distinct-join_known s.last r own ticket m g (each-found Distinct id s.groups g e h))) h
distinct-met s (event.Sync ticket r) h =
    distinct-concluded s ticket (sync s.last r ticket s.groups)
    (fine-sync After s.last r ticket s.groups (λ id own g m _ e _ _ _ _. distinct-sync_taken s.last r own ticket m g g.phase (each-found Distinct id s.groups g e h))) h
distinct-met s (event.Beat ticket r) h =
    distinct-concluded s ticket (beat s.last r ticket s.groups)
    (fine-beat After s.last r ticket s.groups (λ id own g e. distinct-beat_taken s.last own ticket g (each-found Distinct id s.groups g e h))) h
distinct-met s (event.Leave ticket r) h =
    distinct-concluded s ticket (leave s.last r ticket s.groups)
    (fine-leave After s.last r ticket s.groups (λ id g m e _. distinct-leave_taken s.last m.id ticket m g (each-found Distinct id s.groups g e h))) h
distinct-met s (event.Commit ticket r) h =
    distinct-concluded s ticket (commit s.last r ticket s.groups)
    (fine-commit After s.last r ticket s.groups
    (λ id _. distinct-committed s.last r.entries ticket None (new_group id) (distinct-new_group id))
    (λ id g who e _. distinct-committed s.last r.entries ticket who g (each-found Distinct id s.groups g e h))) h
distinct-met s (event.Fetch ticket r) h = h
distinct-met s (event.Delete ticket id) h = distinct-deleted s ticket (memberless id s.groups) h
distinct-met s (event.Drop ticket r) h = distinct-dropped s ticket r.partitions (memberless r.group s.groups) h
distinct-met s (event.Describe ticket id) h = h
distinct-met s (event.List ticket) h = h
distinct-met s (event.Gone session) h = distinct-everywhere (gone_in s.last session) (distinct-gone_in s.last session) s h
distinct-met s event.Tick h = distinct-groups_after (ticked s.last) (distinct-ticked s.last) (lasting s.loaded s.last s.offsets (offsets_after s.offsets (tick_effects s).commands) s.groups) (each-lasting Distinct s.loaded s.last s.offsets (offsets_after s.offsets (tick_effects s).commands) s.groups h)

distinct-step : (s : Machine) (e : Event) (now : ℕ) → AllDistinct s.groups → AllDistinct (step s e now).after.groups
unfolding step
distinct-step s e now h = distinct-met (record s { last = max s.last now }) e h

distinct-after_all : (events : List (Event × ℕ)) (s : Machine) → AllDistinct s.groups → AllDistinct (after_all events s).groups
unfolding after_all
distinct-after_all [] s h = h
distinct-after_all (e ∷ es) s h = distinct-after_all es (step s e.0 e.1).after (distinct-step s e.0 e.1 h)

distinct_with : (now : ℕ) (id : List ℕ) (r : GroupRecord) (o : RecordedMembers) → IfSome (roster_in o) IsRoster → Distinct (revived_with now id r o)
unfolding revived_with are_distinct
distinct_with now id r (recorded.Roster roster) h = distinct-revived_members now roster.protocol roster.members h.members.apart
distinct_with now id r (recorded.Empty moment) h = (refl, refl)

distinct_from : (now : ℕ) (id : List ℕ) (o : Option GroupRecord) → IfSome o IsRecord → Distinct (revived_from now id o)
distinct_from now id None h = distinct-new_group id
distinct_from now id (Some r) h = distinct_with now id r r.members h

distinct-revived : (now : ℕ) (state : State) (id : List ℕ) → AreRecords state → Distinct (revived now state id)
unfolding revived
distinct-revived now state id h = distinct_from now id (kept_in state id) (h id)

distinct-all_revived : (now : ℕ) (state : State) (names : List (List ℕ)) → AreRecords state → AllDistinct (map (revived now state) names)
distinct-all_revived now state [] h = tt
distinct-all_revived now state (x ∷ xs) h = (distinct-revived now state x h, distinct-all_revived now state xs h)

distinct-revive : (state : State) (now : ℕ) → AreRecords state → AllDistinct (revive state now).groups
unfolding revive
distinct-revive state now h = distinct-all_revived now state (in_order (groups_in state)) h

pub members_stay_distinct : MembersStayDistinct
members_stay_distinct state now events h = distinct-after_all events (revive state now) (distinct-revive state now h)
