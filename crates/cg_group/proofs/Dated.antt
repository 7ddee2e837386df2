-- The machine makes no record of generation 0.
use Rattle.std.proofs.Common.{◌≤◌, ℕ, true, false, List, [], ◌∷◌, max, sym, subst, Option, Some, None, Result, Ok, Err}
use Rattle.std.specs.Prelude.{IfSome, if◌then◌else◌}
use Rattle.cg_names.specs.declared.code.Code.{Code}
use Rattle.cg_record.specs.declared.command.Command.{Command}
use Rattle.cg_record.specs.declared.command.Command.TheVariants as command
use Rattle.cg_fold.specs.declared.group_record.GroupRecord.{GroupRecord}
use Rattle.cg_fold.specs.Durable.{State, after}
use Rattle.cg_request.specs.declared.commit_entry.CommitEntry.{CommitEntry}
use Rattle.cg_request.specs.declared.event.Event.{Event}
use Rattle.cg_request.specs.declared.event.Event.TheVariants as event
use Rattle.cg_request.specs.declared.request_fields.JoinRequest.{JoinRequest}
use Rattle.cg_request.specs.declared.ticket.Ticket.{Ticket}
use Rattle.cg_group_state.specs.declared.group.Group.{Group}
use Rattle.cg_group_state.specs.declared.member.Member.{Member}
use Rattle.cg_group_state.specs.declared.turn.Turn.{Turn}
use Rattle.cg_group_rules.specs.Join.{new_group, rejoined}
use Rattle.cg_group_rules.specs.Leave.{gone_in}
use Rattle.cg_group_state.specs.Membership.{is_same}
use Rattle.cg_group_rules.specs.StaticMember.{replace_static_member, keeps_generation, replaced, replaced_in_place, successor}
use Rattle.cg_group_rules.specs.Sync.{kept_member}
use Rattle.cg_group_rules.specs.OffsetCommit.{committed, hearing_committer, keeping_entries}
use Rattle.cg_group_table.specs.GroupTable.{Machine, everywhere}
use Rattle.cg_group_table.specs.Kept.{Each, Kept, kept_in}
use Rattle.cg_group_table.proofs.Framed.{each-append}
use Rattle.cg_group_table.proofs.Kept.{effect, group_of, kept-after, kept_after, left_by}
use Rattle.cg_group.specs.Laws.{AreCompleted, commands_of}
use Rattle.cg_record.specs.declared.topic_partition.TopicPartition.{TopicPartition}
use Rattle.cg_group.proofs.Sweeping.{each-drop, each-tick}
use Rattle.cg_group.specs.Machine.{beat, commit, concluded, deleted, dropped, join, leave, memberless, handled, step, sync, with_offset}
use Rattle.cg_group.proofs.Making.{makes-all, makes-beat_taken, makes-gone_in, makes-join_known, makes-add_member_and_rebalance, makes-leave_taken, makes-rejoined, makes-sync_taken, makes-ticked}
use Rattle.cg_group.proofs.Requests.{Fine, fine-beat, fine-commit, fine-join, fine-leave, fine-sync}

-- the command makes no record of generation 0
abbrev HasDate : Command → Type 0
HasDate (command.Assigned a) = 1 ≤ a.generation
HasDate (command.Emptied e) = 1 ≤ e.generation
HasDate (command.Replaced r) = Unit {0}
HasDate (command.Committed c) = Unit {0}
HasDate (command.Deleted d) = Unit {0}
HasDate (command.Expired e) = Unit {0}
HasDate (command.Dropped d) = Unit {0}

abbrev HaveDates : List Command → Type 0
HaveDates commands = Each HasDate commands

abbrev Dated : Turn → Type 0
Dated t = HaveDates t.commands

dated-committed : (now : ℕ) (entries : List CommitEntry) (ticket : Ticket) (g : Group) → Dated (committed now entries ticket g)
unfolding keeping_entries
dated-committed now entries ticket g = (tt, tt)

dated-replace_static_member : (now : ℕ) (r : JoinRequest) (id : List ℕ) (ticket : Ticket) (old : Member) (g : Group) → Dated (replace_static_member now r id ticket old g)
unfolding replace_static_member replaced replaced_in_place
dated-replace_static_member now r id ticket old g =
    let m : Member = successor now r id old in
    let t : Turn = replaced m old g in
    elim (keeps_generation t.group) as (λ b. Dated (if b then replaced_in_place ticket (kept_member g.protocol m) g t else rejoined now id ticket t)) [
      | true ↦ (tt, tt)
      | false ↦ makes-rejoined HasDate (λ a h. h) (λ e h. h) now id ticket t tt
    ]

dated-concluded : (s : Machine) (ticket : Ticket) (o : Result Turn Code) → Fine Dated o → HaveDates (concluded s ticket o).effects.commands
unfolding concluded
dated-concluded s ticket (Ok t) h = h
dated-concluded s ticket (Err code) h = tt

dated-deleted : (s : Machine) (ticket : Ticket) (o : Result (List ℕ) Code) → HaveDates (deleted s ticket o).effects.commands
unfolding deleted
dated-deleted s ticket (Ok id) = (tt, tt)
dated-deleted s ticket (Err code) = tt

dated-dropped : (s : Machine) (ticket : Ticket) (partitions : List TopicPartition) (o : Result (List ℕ) Code) → HaveDates (dropped s ticket partitions o).effects.commands
unfolding dropped
dated-dropped s ticket partitions (Ok id) = each-drop HasDate (λ _. tt) id (with_offset s.offsets id partitions)
dated-dropped s ticket partitions (Err code) = tt

dated-met : (s : Machine) (e : Event) → HaveDates (handled s e).effects.commands
unfolding handled everywhere
dated-met s (event.Join ticket r fresh) =
    dated-concluded s ticket (join s.last r fresh ticket s.groups)
    (fine-join Dated s.last r fresh ticket s.groups
    (λ id new _ _. makes-add_member_and_rebalance HasDate (λ a h. h) (λ e h. h) s.last r new ticket (new_group id))
    (λ id new g _ _ _ _ _. makes-add_member_and_rebalance HasDate (λ a h. h) (λ e h. h) s.last r new ticket g)
    (λ id new g old _ _ _ _ _. dated-replace_static_member s.last r new ticket old g)
    (λ id own g m _ _ _ _. makes-join_known HasDate (λ a h. h) (λ e h. h) s.last r own ticket m g))
dated-met s (event.Sync ticket r) =
    dated-concluded s ticket (sync s.last r ticket s.groups)
    (fine-sync Dated s.last r ticket s.groups (λ id own g m _ _ _ _ _ _. makes-sync_taken HasDate (λ a h. h) (λ e h. h) s.last r own ticket m g g.phase))
dated-met s (event.Beat ticket r) =
    dated-concluded s ticket (beat s.last r ticket s.groups)
    (fine-beat Dated s.last r ticket s.groups (λ id own g _. makes-beat_taken HasDate (λ a h. h) (λ e h. h) s.last own ticket g))
dated-met s (event.Leave ticket r) =
    dated-concluded s ticket (leave s.last r ticket s.groups)
    (fine-leave Dated s.last r ticket s.groups (λ id g m _ _. makes-leave_taken HasDate (λ a h. h) (λ e h. h) s.last m.id ticket m g))
dated-met s (event.Commit ticket r) =
    dated-concluded s ticket (commit s.last r ticket s.groups)
    (fine-commit Dated s.last r ticket s.groups (λ id _. dated-committed s.last r.entries ticket (new_group id)) (λ id g who _ _. dated-committed s.last r.entries ticket (hearing_committer s.last who g)))
dated-met s (event.Fetch ticket r) = tt
dated-met s (event.Delete ticket id) = dated-deleted s ticket (memberless id s.groups)
dated-met s (event.Drop ticket r) = dated-dropped s ticket r.partitions (memberless r.group s.groups)
dated-met s (event.Describe ticket id) = tt
dated-met s (event.List ticket) = tt
dated-met s (event.Gone session) = makes-all HasDate (λ a h. h) (λ e h. h) (gone_in s.last session) (makes-gone_in HasDate (λ a h. h) (λ e h. h) s.last session) s.groups
dated-met s event.Tick = each-tick HasDate s (makes-ticked HasDate (λ a h. h) (λ e h. h) s.last) (λ _. tt) (λ _ _. tt)

dated-step : (s : Machine) (e : Event) (m : ℕ) → HaveDates (step s e m).effects.commands
unfolding step
dated-step s e m = dated-met (record s { last = max s.last m }) e

dated-commands_of : (events : List (Event × ℕ)) (s : Machine) → HaveDates (commands_of events s)
unfolding commands_of
dated-commands_of [] s = tt
dated-commands_of (e ∷ es) s =
    each-append HasDate (step s e.0 e.1).effects.commands (commands_of es (step s e.0 e.1).after) (dated-step s e.0 e.1) (dated-commands_of es (step s e.0 e.1).after)

-- the record has a generation above 0
abbrev IsNumbered : Option GroupRecord → Type 0
IsNumbered o = IfSome o (λ r. 1 ≤ r.generation)

numbered-left : (c : Command) (o : Option GroupRecord) → HasDate c → IsNumbered o → IsNumbered (left_by c o)
numbered-left (command.Assigned a) o d h = d
numbered-left (command.Emptied e) o d h = d
numbered-left (command.Replaced r) None d h = h
numbered-left (command.Replaced r) (Some x) d h = h
numbered-left (command.Committed c) o d h = h
numbered-left (command.Deleted x) o d h = tt
numbered-left (command.Expired x) o d h = h
numbered-left (command.Dropped x) o d h = h

numbered-effect : (c : Command) (kept : Kept) (id : List ℕ) → HasDate c → IsNumbered (kept id) → IsNumbered (effect kept c id)
numbered-effect c kept id d h =
    elim (is_same (group_of c) id) as (λ b. IsNumbered (if b then left_by c (kept id) else kept id)) [ true ↦ numbered-left c (kept id) d h | false ↦ h ]

numbered-after : (cs : List Command) (kept : Kept) → HaveDates cs → ((id : List ℕ) → IsNumbered (kept id)) → (id : List ℕ) → IsNumbered (kept_after kept cs id)
unfolding kept_after
numbered-after [] kept d h id = h id
numbered-after (c ∷ cs) kept d h id = numbered-after cs (effect kept c) d.1 (λ i. numbered-effect c kept i d.0 (h i)) id

-- no record has generation 0 after these events, if none had it at recovery
pub completed-after : (state : State) (now : ℕ) (events : List (Event × ℕ)) (s : Machine) → AreCompleted state → AreCompleted (after state (commands_of events s))
completed-after state now events s h id =
    let P : Kept → Type 0 = λ k. IsNumbered (k id) in
    subst P (sym (kept-after state (commands_of events s))) (numbered-after (commands_of events s) (kept_in state) (dated-commands_of events s) h id)
