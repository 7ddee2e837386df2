-- A Replaced command has the assignment of the replaced member; only a replacement makes such a command.
use Rattle.std.proofs.Common.{◌≡◌, ℕ, Bool, true, false, ◌&&◌, ◌||◌, max, List, [], ◌∷◌, ◌++◌, find, cond, refl, ap, subst, ◌∙◌, Some, Result, Ok, Err}
use Rattle.std.specs.Prelude.{if◌then◌else◌}
use Rattle.std.specs.List.{list_any, flat_map}
use Rattle.std.proofs.lemmas.Bool.{and_from, or_left, or_right}
use Rattle.cg_names.specs.declared.code.Code.{Code}
use Rattle.cg_record.specs.declared.command.Command.{Command}
use Rattle.cg_record.specs.declared.command.Command.TheVariants as command
use Rattle.cg_request.specs.declared.commit_entry.CommitEntry.{CommitEntry}
use Rattle.cg_request.specs.declared.event.Event.{Event}
use Rattle.cg_request.specs.declared.event.Event.TheVariants as event
use Rattle.cg_group_state.specs.declared.group.Group.{Group}
use Rattle.cg_group_state.specs.declared.member.Member.{Member}
use Rattle.cg_request.specs.declared.request_fields.JoinRequest.{JoinRequest}
use Rattle.cg_request.specs.declared.ticket.Ticket.{Ticket}
use Rattle.cg_group_state.specs.declared.turn.Turn.{Turn}
use Rattle.cg_group_rules.specs.OffsetCommit.{committed, hearing_committer, keeping_entries}
use Rattle.cg_group_rules.specs.Join.{new_group, new_member, rejoined}
use Rattle.cg_record.specs.declared.replaced.Replaced.{Replaced}
use Rattle.cg_fold.specs.Durable.{after}
use Rattle.cg_group_state.specs.declared.reply.Reply.{Reply}
use Rattle.cg_group_state.specs.declared.reply.Reply.TheVariants as reply
use Rattle.cg_group_table.specs.Kept.{Each, Kept, kept_in}
use Rattle.cg_group.specs.Laws.{AreRequests, AssignmentsAreEarned, IsEarnedAssignment, IsPassedOn, after_all, state_after}
use Rattle.cg_group.proofs.Asked.{earned_is, is_earned, is_passed_on, passed_is, passes_assignment}
use Rattle.cg_group_rules.specs.Leave.{gone_in}
use Rattle.cg_record.specs.declared.topic_partition.TopicPartition.{TopicPartition}
use Rattle.cg_group_table.specs.Expiry.{tick}
use Rattle.cg_group.proofs.Sweeping.{each-drop, each-tick}
use Rattle.cg_group.specs.Machine.{beat, commit, concluded, deleted, dropped, join, leave, memberless, handled, step, sync, with_offset}
use Rattle.cg_group_table.specs.GroupTable.{Machine, Outcome, everywhere, find_group}
use Rattle.cg_group_state.specs.Membership.{find_instance, has_instance, is_same}
use Rattle.cg_group_rules.specs.StaticMember.{replace_static_member, keeps_generation, replaced, replaced_command, replaced_in_place, successor}
use Rattle.cg_group_table.specs.Recovery.{revive}
use Rattle.cg_group_rules.specs.Sync.{kept_member}
use Rattle.cg_group_rules.specs.Tick.{ticked}
use Rattle.cg_group.proofs.Earned.{replies_are_earned}
use Rattle.cg_group_table.proofs.Framed.{each-append}
use Rattle.cg_group_table.proofs.Finding.{any_found}
use Rattle.cg_group_table.proofs.KeptLists.{same_self}
use Rattle.cg_group.proofs.KeptMachine.{each-over}
use Rattle.cg_group.proofs.Making.{makes-beat_taken, makes-gone_in, makes-join_known, makes-add_member_and_rebalance, makes-leave_taken, makes-rejoined, makes-sync_taken, makes-ticked}
use Rattle.cg_group.proofs.Requests.{Fine, fine-beat, fine-commit, fine-join, fine-leave, fine-sync}
use Rattle.cg_group.proofs.Succeeding.{found_passes}

-- a command other than Replaced
abbrev is_plain : Command → Bool
is_plain (command.Assigned a) = true
is_plain (command.Emptied e) = true
is_plain (command.Replaced r) = false
is_plain (command.Committed c) = true
is_plain (command.Deleted d) = true
is_plain (command.Expired e) = true
is_plain (command.Dropped d) = true

abbrev IsPlain : Command → Type 0
IsPlain c = is_plain c ≡ true

abbrev ArePlain : List Command → Type 0
ArePlain commands = Each IsPlain commands

abbrev Plain : Turn → Type 0
Plain t = ArePlain t.commands

plain-committed : (now : ℕ) (entries : List CommitEntry) (ticket : Ticket) (g : Group) → Plain (committed now entries ticket g)
unfolding keeping_entries
plain-committed now entries ticket g = (refl, tt)

-- the machine

plain_passed : (groups : List Group) (c : Command) → is_plain c ≡ true → is_passed_on groups c ≡ true
plain_passed groups (command.Assigned a) h = refl
plain_passed groups (command.Emptied e) h = refl
plain_passed groups (command.Replaced r) h = cc
plain_passed groups (command.Committed c) h = refl
plain_passed groups (command.Deleted d) h = refl
plain_passed groups (command.Expired e) h = refl
plain_passed groups (command.Dropped d) h = refl

module _ (groups : List Group) where
  abbrev ArePassed : List Command → Type 0
  ArePassed commands = Each (λ c. is_passed_on groups c ≡ true) commands

  abbrev Passed : Turn → Type 0
  Passed t = ArePassed t.commands

  all_passed : (commands : List Command) → ArePlain commands → ArePassed commands
  all_passed commands h = each-over (λ c. is_plain c ≡ true) (λ c. is_passed_on groups c ≡ true) (plain_passed groups) commands h

  any_group : (q : Group → Bool) (id : List ℕ) (gs : List Group) (g : Group) → find_group id gs ≡ Some g → q g ≡ true → list_any q gs ≡ true
  unfolding find_group
  any_group q id [] g e h = cc
  any_group q id (x ∷ xs) g e h =
      (elim (is_same x.id id) as (λ b. cond b (Some x) (find (λ y. is_same y.id id) xs) ≡ Some g → (q x || list_any q xs) ≡ true) [
        | true ↦ λ e. let same : x ≡ g = cc in or_left (q x) (list_any q xs) (ap q same ∙ h)
        | false ↦ λ e. or_right (q x) (list_any q xs) (any_group q id xs g e h)
      ]) e

  passed_successor : (now : ℕ) (r : JoinRequest) (new : List ℕ) (old : Member) (g : Group) → find_instance r.instance g.members ≡ Some old → list_any (passes_assignment (kept_member g.protocol (successor now r new old))) g.members ≡ true
  unfolding find_instance new_member
  passed_successor now r new old g found =
      any_found (has_instance r.instance) (passes_assignment (kept_member g.protocol (successor now r new old))) g.members old found
      (and_from (has_instance r.instance old) (is_same old.assignment old.assignment) (found_passes (has_instance r.instance) g.members old found) (same_self old.assignment))

  passed-replace_static_member : (now : ℕ) (r : JoinRequest) (id new : List ℕ) (ticket : Ticket) (old : Member) (g : Group) → find_group id groups ≡ Some g → find_instance r.instance g.members ≡ Some old → Passed (replace_static_member now r new ticket old g)
  unfolding replace_static_member replaced replaced_in_place
  passed-replace_static_member now r id new ticket old g held found =
      let m : Member = successor now r new old in
      let t : Turn = replaced m old g in
      let here : is_passed_on groups (replaced_command (kept_member g.protocol m) g) ≡ true =
      any_group (λ k. is_same k.id g.id && list_any (passes_assignment (kept_member g.protocol m)) k.members) id groups g held
      (and_from (is_same g.id g.id) (list_any (passes_assignment (kept_member g.protocol m)) g.members) (same_self g.id) (passed_successor now r new old g found)) in
      elim (keeps_generation t.group) as (λ b. Passed (if b then replaced_in_place ticket (kept_member g.protocol m) g t else rejoined now new ticket t)) [
        | true ↦ (here, tt)
        | false ↦ all_passed (rejoined now new ticket t).commands (makes-rejoined IsPlain (λ _ _. refl) (λ _ _. refl) now new ticket t tt)
      ]

  passed_all : (turn : Group → Turn) → ((g : Group) → Plain (turn g)) → (gs : List Group) → ArePassed (flat_map (λ g. (turn g).commands) gs)
  passed_all turn k [] = tt
  passed_all turn k (g ∷ gs) = each-append (λ c. is_passed_on groups c ≡ true) (turn g).commands (flat_map (λ g. (turn g).commands) gs) (all_passed (turn g).commands (k g)) (passed_all turn k gs)

passed-concluded : (s : Machine) (ticket : Ticket) (o : Result Turn Code) → Fine (Passed s.groups) o → ArePassed s.groups (concluded s ticket o).effects.commands
unfolding concluded
passed-concluded s ticket (Ok t) h = h
passed-concluded s ticket (Err code) h = tt

passed-deleted : (s : Machine) (ticket : Ticket) (o : Result (List ℕ) Code) → ArePassed s.groups (deleted s ticket o).effects.commands
unfolding deleted
passed-deleted s ticket (Ok id) = (refl, tt)
passed-deleted s ticket (Err code) = tt

passed-dropped : (s : Machine) (ticket : Ticket) (partitions : List TopicPartition) (o : Result (List ℕ) Code) → ArePassed s.groups (dropped s ticket partitions o).effects.commands
unfolding dropped
passed-dropped s ticket partitions (Ok id) = each-drop (λ c. is_passed_on s.groups c ≡ true) (λ _. refl) id (with_offset s.offsets id partitions)
passed-dropped s ticket partitions (Err code) = tt

passed-met : (s : Machine) (e : Event) → ArePassed s.groups (handled s e).effects.commands
unfolding handled everywhere
passed-met s (event.Join ticket r fresh) =
    passed-concluded s ticket (join s.last r fresh ticket s.groups)
    (fine-join (Passed s.groups) s.last r fresh ticket s.groups
    (λ id new _ _. all_passed s.groups _ (makes-add_member_and_rebalance IsPlain (λ _ _. refl) (λ _ _. refl) s.last r new ticket (new_group id)))
    (λ id new g _ _ _ _ _. all_passed s.groups _ (makes-add_member_and_rebalance IsPlain (λ _ _. refl) (λ _ _. refl) s.last r new ticket g))
    (λ id new g old _ e _ found _. passed-replace_static_member s.groups s.last r id new ticket old g e found)
    (λ id own g m _ _ _ _. all_passed s.groups _ (makes-join_known IsPlain (λ _ _. refl) (λ _ _. refl) s.last r own ticket m g)))
passed-met s (event.Sync ticket r) =
    passed-concluded s ticket (sync s.last r ticket s.groups)
    (fine-sync (Passed s.groups) s.last r ticket s.groups (λ id own g m _ _ _ _ _ _. all_passed s.groups _ (makes-sync_taken IsPlain (λ _ _. refl) (λ _ _. refl) s.last r own ticket m g g.phase)))
passed-met s (event.Beat ticket r) =
    passed-concluded s ticket (beat s.last r ticket s.groups)
    (fine-beat (Passed s.groups) s.last r ticket s.groups (λ id own g _. all_passed s.groups _ (makes-beat_taken IsPlain (λ _ _. refl) (λ _ _. refl) s.last own ticket g)))
passed-met s (event.Leave ticket r) =
    passed-concluded s ticket (leave s.last r ticket s.groups)
    (fine-leave (Passed s.groups) s.last r ticket s.groups (λ id g m _ _. all_passed s.groups _ (makes-leave_taken IsPlain (λ _ _. refl) (λ _ _. refl) s.last m.id ticket m g)))
passed-met s (event.Commit ticket r) =
    passed-concluded s ticket (commit s.last r ticket s.groups)
    (fine-commit (Passed s.groups) s.last r ticket s.groups
    (λ id _. all_passed s.groups _ (plain-committed s.last r.entries ticket (new_group id)))
    (λ id g who _ _. all_passed s.groups _ (plain-committed s.last r.entries ticket (hearing_committer s.last who g))))
passed-met s (event.Fetch ticket r) = tt
passed-met s (event.Delete ticket id) = passed-deleted s ticket (memberless id s.groups)
passed-met s (event.Drop ticket r) = passed-dropped s ticket r.partitions (memberless r.group s.groups)
passed-met s (event.Describe ticket id) = tt
passed-met s (event.List ticket) = tt
passed-met s (event.Gone session) = passed_all s.groups (gone_in s.last session) (makes-gone_in IsPlain (λ _ _. refl) (λ _ _. refl) s.last session) s.groups
passed-met s event.Tick = all_passed s.groups (tick s).effects.commands (each-tick IsPlain s (makes-ticked IsPlain (λ _ _. refl) (λ _ _. refl) s.last) (λ _. refl) (λ _ _. refl))

passed-step : (s : Machine) (e : Event) (m : ℕ) → ArePassed s.groups (step s e m).effects.commands
unfolding step
passed-step s e m = passed-met (record s { last = max s.last m }) e

pub assignments_are_earned : (events : List (Event × ℕ)) → AreRequests events → AssignmentsAreEarned events
assignments_are_earned events asked state now e m =
    let before : Machine = after_all events (revive state now) in
    let o : Outcome = step before e m in
    let past : List (Event × ℕ) = events ++ (e, m) ∷ [] in
    let kept : Kept = kept_in (after (state_after state now events) o.effects.commands) in
    record {
      replies = each-over (λ r. is_earned past o.after.groups kept r ≡ true) (λ r. (bytes : List ℕ) → r.1 ≡ reply.Synced bytes → IsEarnedAssignment past o.after.groups kept r.0 bytes)
          (λ r h bytes is. earned_is past o.after.groups kept r.0 bytes (subst (λ (x : Reply). is_earned past o.after.groups kept (r.0, x) ≡ true) is h)) o.effects.replies (replies_are_earned state now events e m asked);
      commands = each-over (λ c. is_passed_on before.groups c ≡ true) (λ c. (new : Replaced) → c ≡ command.Replaced new → IsPassedOn before.groups new)
          (λ c h new is. passed_is before.groups new (subst (λ (x : Command). is_passed_on before.groups x ≡ true) is h)) o.effects.commands (passed-step before e m);
    }
