-- A SYNC reply is earned: the member gave the generation, and the assignment is stored for it.
use Rattle.std.proofs.Common.{◌≡◌, ℕ, Bool, true, false, ◌&&◌, ◌||◌, List, [], ◌∷◌, ◌++◌, map, find, cond, is_some, refl, sym, ap, ◌∙◌, subst, max, Option, Some, None, Result, Ok, Err}
use Rattle.std.specs.Prelude.{if◌then◌else◌}
use Rattle.std.specs.List.{list_any, flat_map}
use Rattle.std.specs.Cmp.Lexicographic.{slice_cmp}
use Rattle.std.specs.Ordering.{match_ordering, nat_cmp}
use Rattle.std.specs.declared.cmp.Ordering.TheVariants.{Less, Equal, Greater}
use Rattle.std.proofs.lemmas.Bool.{and_from, false≢true, or_left, or_right}
use Rattle.cg_names.specs.declared.code.Code.{Code}
use Rattle.cg_group_state.specs.declared.calls.Calls.TheVariants.{Syncs}
use Rattle.cg_record.specs.declared.member_record.MemberRecord.{MemberRecord}
use Rattle.cg_record.specs.Rosters.{RosterParts}
use Rattle.cg_request.specs.declared.event.Event.{Event}
use Rattle.cg_request.specs.declared.event.Event.TheVariants as event
use Rattle.cg_fold.specs.declared.group_record.GroupRecord.{GroupRecord}
use Rattle.cg_fold.specs.declared.group_record.RecordedMembers.{RecordedMembers}
use Rattle.cg_fold.specs.declared.group_record.RecordedMembers.TheVariants as recorded
use Rattle.cg_fold.specs.Durable.{State, after}
use Rattle.cg_group_state.specs.declared.group.Group.{Group}
use Rattle.cg_group_state.specs.declared.group.Phase.{Phase}
use Rattle.cg_group_state.specs.declared.group.Phase.TheVariants.{Empty, Preparing, Completing, Stable}
use Rattle.cg_group_state.specs.declared.member.Member.{Member}
use Rattle.cg_group_state.specs.declared.member.Waits.{Waits}
use Rattle.cg_group_state.specs.declared.member.Waits.TheVariants.{Join, Sync, Nothing}
use Rattle.cg_group_state.specs.declared.reply.Reply.{Reply}
use Rattle.cg_group_state.specs.declared.reply.Reply.TheVariants as reply
use Rattle.cg_request.specs.declared.request_fields.JoinRequest.{JoinRequest}
use Rattle.cg_request.specs.declared.request_fields.SyncEntry.{SyncEntry}
use Rattle.cg_request.specs.declared.request_fields.SyncRequest.{SyncRequest}
use Rattle.cg_request.specs.declared.ticket.Ticket.{Ticket}
use Rattle.cg_group_state.specs.declared.turn.Turn.{Turn}
use Rattle.cg_group_rules.specs.Join.{admitted, is_current, update_member_and_rebalance, join_current, join_known, add_member_and_rebalance, new_group, new_member, rejoined, updating, waiting}
use Rattle.cg_group_state.specs.Waiting.{waits_with, after_answers, answers, called}
use Rattle.cg_group_table.specs.Kept.{Each, Kept, kept_in}
use Rattle.cg_group_table.proofs.Kept.{kept-after, kept_after}
use Rattle.cg_group.specs.Laws.{AreRequests, IsRecordedAs, TellsOf, after_all, state_after}
use Rattle.cg_group.proofs.Asked.{has_named, is_earned, is_earned_in, is_in_roster, is_kept_for}
use Rattle.cg_record.specs.declared.topic_partition.TopicPartition.{TopicPartition}
use Rattle.cg_group_rules.specs.OffsetFetch.{fetched}
use Rattle.cg_group_state.specs.Offsets.{OffsetMap}
use Rattle.cg_group_rules.specs.Leave.{after_removal, gone_in, leave_taken, left}
use Rattle.cg_request.specs.declared.commit_entry.CommitEntry.{CommitEntry}
use Rattle.cg_group_rules.specs.OffsetCommit.{committed, hearing_committer, keeping_entries}
use Rattle.cg_group_table.specs.Expiry.{tick}
use Rattle.cg_group.specs.Machine.{beat, commit, concluded, deleted, describe, dropped, join, leave, memberless, handled, step, sync}
use Rattle.cg_group_table.specs.GroupTable.{Machine, Outcome, everywhere, with_group}
use Rattle.cg_group_state.specs.Membership.{find_member, has_id, heard, hearing, is_preparing, is_same, keeping, leads, with_member}
use Rattle.cg_group_rules.specs.Rebalance.{complete_join, joined_reply, init_next_generation, try_complete_join, turn_of}
use Rattle.cg_group_rules.specs.StaticMember.{replace_static_member, keeps_generation, replaced, replaced_in_place, replaced_reply, successor}
use Rattle.cg_group_table.specs.Recovery.{revive}
use Rattle.cg_group_rules.specs.Sync.{assigned_command, assigning, propagate_assignment, kept_member, sync_current, sync_taken, sync_waits, synced_reply, reply_to_syncs}
use Rattle.cg_group_rules.specs.Tick.{at_deadline, can_complete, ended, expire_heartbeats, is_due, ticked}
use Rattle.cg_group_state.specs.Staying.{outstays}
use Rattle.cg_group.proofs.Agreeing.{Holds, IsCompleted, Whole, assigned_tells, empty_members}
use Rattle.cg_group.proofs.AgreeingMachine.{WholeMachine, machine_more, sync_named, was_met_last, whole-all}
use Rattle.cg_group.proofs.AgreeingTurns.{nothing_found, some_named}
use Rattle.cg_group.proofs.Calling.{AllWaits, is_named_wait, waits-assigned, waits-with_member}
use Rattle.cg_group_table.proofs.Framed.{each-append, framed-sync_taken}
use Rattle.cg_group_state.proofs.Keeping.{keep-after_answers, keep-hearing}
use Rattle.cg_group_table.proofs.KeptLists.{each-found, id-found, kept_after-append, same_names, same_self}
use Rattle.cg_group.proofs.KeptMachine.{each-over}
use Rattle.cg_group.proofs.Requests.{Fine, fine-beat, fine-commit, fine-join, fine-leave, fine-sync}
use Rattle.cg_group.proofs.Telling.{Told, each-answers, expired_tried, told-beat_taken, told-completed, told-gone_in, told-in_join_phase, told-left, told-rejoined, told-removal, told-replaced, told-tried, told-waiting}

-- each image of an element is found in the list of images
each-in : {A B : Type 0} (f : A → B) (q : B → A → Bool) → ((x : A) → q (f x) x ≡ true) → (xs : List A) → Each (λ x. list_any (λ y. q y x) (map f xs) ≡ true) xs
each-in f q k [] = tt
each-in f q k (x ∷ xs) = (
  or_left (q (f x) x) (list_any (λ y. q y x) (map f xs)) (k x),
  each-over (λ z. list_any (λ y. q y z) (map f xs) ≡ true) (λ z. (q (f x) z || list_any (λ y. q y z) (map f xs)) ≡ true) (λ z h. or_right (q (f x) z) (list_any (λ y. q y z) (map f xs)) h) xs (each-in f q k xs),
)

any-map : {A : Type 0} (p : List ℕ → Bool) (f : A → List ℕ) (xs : List A) → list_any p (map f xs) ≡ list_any (λ x. p (f x)) xs
any-map p f [] = refl
any-map p f (x ∷ xs) = ap (λ b. p (f x) || b) (any-map p f xs)

any-same : (p : List ℕ → Bool) (x : List ℕ) (xs : List (List ℕ)) → p x ≡ true → list_any (λ y. is_same y x) xs ≡ true → list_any p xs ≡ true
any-same p x [] e h = h
any-same p x (y ∷ ys) e h =
    (elim (is_same y x) as (λ b. is_same y x ≡ b → (b || list_any (λ y. is_same y x) ys) ≡ true → (p y || list_any p ys) ≡ true) [
      | true ↦ λ s _. or_left (p y) (list_any p ys) (ap p (same_names y x s) ∙ e)
      | false ↦ λ _ k. or_right (p y) (list_any p ys) (any-same p x ys e k)
    ]) refl h

found-member : (P : Member → Type 0) (own : List ℕ) (ms : List Member) (m : Member) → find_member own ms ≡ Some m → Each P ms → P m
unfolding find_member
found-member P own [] m e h = cc
found-member P own (x ∷ xs) m e h =
    (elim (has_id own x) as (λ b. cond b (Some x) (find (has_id own) xs) ≡ Some m → P m) [
      | true ↦ λ e. let same : x ≡ m = cc in subst P same h.0
      | false ↦ λ e. found-member P own xs m e h.1
    ]) e

id-member : (own : List ℕ) (ms : List Member) (m : Member) → find_member own ms ≡ Some m → m.id ≡ own
unfolding find_member
id-member own [] m e = cc
id-member own (x ∷ xs) m e =
    (elim (has_id own x) as (λ b. has_id own x ≡ b → cond b (Some x) (find (has_id own) xs) ≡ Some m → m.id ≡ own) [
      | true ↦ λ t e. let same : x ≡ m = cc in let P : Member → Type 0 = λ y. y.id ≡ own in subst P same (same_names x.id own t)
      | false ↦ λ t e. id-member own xs m e
    ]) refl e

-- the record of a stable group has the assignment of each member
kept_recorded : (g : Group) (r : GroupRecord) (roster : RecordedMembers) → g.phase ≡ Stable → IsRecordedAs r roster g → Each (λ m. is_in_roster roster m.id m.assignment ≡ true) g.members
kept_recorded g r (recorded.Empty moment) p h = let bad : Empty ≡ Stable = sym h.phase ∙ p in cc
kept_recorded g r (recorded.Roster roster) p h =
    let P : List MemberRecord → Type 0 = λ ks. Each (λ m. list_any (λ k. is_same k.id m.id && is_same k.assignment m.assignment) ks ≡ true) g.members in
    subst P (sym h.members) (each-in (kept_member g.protocol) (λ k m. is_same k.id m.id && is_same k.assignment m.assignment) (λ m. and_from (is_same m.id m.id) (is_same m.assignment m.assignment) (same_self m.id) (same_self m.assignment)) g.members)

kept_told : (g : Group) (o : Option GroupRecord) → g.phase ≡ Stable → TellsOf g o → Each (λ m. is_kept_for o m.id m.assignment ≡ true) g.members
kept_told g None p h = let bad : Empty ≡ Stable = sym h.phase ∙ p in cc
kept_told g (Some r) p h = kept_recorded g r r.members p h

-- a reply to a member of the group, also if other calls got replies in between
earned_among : (events : List (Event × ℕ)) (group : List ℕ) (generation : ℕ) (o : Option GroupRecord) (ms ns : List Member) (own : List ℕ) (t : Ticket) (bytes : List ℕ)
    → map (λ m. m.id) ns ≡ map (λ m. m.id) ms → list_any (λ i. is_same i own) (map (λ m. m.id) ms) ≡ true → has_named events group generation own t ≡ true → is_kept_for o own bytes ≡ true
    → list_any (λ m. has_named events group generation m.id t && is_kept_for o m.id bytes) ns ≡ true
earned_among events group generation o ms ns own t bytes same in_it named kept =
    let good : List ℕ → Bool = λ i. has_named events group generation i t && is_kept_for o i bytes in
    sym (any-map good (λ (m : Member). m.id) ns) ∙ ap (list_any good) same ∙ any-same good own (map (λ m. m.id) ms) (and_from (has_named events group generation own t) (is_kept_for o own bytes) named kept) in_it

-- every parked SYNC of these members gets its reply
record Waiting (events : List (Event × ℕ)) (group : List ℕ) (generation : ℕ) (o : Option GroupRecord) (all : List Member) (m : Member) : Type 0 where
  named : is_named_wait events group generation m.id m.waits ≡ true
  kept : is_kept_for o m.id m.assignment ≡ true
  here : list_any (λ i. is_same i m.id) (map (λ x. x.id) all) ≡ true

each-waiting : (events : List (Event × ℕ)) (group : List ℕ) (generation : ℕ) (o : Option GroupRecord) (all ms : List Member) → AllWaits (is_named_wait events group generation) ms → Each (λ m. is_kept_for o m.id m.assignment ≡ true) ms → Each (λ m. list_any (λ i. is_same i m.id) (map (λ x. x.id) all) ≡ true) ms → Each (Waiting events group generation o all) ms
each-waiting events group generation o all [] a b c = tt
each-waiting events group generation o all (m ∷ ms) a b c = (record { named = a.0; kept = b.0; here = c.0 }, each-waiting events group generation o all ms a.1 b.1 c.1)

sync_called : (events : List (Event × ℕ)) (group : List ℕ) (generation : ℕ) (id : List ℕ) (w : Waits) (t : Ticket) → called Syncs w ≡ Some t → is_named_wait events group generation id w ≡ true → has_named events group generation id t ≡ true
sync_called events group generation id Nothing t e h = cc
sync_called events group generation id (Join u) t e h = cc
sync_called events group generation id (Sync u) t e h = let same : u ≡ t = cc in let P : Ticket → Type 0 = λ x. has_named events group generation id x ≡ true in subst P same h

earned-answers : (events : List (Event × ℕ)) (g : Group) (o : Option GroupRecord) (now : ℕ) → AllWaits (is_named_wait events g.id g.generation) g.members → Each (λ m. is_kept_for o m.id m.assignment ≡ true) g.members
    → Each (λ r. is_earned_in events (record g { members = after_answers Syncs now g.members }) o r ≡ true) (answers Syncs synced_reply g.members)
earned-answers events g o now named kept =
    let after : Group = record g { members = after_answers Syncs now g.members } in
    let here : Each (λ m. list_any (λ i. is_same i m.id) (map (λ x. x.id) g.members) ≡ true) g.members = each-in (λ (x : Member). x.id) (λ i m. is_same i m.id) (λ m. same_self m.id) g.members in
    each-answers (λ r. is_earned_in events after o r ≡ true) Syncs synced_reply g.members
    (each-over (Waiting events g.id g.generation o g.members) (λ m. (t : Ticket) → called Syncs m.waits ≡ Some t → is_earned_in events after o (t, synced_reply m) ≡ true)
    (λ m w t e. earned_among events g.id g.generation o g.members (after_answers Syncs now g.members) m.id t m.assignment (keep-after_answers (λ x. x.id) (λ x h v. refl) Syncs now g.members) w.here (sync_called events g.id g.generation m.id m.waits t e w.named) w.kept)
    g.members (each-waiting events g.id g.generation o g.members g.members named kept here))

-- other replies
abbrev Silent : Reply → Type 0
Silent (reply.Synced bytes) = ⊥
Silent (reply.Joined j) = Unit {0}
Silent reply.Done = Unit {0}
Silent (reply.Fetched partitions) = Unit {0}
Silent (reply.Described d) = Unit {0}
Silent (reply.Groups groups) = Unit {0}
Silent (reply.Refused code) = Unit {0}

silent_in : (events : List (Event × ℕ)) (g : Group) (o : Option GroupRecord) (t : Ticket) (r : Reply) → Silent r → is_earned_in events g o (t, r) ≡ true
silent_in events g o t (reply.Synced bytes) h = absurd h
silent_in events g o t (reply.Joined j) h = refl
silent_in events g o t reply.Done h = refl
silent_in events g o t (reply.Fetched partitions) h = refl
silent_in events g o t (reply.Described d) h = refl
silent_in events g o t (reply.Groups groups) h = refl
silent_in events g o t (reply.Refused code) h = refl

silent_earned : (events : List (Event × ℕ)) (groups : List Group) (kept : Kept) (t : Ticket) (r : Reply) → Silent r → is_earned events groups kept (t, r) ≡ true
silent_earned events groups kept t (reply.Synced bytes) h = absurd h
silent_earned events groups kept t (reply.Joined j) h = refl
silent_earned events groups kept t reply.Done h = refl
silent_earned events groups kept t (reply.Fetched partitions) h = refl
silent_earned events groups kept t (reply.Described d) h = refl
silent_earned events groups kept t (reply.Groups listings) h = refl
silent_earned events groups kept t (reply.Refused code) h = refl

-- SYNC

module _ (events : List (Event × ℕ)) (kept : Kept) where
  abbrev EarnedBy : List ℕ → Turn → Type 0
  EarnedBy id t = Each (λ r. is_earned_in events t.group (kept_after kept t.commands id) r ≡ true) t.replies

  earned-reply_to_syncs : (now : ℕ) (id : List ℕ) (t : Turn) → Told Silent t → AllWaits (is_named_wait events t.group.id t.group.generation) t.group.members → Each (λ m. is_kept_for (kept_after kept t.commands id) m.id m.assignment ≡ true) t.group.members → EarnedBy id (reply_to_syncs now t)
  unfolding reply_to_syncs
  earned-reply_to_syncs now id t told named own =
      let after : Group = record t.group { members = after_answers Syncs now t.group.members } in
      let o : Option GroupRecord = kept_after kept t.commands id in
      each-append (λ r. is_earned_in events after o r ≡ true) t.replies (answers Syncs synced_reply t.group.members)
      (each-over (λ r. Silent r.1) (λ r. is_earned_in events after o r ≡ true) (λ r h. silent_in events after o r.0 r.1 h) t.replies told)
      (earned-answers events t.group o now named own)

  earned-distributed : (now : ℕ) (id : List ℕ) (entries : List SyncEntry) (t : Turn) → Told Silent t → t.group.id ≡ id → is_some t.group.kind ≡ true → is_some t.group.protocol ≡ true → is_some t.group.leader ≡ true → IsCompleted t.group → AllWaits (is_named_wait events t.group.id t.group.generation) t.group.members → EarnedBy id (propagate_assignment now entries t)
  unfolding propagate_assignment assigning
  earned-distributed now id entries t told named kind protocol leader complete_join waits =
      let g : Group = assigning entries t.group in
      let o : Option GroupRecord = kept_after kept (t.commands ++ assigned_command g) id in
      let tells : TellsOf g o = let P : Kept → Type 0 = λ k. TellsOf g (k id) in subst P (sym (kept_after-append kept t.commands (assigned_command g))) (assigned_tells g (kept_after kept t.commands) id named refl kind protocol leader complete_join) in
      earned-reply_to_syncs now id (record { group = g; replies = t.replies; commands = t.commands ++ assigned_command g }) told
      (waits-assigned (is_named_wait events t.group.id t.group.generation) entries t.group.members waits) (kept_told g o refl tells)

  silent-waiting : (now : ℕ) (own : List ℕ) (ticket : Ticket) (g : Group) → Told Silent (waiting now own (Sync ticket) (turn_of (hearing now own g)))
  silent-waiting now own ticket g = told-waiting Silent (λ _. tt) now own (Sync ticket) (turn_of (hearing now own g)) tt

  earned-sync_waits : (offsets : OffsetMap) (now : ℕ) (r : SyncRequest) (own : List ℕ) (ticket : Ticket) (m : Member) (g : Group) → g.phase ≡ Completing → has_named events g.id g.generation own ticket ≡ true → Whole events offsets g (kept g.id) → EarnedBy g.id (sync_waits now r own ticket m g)
  unfolding sync_waits waiting hearing
  earned-sync_waits offsets now r own ticket m g phase here h =
      let t : Turn = waiting now own (Sync ticket) (turn_of (hearing now own g)) in
      let told : Told Silent t = silent-waiting now own ticket g in
      let first : List Member = with_member own (heard now) g.members in
      let q : List ℕ → Waits → Bool = is_named_wait events g.id g.generation in
      let P : Phase → Type 0 = λ x. Holds x g (kept g.id) in
      let holds : Holds Completing g (kept g.id) = subst P phase h.holds in
      let at : (x : Member) → has_id own x ≡ true → q x.id (Sync ticket) ≡ true = λ x e. let Q : List ℕ → Type 0 = λ i. q i (Sync ticket) ≡ true in subst Q (sym (same_names x.id own e)) here in
      let named : AllWaits q t.group.members = waits-with_member q own (waits_with now (Sync ticket)) (λ x e _. at x e) first (waits-with_member q own (heard now) (λ x _ e. e) g.members h.named) in
      (elim (leads g m) as (λ b. leads g m ≡ b → EarnedBy g.id (if b then propagate_assignment now r.entries t else t)) [
        | true ↦ λ e. earned-distributed now g.id r.entries t told refl holds.0 holds.1 (some_named g.leader m.id e) holds.2 named
        | false ↦ λ e. each-over (λ x. Silent x.1) (λ x. is_earned_in events t.group (kept_after kept t.commands g.id) x ≡ true) (λ x s. silent_in events t.group (kept_after kept t.commands g.id) x.0 x.1 s) t.replies told
      ]) refl

  earned-sync_current : (offsets : OffsetMap) (now : ℕ) (own : List ℕ) (ticket : Ticket) (m : Member) (g : Group) → g.phase ≡ Stable → find_member own g.members ≡ Some m → has_named events g.id g.generation own ticket ≡ true → Whole events offsets g (kept g.id) → EarnedBy g.id (sync_current now own ticket m g)
  unfolding sync_current hearing kept_after
  earned-sync_current offsets now own ticket m g phase found here h =
      let P : Phase → Type 0 = λ x. Holds x g (kept g.id) in
      let Q : List ℕ → Type 0 = λ i. has_named events g.id g.generation i ticket ≡ true in
      let stored : is_kept_for (kept g.id) m.id m.assignment ≡ true = found-member (λ x. is_kept_for (kept g.id) x.id x.assignment ≡ true) own g.members m found (kept_told g (kept g.id) phase (subst P phase h.holds)) in
      let in_it : list_any (λ i. is_same i m.id) (map (λ x. x.id) g.members) ≡ true = found-member (λ x. list_any (λ i. is_same i x.id) (map (λ y. y.id) g.members) ≡ true) own g.members m found (each-in (λ (x : Member). x.id) (λ i x. is_same i x.id) (λ x. same_self x.id) g.members) in
      (earned_among events g.id g.generation (kept g.id) g.members (with_member own (heard now) g.members) m.id ticket m.assignment (keep-hearing (λ x. x.id) (λ x h v. refl) now own g) in_it (subst Q (sym (id-member own g.members m found)) here) stored, tt)

  earned-sync_taken : (offsets : OffsetMap) (now : ℕ) (r : SyncRequest) (own : List ℕ) (ticket : Ticket) (m : Member) (g : Group) (phase : Phase) → g.phase ≡ phase → is_preparing g.phase ≡ false → find_member own g.members ≡ Some m → has_named events g.id g.generation own ticket ≡ true → Whole events offsets g (kept g.id) → EarnedBy g.id (sync_taken now r own ticket m g phase)
  unfolding sync_taken
  earned-sync_taken offsets now r own ticket m g Completing e p found here h = earned-sync_waits offsets now r own ticket m g e here h
  earned-sync_taken offsets now r own ticket m g Stable e p found here h = earned-sync_current offsets now own ticket m g e found here h
  earned-sync_taken offsets now r own ticket m g Empty e p found here h = absurd (nothing_found own g.members m found (empty_members events offsets g (kept g.id) h e))
  earned-sync_taken offsets now r own ticket m g Preparing e p found here h = absurd (false≢true (sym p ∙ ap is_preparing e))

-- the other events

silent_joined : (g : Group) (m : Member) → Silent (joined_reply g m)
unfolding joined_reply
silent_joined g m = tt

silent-tried : (now : ℕ) (t : Turn) → Told Silent t → Told Silent (try_complete_join now t)
silent-tried now t h = told-tried Silent (λ _. tt) now t (silent_joined (init_next_generation t.group)) h

silent-add_member_and_rebalance : (now : ℕ) (r : JoinRequest) (new : List ℕ) (ticket : Ticket) (g : Group) → Told Silent (add_member_and_rebalance now r new ticket g)
unfolding add_member_and_rebalance
silent-add_member_and_rebalance now r new ticket g = silent-tried now _ (told-in_join_phase Silent (λ _. tt) now (turn_of (admitted (new_member now r new [] (Join ticket)) r.kind g)) tt)

silent-rejoined : (now : ℕ) (own : List ℕ) (ticket : Ticket) (t : Turn) → Told Silent t → Told Silent (rejoined now own ticket t)
unfolding rejoined
silent-rejoined now own ticket t h = silent-tried now _ (told-rejoined Silent (λ _. tt) now own ticket t h)

silent-update_member_and_rebalance : (now : ℕ) (r : JoinRequest) (own : List ℕ) (ticket : Ticket) (g : Group) → Told Silent (update_member_and_rebalance now r own ticket g)
unfolding update_member_and_rebalance
silent-update_member_and_rebalance now r own ticket g = silent-rejoined now own ticket (turn_of (updating r own g)) tt

silent-replace_static_member : (now : ℕ) (r : JoinRequest) (id : List ℕ) (ticket : Ticket) (old : Member) (g : Group) → Told Silent (replace_static_member now r id ticket old g)
unfolding replace_static_member replaced_in_place
silent-replace_static_member now r id ticket old g =
    let new : Member = successor now r id old in
    let t : Turn = replaced new old g in
    let h : Told Silent t = told-replaced Silent (λ _. tt) new old g in
    elim (keeps_generation t.group) as (λ b. Told Silent (if b then replaced_in_place ticket (kept_member g.protocol new) g t else rejoined now id ticket t)) [
      | true ↦ each-append (λ r. Silent r.1) t.replies ((ticket, replaced_reply new.id g) ∷ []) h (tt, tt)
      | false ↦ silent-rejoined now id ticket t h
    ]

silent-join_current : (now : ℕ) (own : List ℕ) (ticket : Ticket) (m : Member) (g : Group) → Told Silent (join_current now own ticket m g)
unfolding join_current
silent-join_current now own ticket m g = (silent_joined g m, tt)

silent-join_known : (now : ℕ) (r : JoinRequest) (own : List ℕ) (ticket : Ticket) (m : Member) (g : Group) → Told Silent (join_known now r own ticket m g)
unfolding join_known
silent-join_known now r own ticket m g =
    elim (is_current r m g g.phase) as (λ b. Told Silent (if b then join_current now own ticket m g else update_member_and_rebalance now r own ticket g)) [
      | true ↦ silent-join_current now own ticket m g
      | false ↦ silent-update_member_and_rebalance now r own ticket g
    ]

silent-leave_taken : (now : ℕ) (own : List ℕ) (ticket : Ticket) (m : Member) (g : Group) → Told Silent (leave_taken now own ticket m g)
unfolding leave_taken after_removal
silent-leave_taken now own ticket m g = silent-tried now _ (told-removal Silent (λ _. tt) now (left own ticket m g) (told-left Silent (λ _. tt) tt own ticket m g))

silent-ended : (now : ℕ) (t : Turn) → Told Silent t → Told Silent (ended now t)
unfolding ended
silent-ended now t h =
    elim (can_complete t.group.members) as (λ b. Told Silent (if b then complete_join now t else record t { group = record t.group { started = now } })) [ true ↦ told-completed Silent (λ _. tt) now t (silent_joined (init_next_generation t.group)) h | false ↦ h ]

silent-at_deadline : (now : ℕ) (t : Turn) → Told Silent t → Told Silent (at_deadline now t)
unfolding at_deadline
silent-at_deadline now t h =
    elim (is_due now t.group) as (λ b. Told Silent (if b then ended now (record t { group = keeping outstays t.group }) else t)) [ true ↦ silent-ended now (record t { group = keeping outstays t.group }) h | false ↦ h ]

silent-ticked : (now : ℕ) (g : Group) → Told Silent (ticked now g)
unfolding ticked
silent-ticked now g =
    let x = expired_tried Silent (λ _. tt) now g in
    let P : Turn → Type 0 = λ t. Told Silent t in
    silent-at_deadline now (expire_heartbeats now (turn_of g)) (subst P (sym x.is) (silent-tried now x.from x.told))

-- the machine

any-with_group : (p : Group → Bool) (g : Group) (gs : List Group) → p g ≡ true → list_any p (with_group g gs) ≡ true
unfolding with_group
any-with_group p g [] e = or_left (p g) false e
any-with_group p g (k ∷ ks) e =
    elim (slice_cmp nat_cmp g.id k.id) as (λ o. list_any p (match_ordering o (g ∷ k ∷ ks) (g ∷ ks) (k ∷ with_group g ks)) ≡ true) [
      | Less ↦ or_left (p g) (list_any p (k ∷ ks)) e
      | Equal ↦ or_left (p g) (list_any p ks) e
      | Greater ↦ or_right (p k) (list_any p (with_group g ks)) (any-with_group p g ks e)
    ]

earned_here : (events : List (Event × ℕ)) (g : Group) (groups : List Group) (kept : Kept) (t : Ticket) (r : Reply) → is_earned_in events g (kept g.id) (t, r) ≡ true → is_earned events (with_group g groups) kept (t, r) ≡ true
earned_here events g groups kept t (reply.Synced bytes) h = any-with_group (λ x. is_earned_in events x (kept x.id) (t, reply.Synced bytes)) g groups h
earned_here events g groups kept t (reply.Joined j) h = refl
earned_here events g groups kept t reply.Done h = refl
earned_here events g groups kept t (reply.Fetched partitions) h = refl
earned_here events g groups kept t (reply.Described d) h = refl
earned_here events g groups kept t (reply.Groups listings) h = refl
earned_here events g groups kept t (reply.Refused code) h = refl

abbrev Earned : List (Event × ℕ) → Kept → Outcome → Type 0
Earned events kept o = Each (λ r. is_earned events o.after.groups (kept_after kept o.effects.commands) r ≡ true) o.effects.replies

silent_all : (events : List (Event × ℕ)) (groups : List Group) (kept : Kept) (replies : List (Ticket × Reply)) → Each (λ r. Silent r.1) replies → Each (λ r. is_earned events groups kept r ≡ true) replies
silent_all events groups kept replies h = each-over (λ r. Silent r.1) (λ r. is_earned events groups kept r ≡ true) (λ r s. silent_earned events groups kept r.0 r.1 s) replies h

silent-concluded : (events : List (Event × ℕ)) (kept : Kept) (s : Machine) (ticket : Ticket) (o : Result Turn Code) → Fine (Told Silent) o → Earned events kept (concluded s ticket o)
unfolding concluded
silent-concluded events kept s ticket (Ok t) h = silent_all events (with_group t.group s.groups) (kept_after kept t.commands) t.replies h
silent-concluded events kept s ticket (Err code) h = (refl, tt)

abbrev EarnedTurn : List (Event × ℕ) → Kept → Turn → Type 0
EarnedTurn events kept t = Each (λ r. is_earned_in events t.group (kept_after kept t.commands t.group.id) r ≡ true) t.replies

earned-concluded : (events : List (Event × ℕ)) (kept : Kept) (s : Machine) (ticket : Ticket) (o : Result Turn Code) → Fine (EarnedTurn events kept) o → Earned events kept (concluded s ticket o)
unfolding concluded
earned-concluded events kept s ticket (Ok t) h =
    each-over (λ r. is_earned_in events t.group (kept_after kept t.commands t.group.id) r ≡ true) (λ r. is_earned events (with_group t.group s.groups) (kept_after kept t.commands) r ≡ true)
    (λ r k. earned_here events t.group s.groups (kept_after kept t.commands) r.0 r.1 k) t.replies h
earned-concluded events kept s ticket (Err code) h = (refl, tt)

silent-groups : (turn : Group → Turn) → ((g : Group) → Told Silent (turn g)) → (gs : List Group) → Each (λ r. Silent r.1) (flat_map (λ g. (turn g).replies) gs)
silent-groups turn k [] = tt
silent-groups turn k (g ∷ gs) = each-append (λ r. Silent r.1) (turn g).replies (flat_map (λ g. (turn g).replies) gs) (k g) (silent-groups turn k gs)

silent-fetched : (offsets : OffsetMap) (group : Option (List ℕ)) (partitions : List TopicPartition) → Silent (fetched offsets group partitions)
silent-fetched offsets None partitions = tt
silent-fetched offsets (Some group) partitions = tt

silent-describe : (id : Option (List ℕ)) (groups : List Group) → Silent (describe id groups)
unfolding describe
silent-describe None groups = tt
silent-describe (Some id) groups = tt

silent-committed : (now : ℕ) (entries : List CommitEntry) (ticket : Ticket) (who : Option (List ℕ)) (g : Group) → Told Silent (committed now entries ticket (hearing_committer now who g))
unfolding keeping_entries
silent-committed now entries ticket who g = (tt, tt)

earned-deleted : (events : List (Event × ℕ)) (kept : Kept) (s : Machine) (ticket : Ticket) (o : Result (List ℕ) Code) → Earned events kept (deleted s ticket o)
unfolding deleted
earned-deleted events kept s ticket (Ok id) = (refl, tt)
earned-deleted events kept s ticket (Err code) = (refl, tt)

earned-dropped : (events : List (Event × ℕ)) (kept : Kept) (s : Machine) (ticket : Ticket) (partitions : List TopicPartition) (o : Result (List ℕ) Code) → Earned events kept (dropped s ticket partitions o)
unfolding dropped
earned-dropped events kept s ticket partitions (Ok id) = (refl, tt)
earned-dropped events kept s ticket partitions (Err code) = (refl, tt)

earned-met : (before : List (Event × ℕ)) (moment : ℕ) (kept : Kept) (s : Machine) (e : Event) → WholeMachine (before ++ (e, moment) ∷ []) s kept → Earned (before ++ (e, moment) ∷ []) kept (handled s e)
unfolding handled everywhere tick
earned-met before moment kept s (event.Sync ticket r) v =
    let events : List (Event × ℕ) = before ++ (event.Sync ticket r, moment) ∷ [] in
    earned-concluded events kept s ticket (sync s.last r ticket s.groups)
    (fine-sync (EarnedTurn events kept) s.last r ticket s.groups
    (λ id own g m grouped e given found dated phase.
    let h : Whole events s.offsets g (kept g.id) = each-found (λ k. Whole events s.offsets k (kept k.id)) id s.groups g e v.each in
    let here : has_named events g.id g.generation own ticket ≡ true = was_met_last before (event.Sync ticket r) moment g.id g.generation own ticket (sync_named r ticket id own g grouped (id-found id s.groups g e) given dated) in
    let t : Turn = sync_taken s.last r own ticket m g g.phase in
    let P : List ℕ → Type 0 = λ i. Each (λ r. is_earned_in events t.group (kept_after kept t.commands i) r ≡ true) t.replies in
    subst P (sym (framed-sync_taken s.last r own ticket m g g.phase).0) (earned-sync_taken events kept s.offsets s.last r own ticket m g g.phase refl phase found here h)))
earned-met before moment kept s (event.Join ticket r fresh) v =
    silent-concluded (before ++ (event.Join ticket r fresh, moment) ∷ []) kept s ticket (join s.last r fresh ticket s.groups)
    (fine-join (Told Silent) s.last r fresh ticket s.groups
    (λ id new _ _. silent-add_member_and_rebalance s.last r new ticket (new_group id))
    (λ id new g _ _ _ _ _. silent-add_member_and_rebalance s.last r new ticket g)
    (λ id new g old _ _ _ _ _. silent-replace_static_member s.last r new ticket old g)
    (λ id own g m _ _ _ _. silent-join_known s.last r own ticket m g))
earned-met before moment kept s (event.Beat ticket r) v =
    silent-concluded (before ++ (event.Beat ticket r, moment) ∷ []) kept s ticket (beat s.last r ticket s.groups)
    (fine-beat (Told Silent) s.last r ticket s.groups (λ id own g _. told-beat_taken Silent (λ _. tt) tt s.last own ticket g))
earned-met before moment kept s (event.Leave ticket r) v =
    silent-concluded (before ++ (event.Leave ticket r, moment) ∷ []) kept s ticket (leave s.last r ticket s.groups)
    (fine-leave (Told Silent) s.last r ticket s.groups (λ id g m _ _. silent-leave_taken s.last m.id ticket m g))
earned-met before moment kept s (event.Commit ticket r) v =
    silent-concluded (before ++ (event.Commit ticket r, moment) ∷ []) kept s ticket (commit s.last r ticket s.groups)
    (fine-commit (Told Silent) s.last r ticket s.groups
    (λ id _. silent-committed s.last r.entries ticket None (new_group id))
    (λ id g who _ _. silent-committed s.last r.entries ticket who g))
earned-met before moment kept s (event.Fetch ticket r) v = (silent_earned (before ++ (event.Fetch ticket r, moment) ∷ []) s.groups (kept_after kept []) ticket (fetched s.offsets r.group r.partitions) (silent-fetched s.offsets r.group r.partitions), tt)
earned-met before moment kept s (event.Delete ticket id) v = earned-deleted (before ++ (event.Delete ticket id, moment) ∷ []) kept s ticket (memberless id s.groups)
earned-met before moment kept s (event.Drop ticket r) v = earned-dropped (before ++ (event.Drop ticket r, moment) ∷ []) kept s ticket r.partitions (memberless r.group s.groups)
earned-met before moment kept s (event.Describe ticket id) v = (silent_earned (before ++ (event.Describe ticket id, moment) ∷ []) s.groups (kept_after kept []) ticket (describe id s.groups) (silent-describe id s.groups), tt)
earned-met before moment kept s (event.List ticket) v = (refl, tt)
earned-met before moment kept s (event.Gone session) v =
    let o : Outcome = everywhere (gone_in s.last session) s in
    silent_all (before ++ (event.Gone session, moment) ∷ []) o.after.groups (kept_after kept o.effects.commands) o.effects.replies (silent-groups (gone_in s.last session) (λ g. told-gone_in Silent (λ _. tt) s.last session g) s.groups)
earned-met before moment kept s event.Tick v =
    let o : Outcome = tick s in
    silent_all (before ++ (event.Tick, moment) ∷ []) o.after.groups (kept_after kept o.effects.commands) o.effects.replies (silent-groups (ticked s.last) (λ g. silent-ticked s.last g) s.groups)

-- each reply of one more event is earned
pub replies_are_earned : (state : State) (now : ℕ) (events : List (Event × ℕ)) (e : Event) (m : ℕ) → AreRequests events
    → let o : Outcome = step (after_all events (revive state now)) e m in
    Each (λ r. is_earned (events ++ (e, m) ∷ []) o.after.groups (kept_in (after (state_after state now events) o.effects.commands)) r ≡ true) o.effects.replies
unfolding step
replies_are_earned state now events e m asked =
    let s : Machine = after_all events (revive state now) in
    let o : Outcome = step s e m in
    let kept : Kept = kept_in (state_after state now events) in
    let P : Kept → Type 0 = λ k. Each (λ r. is_earned (events ++ (e, m) ∷ []) o.after.groups k r ≡ true) o.effects.replies in
    subst P (sym (kept-after (state_after state now events) o.effects.commands))
    (earned-met events m kept (record s { last = max s.last m }) e (machine_more events (e, m) s kept (whole-all state now events asked)))
