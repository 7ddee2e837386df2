-- A group agrees with its record after each event that is not refused.
use Rattle.std.proofs.Common.{◌≡◌, ℕ, Bool, true, false, not, ◌&&◌, List, [], ◌∷◌, ◌++◌, map, is_some, refl, sym, ap, ◌∙◌, subst, Option, Some, None}
use Rattle.std.specs.Prelude.{if◌then◌else◌}
use Rattle.std.specs.List.{list_any, list_all}
use Rattle.std.specs.Option.{option_map}
use Rattle.std.proofs.lemmas.Bool.{and_parts, false≢true}
use Rattle.cg_group_state.specs.declared.calls.Calls.TheVariants.{Joins, OfSession}
use Rattle.cg_request.specs.declared.event.Event.{Event}
use Rattle.cg_group_state.specs.declared.group.Group.{Group}
use Rattle.cg_group_state.specs.declared.group.Phase.{Phase}
use Rattle.cg_group_state.specs.declared.group.Phase.TheVariants.{Empty, Preparing, Completing, Stable}
use Rattle.cg_group_state.specs.declared.member.Member.{Member}
use Rattle.cg_group_state.specs.declared.member.Waits.{Waits}
use Rattle.cg_group_state.specs.declared.member.Waits.TheVariants.{Join, Nothing, Sync}
use Rattle.cg_request.specs.declared.request_fields.JoinRequest.{JoinRequest}
use Rattle.cg_request.specs.declared.request_fields.SyncRequest.{SyncRequest}
use Rattle.cg_request.specs.declared.ticket.Ticket.{Ticket}
use Rattle.cg_group_state.specs.declared.turn.Turn.{Turn}
use Rattle.cg_record.specs.declared.command.Command.{Command}
use Rattle.cg_record.specs.declared.command.Command.TheVariants as command
use Rattle.cg_record.specs.Rosters.{may_replace}
use Rattle.cg_fold.specs.Record.{replaced_record}
use Rattle.cg_fold.specs.declared.group_record.GroupRecord.{GroupRecord}
use Rattle.cg_request.specs.declared.commit_entry.CommitEntry.{CommitEntry}
use Rattle.cg_group_rules.specs.Heartbeat.{beat_taken}
use Rattle.cg_request.specs.Commits.{kept_entry}
use Rattle.cg_group_rules.specs.OffsetCommit.{committed, hearing_committer, keeping_entries}
use Rattle.cg_group_rules.specs.Join.{admitted, in_join_phase, is_current, update_member_and_rebalance, join_current, join_known, add_member_and_rebalance, new_member, rejoined, updating, waiting}
use Rattle.cg_group_state.specs.JoinTerms.{updated}
use Rattle.cg_group_state.specs.Waiting.{waits_with, after_answers, is_waiting}
use Rattle.cg_group_table.specs.Kept.{Kept}
use Rattle.cg_group_table.proofs.Kept.{kept_after}
use Rattle.cg_group.proofs.Asked.{has_named}
use Rattle.cg_group_state.specs.Offsets.{OffsetMap}
use Rattle.cg_group_rules.specs.Leave.{after_removal, gone_in, leave_taken, left}
use Rattle.cg_group_state.specs.Membership.{find_instance, find_member, has_id, heard, hearing, is_empty, is_named, is_preparing, is_stable, keeping, leads, with_member, seating}
use Rattle.cg_group_rules.specs.Rebalance.{complete_join, is_ready, try_complete_join, turn_of}
use Rattle.cg_group_rules.specs.StaticMember.{replace_static_member, keeps_generation, replaced, replaced_command, replaced_in_place, replacing, successor}
use Rattle.cg_group_rules.specs.Sync.{propagate_assignment, kept_member, sync_current, sync_taken, sync_waits}
use Rattle.cg_group_rules.specs.Tick.{at_deadline, ended, expire_heartbeats, is_due, ticked}
use Rattle.cg_group_state.specs.Staying.{is_overdue, outstays}
use Rattle.cg_group.proofs.Elections.{HasCommon}
use Rattle.cg_group_table.proofs.Framed.{Framed, framed-in_join_phase, framed-waiting, framed-expired_of}
use Rattle.cg_group_state.proofs.Keeping.{map-with_member, keep-after_answers}
use Rattle.cg_group_table.proofs.KeptLists.{kept_after-one, same_names}
use Rattle.cg_group_table.proofs.Mapped.{id-hearing}
use Rattle.cg_group.proofs.Calling.{AllWaits, each-filter, is_named_wait, no_sync, waits-after_answers, waits-append, waits-seated, waits-with_member}
use Rattle.cg_group.proofs.Succeeding.{successor_may, told-replacing}
use Rattle.cg_group.proofs.Agreeing.{After, Holds, Joining, Suits, Whole, after-after_removal, after-completed, after-distributed, after-ended, after-hearing, after-tried, common-append, common-filter, common-map, common-seated, common-update, empty_members, joining-in_join_phase, joining-waiting, joining_from, kind_holds, lasting_kept, lasting_protocols, preparing_is, whole-members}

-- an event

pub some_named : (o : Option (List ℕ)) (x : List ℕ) → is_named o x ≡ true → is_some o ≡ true
some_named None x e = e
some_named (Some y) x e = refl

pub nothing_found : (own : List ℕ) (ms : List Member) (m : Member) → find_member own ms ≡ Some m → ms ≡ [] → ⊥
unfolding find_member
nothing_found own [] m e n = cc
nothing_found own (x ∷ xs) m e n = cc

filled_found : (own : List ℕ) (ms : List Member) (m : Member) → find_member own ms ≡ Some m → is_empty ms ≡ false
unfolding find_member
filled_found own [] m e = cc
filled_found own (x ∷ xs) m e = refl

filled_by : (instance : Option (List ℕ)) (ms : List Member) (m : Member) → find_instance instance ms ≡ Some m → is_empty ms ≡ false
unfolding find_instance
filled_by instance [] m e = cc
filled_by instance (x ∷ xs) m e = refl

filled_passes : (p : Member → Bool) (ms : List Member) → list_any p ms ≡ true → is_empty ms ≡ false
filled_passes p [] e = sym e
filled_passes p (x ∷ xs) e = refl

nothing_passes : (p : Member → Bool) (ms : List Member) → list_any p ms ≡ true → ms ≡ [] → ⊥
nothing_passes p [] e n = cc
nothing_passes p (x ∷ xs) e n = cc

joining-keeping : (stays : Member → Bool) (g : Group) → Joining g → Joining (keeping stays g)
unfolding keeping
joining-keeping stays g j = record { phase = j.phase; kind = j.kind; common = common-filter stays g.members j.common; quiet = each-filter (λ m. no_sync m.id m.waits ≡ true) stays g.members j.quiet }

id-keeping : (stays : Member → Bool) (g : Group) → (keeping stays g).id ≡ g.id
unfolding keeping
id-keeping stays g = refl

is_preparing_due : (now : ℕ) (g : Group) → is_due now g ≡ true → is_preparing g.phase ≡ true
is_preparing_due now g e = (and_parts (is_preparing g.phase) _ e).0

module _ (events : List (Event × ℕ)) (offsets : OffsetMap) (kept : Kept) where
  pub after-add_member_and_rebalance : (now : ℕ) (r : JoinRequest) (new : List ℕ) (ticket : Ticket) (g : Group) → Suits r g.members → (is_empty g.members ≡ false → is_some g.kind ≡ true) → (is_preparing g.phase ≡ true → AllWaits no_sync g.members) → After events offsets kept g.id (add_member_and_rebalance now r new ticket g)
  unfolding add_member_and_rebalance admitted new_member
  after-add_member_and_rebalance now r new ticket g suits kinds quiet =
      let m : Member = new_member now r new [] (Join ticket) in
      let t : Turn = turn_of (admitted m r.kind g) in
      let kind : is_some t.group.kind ≡ true = (elim (is_empty g.members) as (λ b. is_empty g.members ≡ b → is_some (if b then Some r.kind else g.kind) ≡ true) [ true ↦ λ _. refl | false ↦ kinds ]) refl in
      after-tried events offsets kept g.id now (in_join_phase now t) (framed-in_join_phase g.id now t (refl, tt)).0
      (joining-in_join_phase events offsets kept g.id now t kind (common-append suits.name g.members m suits.common suits.offers) (λ p. waits-append no_sync g.members m (quiet p) refl))

  after-rejoined : (id : List ℕ) (now : ℕ) (own : List ℕ) (ticket : Ticket) (t : Turn) → Framed id t → is_some t.group.kind ≡ true → HasCommon t.group.members → (is_preparing t.group.phase ≡ true → AllWaits no_sync t.group.members) → After events offsets kept id (rejoined now own ticket t)
  unfolding rejoined
  after-rejoined id now own ticket t framed kind common quiet =
      let u : Turn = in_join_phase now t in
      let j : Joining u.group = joining-in_join_phase events offsets kept id now t kind common quiet in
      after-tried events offsets kept id now (waiting now own (Join ticket) u) (framed-waiting id now own (Join ticket) u (framed-in_join_phase id now t framed)).0 (joining-waiting events offsets kept id now own ticket u j)

  after-update_member_and_rebalance : (now : ℕ) (r : JoinRequest) (own : List ℕ) (ticket : Ticket) (g : Group) → is_empty g.members ≡ false → Suits r g.members → Whole events offsets g (kept g.id) → After events offsets kept g.id (update_member_and_rebalance now r own ticket g)
  unfolding update_member_and_rebalance updating
  after-update_member_and_rebalance now r own ticket g filled suits h =
      after-rejoined g.id now own ticket (turn_of (updating r own g)) (refl, tt) (kind_holds g.phase g (kept g.id) filled h.holds) (suits.name, common-update suits.name own r g.members suits.common suits.offers) (λ p. waits-with_member no_sync own (updated r) (λ m _ e. e) g.members (h.quiet p))

  after-replaced_in_place : (ticket : Ticket) (new : Member) (g : Group) (t : Turn) → t.commands ≡ [] → t.group ≡ replacing new g → new.waits ≡ Nothing → g.phase ≡ Stable → HasCommon (seating new g.members) → may_replace (kept_member g.protocol new) (map (kept_member g.protocol) g.members) ≡ true → Whole events offsets g (kept g.id) → After events offsets kept g.id (replaced_in_place ticket (kept_member g.protocol new) g t)
  unfolding replaced_in_place replacing seating
  after-replaced_in_place ticket new g t bare group waits phase common may h =
      let c : Command = replaced_command (kept_member g.protocol new) g in
      let calm : is_named_wait events g.id g.generation new.id new.waits ≡ true = let Q : Waits → Type 0 = λ w. is_named_wait events g.id g.generation new.id w ≡ true in subst Q (sym waits) refl in
      let P : Phase → Type 0 = λ x. Holds x g (kept g.id) in
      let H : Phase → Type 0 = λ x. Holds x (replacing new g) (option_map (replaced_record (kept_member g.protocol new)) (kept g.id)) in
      let whole : Whole events offsets (replacing new g) (option_map (replaced_record (kept_member g.protocol new)) (kept g.id)) = record {
        common = common;
        holds = subst H (sym phase) (told-replacing new g (kept g.id) phase may (subst P phase h.holds));
        named = waits-seated (is_named_wait events g.id g.generation) new g.members calm h.named;
        quiet = λ p. absurd (false≢true (sym (ap is_preparing phase) ∙ p));
        typed = h.typed;
      } in
      let Q : Option GroupRecord → Type 0 = λ o. Whole events offsets (replacing new g) o in
      let R : Group → Type 0 = λ k. Whole events offsets k (kept_after kept (c ∷ []) g.id) in
      let S : List Command → Type 0 = λ cs. Whole events offsets t.group (kept_after kept (cs ++ c ∷ []) g.id) in
      subst S (sym bare) (subst R (sym group) (subst Q (sym (kept_after-one kept c g.id refl)) whole))

  stable_phase : (p : Phase) (b : Bool) → (is_stable p && b) ≡ true → p ≡ Stable
  stable_phase Stable b e = refl
  stable_phase Empty b e = cc
  stable_phase Preparing b e = cc
  stable_phase Completing b e = cc

  kept_phase : (g : Group) → keeps_generation g ≡ true → g.phase ≡ Stable
  unfolding keeps_generation
  kept_phase g e = stable_phase g.phase _ e

  pub after-replace_static_member : (now : ℕ) (r : JoinRequest) (id : List ℕ) (ticket : Ticket) (old : Member) (g : Group) → is_some (find_member id g.members) ≡ false → find_instance r.instance g.members ≡ Some old → Suits r g.members → Whole events offsets g (kept g.id) → After events offsets kept g.id (replace_static_member now r id ticket old g)
  unfolding replace_static_member replaced replacing seating new_member
  after-replace_static_member now r id ticket old g own found suits h =
      let new : Member = successor now r id old in
      let t : Turn = replaced new old g in
      let common : HasCommon (seating new g.members) = (suits.name, common-seated suits.name new g.members suits.common suits.offers) in
      (elim (keeps_generation t.group) as (λ b. keeps_generation t.group ≡ b → After events offsets kept g.id (if b then replaced_in_place ticket (kept_member g.protocol new) g t else rejoined now id ticket t)) [
        | true ↦ λ e. after-replaced_in_place ticket new g t refl refl refl (kept_phase t.group e) common (successor_may now r id old g own found) h
        | false ↦ λ e. after-rejoined g.id now id ticket t (refl, tt) (kind_holds g.phase g (kept g.id) (filled_by r.instance g.members old found) h.holds) common (λ p. waits-seated no_sync new g.members refl (h.quiet p))
      ]) refl

  after-join_current : (now : ℕ) (own : List ℕ) (ticket : Ticket) (m : Member) (g : Group) → Whole events offsets g (kept g.id) → After events offsets kept g.id (join_current now own ticket m g)
  unfolding join_current kept_after
  after-join_current now own ticket m g h = after-hearing events offsets kept g.id now own g h

  pub after-join_known : (now : ℕ) (r : JoinRequest) (own : List ℕ) (ticket : Ticket) (m : Member) (g : Group) → find_member own g.members ≡ Some m → Suits r g.members → Whole events offsets g (kept g.id) → After events offsets kept g.id (join_known now r own ticket m g)
  unfolding join_known
  after-join_known now r own ticket m g found suits h =
      elim (is_current r m g g.phase) as (λ b. After events offsets kept g.id (if b then join_current now own ticket m g else update_member_and_rebalance now r own ticket g)) [
        | true ↦ after-join_current now own ticket m g h
        | false ↦ after-update_member_and_rebalance now r own ticket g (filled_found own g.members m found) suits h
      ]

  after-sync_waits : (now : ℕ) (r : SyncRequest) (own : List ℕ) (ticket : Ticket) (m : Member) (g : Group) → g.phase ≡ Completing → has_named events g.id g.generation own ticket ≡ true → Whole events offsets g (kept g.id) → After events offsets kept g.id (sync_waits now r own ticket m g)
  unfolding sync_waits waiting hearing kept_after
  after-sync_waits now r own ticket m g phase here h =
      let t : Turn = waiting now own (Sync ticket) (turn_of (hearing now own g)) in
      let first : List Member = with_member own (heard now) g.members in
      let q : List ℕ → Waits → Bool = is_named_wait events g.id g.generation in
      let P : Phase → Type 0 = λ x. Holds x g (kept g.id) in
      let holds : Holds Completing g (kept g.id) = subst P phase h.holds in
      let at : (x : Member) → has_id own x ≡ true → q x.id (Sync ticket) ≡ true = λ x e. let Q : List ℕ → Type 0 = λ i. q i (Sync ticket) ≡ true in subst Q (sym (same_names x.id own e)) here in
      let named : AllWaits q t.group.members = waits-with_member q own (waits_with now (Sync ticket)) (λ x e _. at x e) first (waits-with_member q own (heard now) (λ x _ e. e) g.members h.named) in
      let protocols : map (λ x. x.protocols) t.group.members ≡ map (λ x. x.protocols) g.members = map-with_member (λ x. x.protocols) own (waits_with now (Sync ticket)) (λ x. refl) first ∙ map-with_member (λ x. x.protocols) own (heard now) (λ x. refl) g.members in
      let stored : map (kept_member g.protocol) t.group.members ≡ map (kept_member g.protocol) g.members = map-with_member (kept_member g.protocol) own (waits_with now (Sync ticket)) (λ x. refl) first ∙ map-with_member (kept_member g.protocol) own (heard now) (λ x. refl) g.members in
      (elim (leads g m) as (λ b. leads g m ≡ b → After events offsets kept g.id (if b then propagate_assignment now r.entries t else t)) [
        | true ↦ λ e. after-distributed events offsets kept g.id now r.entries t refl holds.0 holds.1 (some_named g.leader m.id e) holds.2 (common-map t.group.members g.members protocols h.common) named
        | false ↦ λ e. whole-members events offsets g t.group.members (kept g.id) protocols stored named (λ p. absurd (false≢true (sym (ap is_preparing phase) ∙ p))) h
      ]) refl

  after-sync_current : (now : ℕ) (own : List ℕ) (ticket : Ticket) (m : Member) (g : Group) → Whole events offsets g (kept g.id) → After events offsets kept g.id (sync_current now own ticket m g)
  unfolding sync_current kept_after
  after-sync_current now own ticket m g h = after-hearing events offsets kept g.id now own g h

  pub after-sync_taken : (now : ℕ) (r : SyncRequest) (own : List ℕ) (ticket : Ticket) (m : Member) (g : Group) (phase : Phase) → g.phase ≡ phase → has_named events g.id g.generation own ticket ≡ true → Whole events offsets g (kept g.id) → After events offsets kept g.id (sync_taken now r own ticket m g phase)
  unfolding sync_taken
  after-sync_taken now r own ticket m g Completing e here h = after-sync_waits now r own ticket m g e here h
  after-sync_taken now r own ticket m g Stable e here h = after-sync_current now own ticket m g h
  after-sync_taken now r own ticket m g Empty e here h = after-sync_current now own ticket m g h
  after-sync_taken now r own ticket m g Preparing e here h = after-sync_current now own ticket m g h

  pub after-beat_taken : (now : ℕ) (own : List ℕ) (ticket : Ticket) (g : Group) → Whole events offsets g (kept g.id) → After events offsets kept g.id (beat_taken now own ticket g)
  unfolding beat_taken kept_after
  after-beat_taken now own ticket g h = after-hearing events offsets kept g.id now own g h

  pub after-committed : (now : ℕ) (entries : List CommitEntry) (ticket : Ticket) (who : Option (List ℕ)) (g : Group) → Whole events offsets g (kept g.id) → After events offsets kept g.id (committed now entries ticket (hearing_committer now who g))
  unfolding keeping_entries
  after-committed now entries ticket None g h =
      let P : Option GroupRecord → Type 0 = λ o. Whole events offsets g o in
      subst P (sym (kept_after-one kept (command.Committed (record { group = g.id; moment = Some now; entries = map kept_entry entries })) g.id refl)) h
  after-committed now entries ticket (Some own) g h =
      let P : Option GroupRecord → Type 0 = λ o. Whole events offsets (hearing now own g) o in
      subst P (sym (kept_after-one kept (command.Committed (record { group = (hearing now own g).id; moment = Some now; entries = map kept_entry entries })) g.id (id-hearing now own g))) (after-hearing events offsets kept g.id now own g h)

  pub after-leave_taken : (now : ℕ) (own : List ℕ) (ticket : Ticket) (m : Member) (g : Group) → is_empty g.members ≡ false → Whole events offsets g (kept g.id) → After events offsets kept g.id (leave_taken now own ticket m g)
  unfolding leave_taken left keeping
  after-leave_taken now own ticket m g filled h =
      after-after_removal events offsets kept g.id now (left own ticket m g) refl (kind_holds g.phase g (kept g.id) filled h.holds) (common-filter (λ x. not (has_id own x)) g.members h.common)
      (λ p. each-filter (λ x. no_sync x.id x.waits ≡ true) (λ x. not (has_id own x)) g.members (h.quiet p))
      (λ p. false≢true (sym filled ∙ ap is_empty (empty_members events offsets g (kept g.id) h p)))

  pub after-gone_in : (now session : ℕ) (g : Group) → Whole events offsets g (kept g.id) → After events offsets kept g.id (gone_in now session g)
  unfolding gone_in kept_after
  after-gone_in now session g h =
      whole-members events offsets g (after_answers (OfSession session) now g.members) (kept g.id)
      (keep-after_answers (λ m. m.protocols) lasting_protocols (OfSession session) now g.members)
      (keep-after_answers (kept_member g.protocol) (lasting_kept g.protocol) (OfSession session) now g.members)
      (waits-after_answers (is_named_wait events g.id g.generation) (λ _. refl) (OfSession session) now g.members h.named)
      (λ p. waits-after_answers no_sync (λ _. refl) (OfSession session) now g.members (h.quiet p)) h

  after-tried_any : (now : ℕ) (g : Group) → Whole events offsets g (kept g.id) → After events offsets kept g.id (try_complete_join now (turn_of g))
  unfolding try_complete_join is_ready kept_after
  after-tried_any now g h =
      (elim (is_ready g) as (λ b. is_ready g ≡ b → After events offsets kept g.id (if b then complete_join now (turn_of g) else turn_of g)) [
        | true ↦ λ e. after-completed events offsets kept g.id now (turn_of g) refl (joining_from events offsets g (kept g.id) h (preparing_is g.phase (and_parts (is_preparing g.phase) (list_all (is_waiting Joins) g.members) e).0))
        | false ↦ λ e. h
      ]) refl

  after-expired : (now : ℕ) (g : Group) → Whole events offsets g (kept g.id) → After events offsets kept g.id (expire_heartbeats now (turn_of g))
  unfolding expire_heartbeats keeping
  after-expired now g h =
      let stays : Member → Bool = λ m. not (is_overdue now m) in
      (elim (list_any (is_overdue now) g.members) as (λ b. list_any (is_overdue now) g.members ≡ b → After events offsets kept g.id (if b then after_removal now (record (turn_of g) { group = keeping stays g }) else try_complete_join now (turn_of g))) [
        | true ↦ λ e. after-after_removal events offsets kept g.id now (record (turn_of g) { group = keeping stays g }) refl (kind_holds g.phase g (kept g.id) (filled_passes (is_overdue now) g.members e) h.holds) (common-filter stays g.members h.common)
            (λ p. each-filter (λ x. no_sync x.id x.waits ≡ true) stays g.members (h.quiet p))
            (λ p. nothing_passes (is_overdue now) g.members e (empty_members events offsets g (kept g.id) h p))
        | false ↦ λ e. after-tried_any now g h
      ]) refl

  after-at_deadline : (now : ℕ) (id : List ℕ) (t : Turn) → Framed id t → After events offsets kept id t → After events offsets kept id (at_deadline now t)
  unfolding at_deadline
  after-at_deadline now id t f h =
      (elim (is_due now t.group) as (λ b. is_due now t.group ≡ b → After events offsets kept id (if b then ended now (record t { group = keeping outstays t.group }) else t)) [
        | true ↦ λ e. after-ended events offsets kept id now (record t { group = keeping outstays t.group }) (id-keeping outstays t.group ∙ f.0)
            (joining-keeping outstays t.group (joining_from events offsets t.group (kept_after kept t.commands id) h (preparing_is t.group.phase (is_preparing_due now t.group e))))
        | false ↦ λ e. h
      ]) refl

  pub after-ticked : (now : ℕ) (g : Group) → Whole events offsets g (kept g.id) → After events offsets kept g.id (ticked now g)
  unfolding ticked
  after-ticked now g h = after-at_deadline now g.id (expire_heartbeats now (turn_of g)) (framed-expired_of now g) (after-expired now g h)
