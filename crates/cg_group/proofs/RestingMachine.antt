-- Which events leave nothing to expire before a given moment.
use Rattle.std.proofs.Common.{◌≡◌, ◌⊎◌, inl, inr, ◌≤◌, ◌<◌, ◌+◌, ℕ, Bool, true, false, cond, List, [], ◌∷◌, is_some, Option, Some, None, Result, Ok, Err, refl, sym, ap, ◌∙◌, subst, unwrap_or, arith}
use Rattle.std.specs.FinMap as finmap
use Rattle.std.specs.FinMap.{get-insert}
use Rattle.std.specs.List.{fold, list_all, list_any}
use Rattle.std.specs.Ordering.{eq_by_cmp}
use Rattle.std.proofs.lemmas.Bool.{and_parts, false≢true, leb-true, or_from}
use Rattle.cg_names.specs.declared.code.Code.{Code}
use Rattle.cg_record.specs.declared.command.Command.{Command}
use Rattle.cg_record.specs.declared.entry.Entry.{Entry}
use Rattle.cg_record.specs.declared.topic_partition.TopicPartition.{TopicPartition}
use Rattle.cg_fold.specs.declared.stored_offset.StoredOffset.{StoredOffset}
use Rattle.cg_fold.specs.Durable.{effect, with_entry}
use Rattle.cg_fold.specs.Key.{KeptRow, OffsetKey, key_cmp, key_of, kept_of}
use Rattle.cg_fold.specs.Snapshot.{offsets_in}
use Rattle.cg_fold.proofs.KeyOrder.{key_total}
use Rattle.cg_request.specs.declared.event.Event.{Event}
use Rattle.cg_request.specs.declared.event.Event.TheVariants as event
use Rattle.cg_request.specs.declared.ticket.Ticket.{Ticket}
use Rattle.cg_group_state.specs.declared.group.Group.{Group}
use Rattle.cg_group_state.specs.declared.turn.Turn.{Turn}
use Rattle.cg_group_rules.specs.Join.{new_group}
use Rattle.cg_group_rules.specs.Leave.{gone_in}
use Rattle.cg_group_state.specs.declared.effects.Effects.{Effects}
use Rattle.cg_group_state.specs.Membership.{is_empty, is_same}
use Rattle.cg_group_state.specs.Offsets.{OffsetMap, offsets_after}
use Rattle.cg_group_rules.specs.Rebalance.{turn_of}
use Rattle.cg_group_rules.specs.Tick.{ticked}
use Rattle.cg_group_rules.specs.OffsetCommit.{keeping_entries}
use Rattle.cg_group_table.specs.declared.expiry.TheConstants.{RETENTION_MS}
use Rattle.cg_group_table.specs.Expiry.{expires, is_idle, is_stale, is_stale_row, is_vacant, lasting, tick, tick_effects}
use Rattle.cg_group_table.specs.GroupTable.{Machine, Outcome, everywhere, find_group, groups_after, outcome, standing, with_group}
use Rattle.cg_group_table.specs.Kept.{Each}
use Rattle.cg_group_table.proofs.Framed.{framed-beat_taken, framed-committed, framed-gone_in, framed-join_known, framed-add_member_and_rebalance, framed-replace_static_member, framed-leave_taken, framed-sync_taken, framed-ticked}
use Rattle.cg_group_table.proofs.KeptLists.{each-found, each-put, same_names, same_self}
use Rattle.cg_group_table.proofs.Removing.{each-without}
use Rattle.cg_group_table.proofs.Stale.{expires_not, expires_recorded, expires_rows}
use Rattle.cg_group.specs.Machine.{beat, commit, concluded, deleted, drop_command, dropped, join, leave, memberless, handled, sync, with_offset}
use Rattle.cg_group_table.specs.Resting.{AreFresh, AreResting, Covered, IsFresh, Rests}
use Rattle.cg_group.proofs.LawfulExpiry.{found-offsets_in}
use Rattle.cg_group.proofs.Lasting.{takes-drop, takes-tick}
use Rattle.cg_group.proofs.OffsetsKept.{quiet-offsets}
use Rattle.cg_group.proofs.Quiet.{Quiet, quiet-all, quiet-beat, quiet-gone_in, quiet-join, quiet-leave, quiet-sync}
use Rattle.cg_group.proofs.Requests.{Fine, fine-beat, fine-commit, fine-join, fine-leave, fine-sync}
use Rattle.cg_group.proofs.Resting.{Still, still-beat_taken, still-committed, still-gone_in, still-join_known, still-add_member_and_rebalance, still-replace_static_member, still-leave_taken, still-sync_taken, still-ticked}
use Rattle.cg_group.proofs.Sparing.{IsTaking, get-taken, spares}
use Rattle.cg_group.proofs.Sweeping.{each-founded, each-lasting}

no_type : (b : Bool) → (b ≡ true → ⊥) → b ≡ false
no_type true h = absurd (h refl)
no_type false h = refl

module _ (until loaded now : ℕ) (early : until ≤ now + RETENTION_MS) where
  -- each offset is one from before, or was committed now
  abbrev AreFromNow : OffsetMap → OffsetMap → Type 0
  AreFromNow offsets later = (key : OffsetKey) (stored : StoredOffset) → finmap.get later key ≡ Some stored → (finmap.get offsets key ≡ Some stored) ⊎ (stored.moment ≡ Some now)

  -- the group of the step rests, and its offsets from before are fresh
  record KeepsRest (offsets : OffsetMap) (t : Turn) : Type 0 where
    pub rest : Rests until loaded t.group
    pub fresh : AreFresh until loaded offsets t.group

  from_quiet : (offsets : OffsetMap) (t : Turn) → Quiet t → AreFromNow offsets (offsets_after offsets t.commands)
  from_quiet offsets t q key stored there = inl (ap (λ o. finmap.get o key) (sym (quiet-offsets offsets t.commands q)) ∙ there)

  from_entries : (group : List ℕ) (entries : List Entry) (offsets : OffsetMap) → AreFromNow offsets (fold (with_entry group (Some now)) offsets entries)
  from_entries group [] offsets key stored there = inl there
  from_entries group (x ∷ xs) offsets key stored there =
      let new = kept_of group (Some now) x in
      let more = with_entry group (Some now) offsets x in
      let got = get-insert key_total offsets new.0 new.1 key in
      elim (from_entries group xs more key stored there) [
        | inl before ↦ one offsets new.1 key stored (eq_by_cmp key_cmp key new.0) (finmap.get more key) got before refl
        | inr moment ↦ inr moment
      ]
    where
      one : (offsets : OffsetMap) (new : StoredOffset) (key : OffsetKey) (stored : StoredOffset) (b : Bool) (o : Option StoredOffset) → o ≡ cond b (Some new) (finmap.get offsets key) → o ≡ Some stored → new.moment ≡ Some now → (finmap.get offsets key ≡ Some stored) ⊎ (stored.moment ≡ Some now)
      one offsets new key stored true o is there from = inr (let both : Some new ≡ Some stored = sym is ∙ there in let same : new ≡ stored = cc in ap (λ (x : StoredOffset). x.moment) (sym same) ∙ from)
      one offsets new key stored false o is there from = inl (sym is ∙ there)

  from_commit : (offsets : OffsetMap) (entries : List Entry) (ticket : Ticket) (g : Group) → AreFromNow offsets (offsets_after offsets (keeping_entries now entries ticket g).commands)
  unfolding keeping_entries effect
  from_commit offsets entries ticket g = from_entries g.id entries offsets

  fresh-over : (offsets later : OffsetMap) (g : Group) → AreFromNow offsets later → AreFresh until loaded offsets g → AreFresh until loaded later g
  fresh-over offsets later g from fresh untyped key stored own there =
      elim (from key stored there) [
        | inl before ↦ fresh untyped key stored own before
        | inr moment ↦ subst (IsFresh until loaded) (sym moment) early
      ]

  pub resting-over : (offsets later : OffsetMap) (groups : List Group) → AreFromNow offsets later → AreResting until loaded offsets groups → AreResting until loaded later groups
  resting-over offsets later [] from h = tt
  resting-over offsets later (g ∷ gs) from h = ((h.0.0, fresh-over offsets later g from h.0.1), resting-over offsets later gs from h.1)

  -- ---- one group changes

  resting-taken : (offsets : OffsetMap) (groups : List Group) (t : Turn) → KeepsRest offsets t → AreFromNow offsets (offsets_after offsets t.commands) → AreResting until loaded offsets groups → AreResting until loaded (offsets_after offsets t.commands) (with_group t.group groups)
  resting-taken offsets groups t h from r =
      let later : OffsetMap = offsets_after offsets t.commands in
      each-put (λ g. Rests until loaded g × AreFresh until loaded later g) t.group groups (h.rest, fresh-over offsets later t.group from h.fresh) (resting-over offsets later groups from r)

  fine-both : (P Q : Turn → Type 0) (o : Result Turn Code) → Fine P o → Fine Q o → Fine (λ t. P t × Q t) o
  fine-both P Q (Ok t) p q = (p, q)
  fine-both P Q (Err code) p q = tt

  fine-over : (P Q : Turn → Type 0) → ((t : Turn) → P t → Q t) → (o : Result Turn Code) → Fine P o → Fine Q o
  fine-over P Q over (Ok t) h = over t h
  fine-over P Q over (Err code) h = tt

  abbrev Calms : OffsetMap → Turn → Type 0
  Calms offsets t = KeepsRest offsets t × AreFromNow offsets (offsets_after offsets t.commands)

  resting-concluded : (s : Machine) (ticket : Ticket) (o : Result Turn Code) → Fine (Calms s.offsets) o → AreResting until loaded s.offsets s.groups → AreResting until loaded (offsets_after s.offsets (concluded s ticket o).effects.commands) (concluded s ticket o).after.groups
  unfolding concluded
  resting-concluded s ticket (Ok t) h r = resting-taken s.offsets s.groups t h.0 h.1 r
  resting-concluded s ticket (Err code) h r = r

  resting-quietly : (s : Machine) (ticket : Ticket) (o : Result Turn Code) → Fine (KeepsRest s.offsets) o → Fine Quiet o → AreResting until loaded s.offsets s.groups → AreResting until loaded (offsets_after s.offsets (concluded s ticket o).effects.commands) (concluded s ticket o).after.groups
  resting-quietly s ticket o h q r = resting-concluded s ticket o (fine-both (KeepsRest s.offsets) (λ t. AreFromNow s.offsets (offsets_after s.offsets t.commands)) o h (fine-over Quiet (λ t. AreFromNow s.offsets (offsets_after s.offsets t.commands)) (from_quiet s.offsets) o q)) r

  -- the group keeps its type
  fresh_still : (offsets : OffsetMap) (g h : Group) → h.id ≡ g.id → (is_some g.kind ≡ true → is_some h.kind ≡ true) → AreFresh until loaded offsets g → AreFresh until loaded offsets h
  fresh_still offsets g h own typed fresh untyped key stored same there =
      fresh (no_type (is_some g.kind) (λ was. false≢true (sym untyped ∙ typed was))) key stored (ap (λ i. is_same i key.group) (sym own) ∙ same) there

  -- a group that is loaded
  keeps : (offsets : OffsetMap) (groups : List Group) (id : List ℕ) (g : Group) (t : Turn) → AreResting until loaded offsets groups → find_group id groups ≡ Some g → t.group.id ≡ g.id → Still until loaded now early (is_some g.kind) t → KeepsRest offsets t
  keeps offsets groups id g t r found own h = record {
    rest = h.1;
    fresh = fresh_still offsets g t.group own h.0 (each-found (λ g. Rests until loaded g × AreFresh until loaded offsets g) id groups g found r).1;
  }

  rests_of : (offsets : OffsetMap) (groups : List Group) (id : List ℕ) (g : Group) → AreResting until loaded offsets groups → find_group id groups ≡ Some g → Still until loaded now early (is_some g.kind) (turn_of g)
  rests_of offsets groups id g r found = (λ typed. typed, (each-found (λ g. Rests until loaded g × AreFresh until loaded offsets g) id groups g found r).0)

  -- a new one, which has no offset
  starts : (offsets : OffsetMap) (groups : List Group) (id : List ℕ) (t : Turn) → Covered offsets groups → find_group id groups ≡ None → t.group.id ≡ id → Still until loaded now early false t → KeepsRest offsets t
  starts offsets groups id t covered none own h = record {
    rest = h.1;
    fresh =
        λ _ key stored same there.
        let here : key.group ≡ id = sym (same_names t.group.id key.group same) ∙ own in
        absurd (false≢true (sym (ap is_some (ap (λ i. find_group i groups) here ∙ none)) ∙ covered key (ap is_some there)));
  }

  new_id : (id : List ℕ) → (new_group id).id ≡ id
  unfolding new_group
  new_id id = refl

  new_rests : (id : List ℕ) → Still until loaded now early false (turn_of (new_group id))
  unfolding new_group
  new_rests id = (λ typed. absurd (false≢true typed), λ idle typed. absurd (false≢true typed))

  -- ---- all groups change

  resting-turns : (offsets : OffsetMap) (turn : Group → Turn) → ((g : Group) → (turn g).group.id ≡ g.id) → ((g : Group) → Still until loaded now early (is_some g.kind) (turn_of g) → Still until loaded now early (is_some g.kind) (turn g))
      → (groups : List Group) → AreResting until loaded offsets groups → AreResting until loaded offsets (groups_after turn groups)
  resting-turns offsets turn own still [] r = tt
  resting-turns offsets turn own still (g ∷ gs) r =
      let h = still g ((λ typed. typed), r.0.0) in
      ((h.1, fresh_still offsets g (turn g).group (own g) h.0 r.0.1), resting-turns offsets turn own still gs r.1)

-- ---- the events

module _ (until : ℕ) (s : Machine) (early : until ≤ s.last + RETENTION_MS) where
  -- nothing expires before then after these commands, in these groups
  abbrev After : List Command → List Group → Type 0
  After commands groups = AreResting until s.loaded (offsets_after s.offsets commands) groups

  -- an offset that is left after commands that set none was there before
  from_taking : (cs : List Command) → Each IsTaking cs → AreFromNow until s.loaded s.last early s.offsets (offsets_after s.offsets cs)
  from_taking cs takes key stored there = inl (go (list_all (spares key) cs) (finmap.get s.offsets key) (sym (get-taken s.offsets cs key takes) ∙ there))
    where
      go : (b : Bool) (o : Option StoredOffset) → cond b o None ≡ Some stored → o ≡ Some stored
      go true o e = e
      go false o e = cc

  resting-gone : (session : ℕ) → AreResting until s.loaded s.offsets s.groups → After (everywhere (gone_in s.last session) s).effects.commands (everywhere (gone_in s.last session) s).after.groups
  unfolding everywhere
  resting-gone session r =
      let turn : Group → Turn = gone_in s.last session in
      let same = quiet-offsets s.offsets (everywhere turn s).effects.commands (quiet-all turn (quiet-gone_in s.last session) s.groups) in
      subst (λ o. AreResting until s.loaded o (groups_after turn s.groups)) (sym same)
      (resting-turns until s.loaded s.last early s.offsets turn (λ g. (framed-gone_in s.last session g).0) (λ g h. still-gone_in until s.loaded s.last early (is_some g.kind) session g h) s.groups r)

  resting-deleted : (ticket : Ticket) (o : Result (List ℕ) Code) → AreResting until s.loaded s.offsets s.groups → After (deleted s ticket o).effects.commands (deleted s ticket o).after.groups
  unfolding deleted
  resting-deleted ticket (Err code) r = r
  resting-deleted ticket (Ok id) r =
      let cs : List Command = (deleted s ticket (Ok id)).effects.commands in
      let later : OffsetMap = offsets_after s.offsets cs in
      each-without (λ g. Rests until s.loaded g × AreFresh until s.loaded later g) id s.groups (resting-over until s.loaded s.last early s.offsets later s.groups (from_taking cs (refl, tt)) r)

  resting-dropped : (ticket : Ticket) (partitions : List TopicPartition) (o : Result (List ℕ) Code) → AreResting until s.loaded s.offsets s.groups → After (dropped s ticket partitions o).effects.commands (dropped s ticket partitions o).after.groups
  unfolding dropped
  resting-dropped ticket partitions (Err code) r = r
  resting-dropped ticket partitions (Ok id) r =
      let cs : List Command = drop_command id (with_offset s.offsets id partitions) in
      let later : OffsetMap = offsets_after s.offsets cs in
      each-founded (λ g. Rests until s.loaded g × AreFresh until s.loaded later g) s.offsets cs id s.groups (resting-over until s.loaded s.last early s.offsets later s.groups (from_taking cs (takes-drop id s.offsets partitions)) r)

  resting-tick : AreResting until s.loaded s.offsets s.groups → After (tick s).effects.commands (tick s).after.groups
  unfolding tick
  resting-tick r =
      let cs : List Command = (tick_effects s).commands in
      let later : OffsetMap = offsets_after s.offsets cs in
      let kept : List Group = lasting s.loaded s.last s.offsets later s.groups in
      resting-turns until s.loaded s.last early later (ticked s.last) (λ g. (framed-ticked s.last g).0) (λ g h. still-ticked until s.loaded s.last early (is_some g.kind) g h) kept
      (each-lasting (λ g. Rests until s.loaded g × AreFresh until s.loaded later g) s.loaded s.last s.offsets later s.groups (resting-over until s.loaded s.last early s.offsets later s.groups (from_taking cs (takes-tick s)) r))

  pub resting-met : (e : Event) → Covered s.offsets s.groups → AreResting until s.loaded s.offsets s.groups → After (handled s e).effects.commands (handled s e).after.groups
  unfolding handled
  resting-met (event.Join ticket r fresh) c h =
      resting-quietly until s.loaded s.last early s ticket (join s.last r fresh ticket s.groups)
      (fine-join (KeepsRest until s.loaded s.last early s.offsets) s.last r fresh ticket s.groups
      (λ id new _ none. starts until s.loaded s.last early s.offsets s.groups id _ c none ((framed-add_member_and_rebalance s.last r new ticket (new_group id)).0 ∙ new_id until s.loaded s.last early id) (still-add_member_and_rebalance until s.loaded s.last early false r new ticket (new_group id) (λ typed. absurd (false≢true typed))))
      (λ id new g _ found _ _ _. keeps until s.loaded s.last early s.offsets s.groups id g _ h found (framed-add_member_and_rebalance s.last r new ticket g).0 (still-add_member_and_rebalance until s.loaded s.last early (is_some g.kind) r new ticket g (λ typed. typed)))
      (λ id new g old _ found _ _ _. keeps until s.loaded s.last early s.offsets s.groups id g _ h found (framed-replace_static_member s.last r new ticket old g).0 (still-replace_static_member until s.loaded s.last early (is_some g.kind) r new ticket old g (rests_of until s.loaded s.last early s.offsets s.groups id g h found)))
      (λ id own g m _ found _ _. keeps until s.loaded s.last early s.offsets s.groups id g _ h found (framed-join_known s.last r own ticket m g).0 (still-join_known until s.loaded s.last early (is_some g.kind) r own ticket m g (rests_of until s.loaded s.last early s.offsets s.groups id g h found))))
      (quiet-join s.last r fresh ticket s.groups) h
  resting-met (event.Sync ticket r) c h =
      resting-quietly until s.loaded s.last early s ticket (sync s.last r ticket s.groups)
      (fine-sync (KeepsRest until s.loaded s.last early s.offsets) s.last r ticket s.groups
      (λ id own g m _ found _ _ _ _. keeps until s.loaded s.last early s.offsets s.groups id g _ h found (framed-sync_taken s.last r own ticket m g g.phase).0 (still-sync_taken until s.loaded s.last early (is_some g.kind) r own ticket m g g.phase (rests_of until s.loaded s.last early s.offsets s.groups id g h found))))
      (quiet-sync s.last r ticket s.groups) h
  resting-met (event.Beat ticket r) c h =
      resting-quietly until s.loaded s.last early s ticket (beat s.last r ticket s.groups)
      (fine-beat (KeepsRest until s.loaded s.last early s.offsets) s.last r ticket s.groups
      (λ id own g found. keeps until s.loaded s.last early s.offsets s.groups id g _ h found (framed-beat_taken s.last own ticket g).0 (still-beat_taken until s.loaded s.last early (is_some g.kind) own ticket g (rests_of until s.loaded s.last early s.offsets s.groups id g h found))))
      (quiet-beat s.last r ticket s.groups) h
  resting-met (event.Leave ticket r) c h =
      resting-quietly until s.loaded s.last early s ticket (leave s.last r ticket s.groups)
      (fine-leave (KeepsRest until s.loaded s.last early s.offsets) s.last r ticket s.groups
      (λ id g m found _. keeps until s.loaded s.last early s.offsets s.groups id g _ h found (framed-leave_taken s.last m.id ticket m g).0 (still-leave_taken until s.loaded s.last early (is_some g.kind) m.id ticket m g (rests_of until s.loaded s.last early s.offsets s.groups id g h found))))
      (quiet-leave s.last r ticket s.groups) h
  resting-met (event.Commit ticket r) c h =
      resting-concluded until s.loaded s.last early s ticket (commit s.last r ticket s.groups)
      (fine-commit (Calms until s.loaded s.last early s.offsets) s.last r ticket s.groups
      (λ id none. (starts until s.loaded s.last early s.offsets s.groups id _ c none ((framed-committed s.last r.entries ticket None (new_group id)).0 ∙ new_id until s.loaded s.last early id) (still-committed until s.loaded s.last early false r.entries ticket None (new_group id) (new_rests until s.loaded s.last early id)), from_commit until s.loaded s.last early s.offsets _ ticket _))
      (λ id g who found _. (keeps until s.loaded s.last early s.offsets s.groups id g _ h found (framed-committed s.last r.entries ticket who g).0 (still-committed until s.loaded s.last early (is_some g.kind) r.entries ticket who g (rests_of until s.loaded s.last early s.offsets s.groups id g h found)), from_commit until s.loaded s.last early s.offsets _ ticket _)))
      h
  resting-met (event.Fetch ticket r) c h = h
  resting-met (event.Delete ticket id) c h = resting-deleted ticket (memberless id s.groups) h
  resting-met (event.Drop ticket r) c h = resting-dropped ticket r.partitions (memberless r.group s.groups) h
  resting-met (event.Describe ticket id) c h = h
  resting-met (event.List ticket) c h = h
  resting-met (event.Gone session) c h = resting-gone session h
  resting-met event.Tick c h = resting-tick h

-- in the form of a call that processes an event
pub resting-call : (until loaded now : ℕ) (held held' : List Group) (offsets offsets' : OffsetMap) (e : Event) (effects : Effects) → until ≤ now + RETENTION_MS → handled (standing loaded now held offsets) e ≡ outcome (standing loaded now held' offsets) effects
    → offsets' ≡ offsets_after offsets effects.commands → Covered offsets held → AreResting until loaded offsets held → AreResting until loaded offsets' held'
resting-call until loaded now held held' offsets offsets' e effects early is moved covered rest =
    subst (λ o. AreResting until loaded o held') (sym moved)
    (subst (λ (o : Outcome). AreResting until loaded (offsets_after offsets o.effects.commands) o.after.groups) is (resting-met until (standing loaded now held offsets) early e covered rest))

-- ---- before then a tick finds nothing that expires

not_stale : (until loaded now : ℕ) (moment : Option ℕ) → now < until → IsFresh until loaded moment → is_stale loaded now moment ≡ false
not_stale until loaded now moment before fresh = go (is_stale loaded now moment) refl
  where
    go : (b : Bool) → is_stale loaded now moment ≡ b → b ≡ false
    go false e = refl
    go true e = absurd (let passed = leb-true (unwrap_or moment loaded + RETENTION_MS) now e in omega (arith, before, fresh, passed))

no_row : (until loaded now : ℕ) (offsets : OffsetMap) (group : List ℕ) (rows : List KeptRow) → now < until → Each (λ (row : KeptRow). finmap.get offsets (key_of group row.0) ≡ Some row.1) rows
    → ((key : OffsetKey) (stored : StoredOffset) → is_same group key.group ≡ true → finmap.get offsets key ≡ Some stored → IsFresh until loaded stored.moment) → list_any (is_stale_row loaded now) rows ≡ false
no_row until loaded now offsets group [] before there fresh = refl
no_row until loaded now offsets group (row ∷ rows) before there fresh =
    or_from (is_stale_row loaded now row) (list_any (is_stale_row loaded now) rows) (not_stale until loaded now row.1.moment before (fresh (key_of group row.0) row.1 (same_self group) there.0)) (no_row until loaded now offsets group rows before there.1 fresh)

expires_no : (until loaded now : ℕ) (offsets : OffsetMap) (g : Group) → now < until → Rests until loaded g → AreFresh until loaded offsets g → expires loaded now offsets g ≡ false
expires_no until loaded now offsets g before rest fresh = by_vacant (is_vacant g) refl
  where
    by_kind : is_vacant g ≡ true → (k : Bool) → is_some g.kind ≡ k → expires loaded now offsets g ≡ false
    by_kind vacant true kind = expires_recorded loaded now offsets g vacant kind ∙ not_stale until loaded now g.emptied before (rest (and_parts (is_idle g.phase) (is_empty g.members) vacant).0 kind)
    by_kind vacant false kind = expires_rows loaded now offsets g vacant kind ∙ no_row until loaded now offsets g.id (offsets_in offsets g.id) before (found-offsets_in g.id offsets) (fresh kind)

    by_vacant : (b : Bool) → is_vacant g ≡ b → expires loaded now offsets g ≡ false
    by_vacant false vacant = expires_not loaded now offsets g vacant
    by_vacant true vacant = by_kind vacant (is_some g.kind) refl

pub none_expires : (until loaded now : ℕ) (offsets : OffsetMap) (groups : List Group) → now < until → AreResting until loaded offsets groups → list_any (expires loaded now offsets) groups ≡ false
none_expires until loaded now offsets [] before r = refl
none_expires until loaded now offsets (g ∷ gs) before r =
    or_from (expires loaded now offsets g) (list_any (expires loaded now offsets) gs) (expires_no until loaded now offsets g before r.0.0 r.0.1) (none_expires until loaded now offsets gs before r.1)

-- ---- one group after another

rests_sooner : (until sooner loaded : ℕ) (offsets : OffsetMap) (g : Group) → sooner ≤ until → Rests until loaded g × AreFresh until loaded offsets g → Rests sooner loaded g × AreFresh sooner loaded offsets g
rests_sooner until sooner loaded offsets g le h = (λ idle typed. let was = h.0 idle typed in omega (arith, le, was), λ untyped key stored own there. let was = h.1 untyped key stored own there in omega (arith, le, was))

-- if the groups that were not looked at rest, then all do
abbrev pub AreSeen : ℕ → ℕ → OffsetMap → List Group → List Group → Type 0
AreSeen until loaded offsets all rest = (sooner : ℕ) → sooner ≤ until → AreResting sooner loaded offsets rest → AreResting sooner loaded offsets all

pub seen_none : (until loaded : ℕ) (offsets : OffsetMap) (all rest : List Group) → rest ≡ all → AreSeen until loaded offsets all rest
seen_none until loaded offsets all rest same sooner le h = subst (AreResting sooner loaded offsets) same h

pub seen_more : (until least loaded : ℕ) (offsets : OffsetMap) (all rest more : List Group) (g : Group) → rest ≡ g ∷ more → least ≤ until → Rests least loaded g → AreFresh least loaded offsets g → AreSeen until loaded offsets all rest → AreSeen least loaded offsets all more
seen_more until least loaded offsets all rest more g first le rests fresh seen sooner lower h =
    seen sooner (omega (arith, le, lower)) (subst (AreResting sooner loaded offsets) (sym first) (rests_sooner least sooner loaded offsets g lower (rests, fresh), h))

pub seen_all : (until loaded : ℕ) (offsets : OffsetMap) (all rest : List Group) → rest ≡ [] → AreSeen until loaded offsets all rest → AreResting until loaded offsets all
seen_all until loaded offsets all rest none seen = seen until (omega arith) (subst (AreResting until loaded offsets) (sym none) tt)

-- at first
pub resting_first : (loaded : ℕ) (offsets : OffsetMap) (groups : List Group) → AreResting 0 loaded offsets groups
resting_first loaded offsets [] = tt
resting_first loaded offsets (g ∷ gs) = ((λ _ _. omega arith, λ _ _ _ _ _. omega arith), resting_first loaded offsets gs)
