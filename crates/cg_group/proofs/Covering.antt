-- Each group with an offset is loaded, before and after each event.
use Rattle.std.proofs.Common.{◌≡◌, ℕ, Bool, true, false, ◌||◌, List, [], ◌∷◌, cond, is_some, refl, sym, ap, ◌∙◌, subst, Option, Some, None, Result, Ok, Err, max}
use Rattle.std.specs.List.{flat_map, fold}
use Rattle.std.specs.Ordering.{eq_by_cmp}
use Rattle.std.specs.FinMap as finmap
use Rattle.std.specs.FinMap.{get-insert, get-retain_keys}
use Rattle.std.proofs.lemmas.Bool.{or_left, or_right, false≢true, not-true}
use Rattle.std.proofs.lemmas.Cmp.{nat_list_eq_equiv}
use Rattle.cg_names.specs.declared.code.Code.{Code}
use Rattle.cg_record.specs.declared.entry.Entry.{Entry}
use Rattle.cg_fold.specs.declared.stored_offset.StoredOffset.{StoredOffset}
use Rattle.cg_fold.specs.Durable.{State, after, effect, is_of_other, with_entry}
use Rattle.cg_fold.specs.Key.{OffsetKey, key_cmp, kept_of}
use Rattle.cg_fold.proofs.KeyOrder.{key_same, key_total}
use Rattle.cg_fold.proofs.Names.{equal}
use Rattle.cg_request.specs.declared.event.Event.{Event}
use Rattle.cg_request.specs.declared.event.Event.TheVariants as event
use Rattle.cg_group_state.specs.declared.group.Group.{Group}
use Rattle.cg_request.specs.declared.ticket.Ticket.{Ticket}
use Rattle.cg_group_state.specs.declared.turn.Turn.{Turn}
use Rattle.cg_group_rules.specs.OffsetCommit.{keeping_entries}
use Rattle.cg_group.specs.Laws.{after_all, commands_of}
use Rattle.cg_group_rules.specs.Leave.{gone_in}
use Rattle.cg_group_state.specs.declared.effects.Effects.{Effects}
use Rattle.cg_record.specs.declared.topic_partition.TopicPartition.{TopicPartition}
use Rattle.cg_group_table.specs.Expiry.{tick}
use Rattle.cg_group.proofs.Lasting.{covered-drop, covered-tick}
use Rattle.cg_group.specs.Machine.{beat, commit, concluded, deleted, dropped, memberless, join, leave, handled, step, sync}
use Rattle.cg_group_table.specs.GroupTable.{Machine, Outcome, everywhere, find_group, outcome, standing, with_group}
use Rattle.cg_group_state.specs.Membership.{is_same}
use Rattle.cg_group_state.specs.Offsets.{OffsetMap, offsets_after}
use Rattle.cg_group_table.specs.Recovery.{revive}
use Rattle.cg_group.proofs.KeptMachine.{found-turns}
use Rattle.cg_group_table.proofs.Framed.{Framed, framed-gone_in}
use Rattle.cg_group_table.proofs.KeptLists.{found-with_group, same_self}
use Rattle.cg_group.proofs.OffsetsKept.{after-append, offsets-after, quiet-offsets}
use Rattle.cg_group.proofs.Quiet.{Quiet, quiet-all, quiet-beat, quiet-gone_in, quiet-join, quiet-leave, quiet-sync}
use Rattle.cg_group_table.proofs.Removing.{found-without}
use Rattle.cg_group.proofs.Requests.{Fine, fine-commit}
use Rattle.cg_group_table.proofs.Revived.{read_revived}
use Rattle.cg_group_table.specs.Resting.{Covered}

-- the commands of the step add offsets of its own group only
abbrev Adds : OffsetMap → Turn → Type 0
Adds offsets t = (key : OffsetKey) → is_some (finmap.get (offsets_after offsets t.commands) key) ≡ true → (is_same t.group.id key.group || is_some (finmap.get offsets key)) ≡ true

over_or : (a b c : Bool) → (b ≡ true → c ≡ true) → (a || b) ≡ true → (a || c) ≡ true
over_or true b c k e = refl
over_or false b c k e = k e

-- the entries of a commit belong to its group
added : (group : List ℕ) (moment : Option ℕ) (entries : List Entry) (offsets : OffsetMap) (key : OffsetKey) → is_some (finmap.get (fold (with_entry group moment) offsets entries) key) ≡ true → (is_same group key.group || is_some (finmap.get offsets key)) ≡ true
added group moment [] offsets key e = or_right (is_same group key.group) (is_some (finmap.get offsets key)) e
added group moment (x ∷ xs) offsets key e =
    let new = kept_of group moment x in
    let got = get-insert key_total offsets new.0 new.1 key in
    let one : eq_by_cmp key_cmp key new.0 ≡ true → is_same group key.group ≡ true =
    λ t. ap (λ (k : OffsetKey). is_same group k.group) (key_same key new.0 (equal (key_cmp key new.0) t)) ∙ same_self group in
    let put : (is_same group key.group || is_some (cond (eq_by_cmp key_cmp key new.0) (Some new.1) (finmap.get offsets key))) ≡ true =
    ap (λ o. is_same group key.group || is_some o) (sym got) ∙ added group moment xs (with_entry group moment offsets x) key e in
    (elim (eq_by_cmp key_cmp key new.0) as (λ b. (b ≡ true → is_same group key.group ≡ true) → (is_same group key.group || is_some (cond b (Some new.1) (finmap.get offsets key))) ≡ true → (is_same group key.group || is_some (finmap.get offsets key)) ≡ true) [
      | true ↦ λ own _. or_left (is_same group key.group) (is_some (finmap.get offsets key)) (own refl)
      | false ↦ λ _ h. h
    ]) one put

adds-quiet : (offsets : OffsetMap) (t : Turn) → Quiet t → Adds offsets t
adds-quiet offsets t q key e = or_right (is_same t.group.id key.group) (is_some (finmap.get offsets key)) (ap (λ o. is_some (finmap.get o key)) (sym (quiet-offsets offsets t.commands q)) ∙ e)

adds-keeping : (offsets : OffsetMap) (now : ℕ) (entries : List Entry) (ticket : Ticket) (g : Group) → Adds offsets (keeping_entries now entries ticket g)
unfolding keeping_entries effect
adds-keeping offsets now entries ticket g key e = added g.id (Some now) entries offsets key e

covered-taken : (offsets : OffsetMap) (groups : List Group) (t : Turn) → Adds offsets t → Covered offsets groups → Covered (offsets_after offsets t.commands) (with_group t.group groups)
covered-taken offsets groups t a v key e =
    found-with_group key.group t.group groups (over_or (is_same t.group.id key.group) (is_some (finmap.get offsets key)) (is_some (find_group key.group groups)) (v key) (a key e))

covered-concluded : (s : Machine) (ticket : Ticket) (o : Result Turn Code) → Fine (Adds s.offsets) o → Covered s.offsets s.groups → Covered (offsets_after s.offsets (concluded s ticket o).effects.commands) (concluded s ticket o).after.groups
unfolding concluded
covered-concluded s ticket (Ok t) a v = covered-taken s.offsets s.groups t a v
covered-concluded s ticket (Err code) a v = v

fine-over : (P Q : Turn → Type 0) → ((t : Turn) → P t → Q t) → (o : Result Turn Code) → Fine P o → Fine Q o
fine-over P Q over (Ok t) h = over t h
fine-over P Q over (Err code) h = tt

covered-everywhere : (turn : Group → Turn) → ((g : Group) → Framed g.id (turn g)) → ((g : Group) → Quiet (turn g)) → (s : Machine) → Covered s.offsets s.groups → Covered (offsets_after s.offsets (everywhere turn s).effects.commands) (everywhere turn s).after.groups
unfolding everywhere
covered-everywhere turn framed quiet s v key e =
    let same = quiet-offsets s.offsets (flat_map (λ g. (turn g).commands) s.groups) (quiet-all turn quiet s.groups) in
    found-turns turn framed key.group s.groups ∙ v key (ap (λ o. is_some (finmap.get o key)) (sym same) ∙ e)

-- the offsets of the other groups that remain
left_over : (b : Bool) (o : Option StoredOffset) → is_some (cond b o None) ≡ true → (b ≡ true) × (is_some o ≡ true)
left_over true o e = (refl, e)
left_over false o e = absurd (false≢true e)

covered-deleted : (s : Machine) (ticket : Ticket) (o : Result (List ℕ) Code) → Covered s.offsets s.groups → Covered (offsets_after s.offsets (deleted s ticket o).effects.commands) (deleted s ticket o).after.groups
unfolding deleted effect
covered-deleted s ticket (Err code) v key e = v key e
covered-deleted s ticket (Ok id) v key e =
    let got = get-retain_keys s.offsets (is_of_other id) key (λ x t. ap (is_of_other id) (sym (key_same key x t))) in
    let parts = left_over (is_of_other id key) (finmap.get s.offsets key) (ap is_some (sym got) ∙ e) in
    found-without id key.group s.groups (nat_list_eq_equiv.symm id key.group ∙ not-true (is_same key.group id) parts.0) (v key parts.1)

covered-dropped : (s : Machine) (ticket : Ticket) (partitions : List TopicPartition) (o : Result (List ℕ) Code) → Covered s.offsets s.groups → Covered (offsets_after s.offsets (dropped s ticket partitions o).effects.commands) (dropped s ticket partitions o).after.groups
unfolding dropped
covered-dropped s ticket partitions (Err code) v key e = v key e
covered-dropped s ticket partitions (Ok id) v key e = covered-drop s.offsets s.groups id partitions v key e

pub covered-met : (s : Machine) (e : Event) → Covered s.offsets s.groups → Covered (offsets_after s.offsets (handled s e).effects.commands) (handled s e).after.groups
unfolding handled
covered-met s (event.Join ticket r fresh) v =
    covered-concluded s ticket (join s.last r fresh ticket s.groups) (fine-over Quiet (Adds s.offsets) (adds-quiet s.offsets) (join s.last r fresh ticket s.groups) (quiet-join s.last r fresh ticket s.groups)) v
covered-met s (event.Sync ticket r) v =
    covered-concluded s ticket (sync s.last r ticket s.groups) (fine-over Quiet (Adds s.offsets) (adds-quiet s.offsets) (sync s.last r ticket s.groups) (quiet-sync s.last r ticket s.groups)) v
covered-met s (event.Beat ticket r) v =
    covered-concluded s ticket (beat s.last r ticket s.groups) (fine-over Quiet (Adds s.offsets) (adds-quiet s.offsets) (beat s.last r ticket s.groups) (quiet-beat s.last r ticket s.groups)) v
covered-met s (event.Leave ticket r) v =
    covered-concluded s ticket (leave s.last r ticket s.groups) (fine-over Quiet (Adds s.offsets) (adds-quiet s.offsets) (leave s.last r ticket s.groups) (quiet-leave s.last r ticket s.groups)) v
covered-met s (event.Commit ticket r) v =
    covered-concluded s ticket (commit s.last r ticket s.groups) (fine-commit (Adds s.offsets) s.last r ticket s.groups (λ id _. adds-keeping s.offsets s.last _ ticket _) (λ id g who _ _. adds-keeping s.offsets s.last _ ticket _)) v
covered-met s (event.Fetch ticket r) v = v
covered-met s (event.Delete ticket id) v = covered-deleted s ticket (memberless id s.groups) v
covered-met s (event.Drop ticket r) v = covered-dropped s ticket r.partitions (memberless r.group s.groups) v
covered-met s (event.Describe ticket id) v = v
covered-met s (event.List ticket) v = v
covered-met s (event.Gone session) v = covered-everywhere (gone_in s.last session) (framed-gone_in s.last session) (quiet-gone_in s.last session) s v
covered-met s event.Tick v = covered-tick s v

offsets-concluded : (s : Machine) (ticket : Ticket) (o : Result Turn Code) → (concluded s ticket o).after.offsets ≡ s.offsets
unfolding concluded
offsets-concluded s ticket (Ok t) = refl
offsets-concluded s ticket (Err code) = refl

offsets-deleted : (s : Machine) (ticket : Ticket) (o : Result (List ℕ) Code) → (deleted s ticket o).after.offsets ≡ s.offsets
unfolding deleted
offsets-deleted s ticket (Ok id) = refl
offsets-deleted s ticket (Err code) = refl

offsets-dropped : (s : Machine) (ticket : Ticket) (partitions : List TopicPartition) (o : Result (List ℕ) Code) → (dropped s ticket partitions o).after.offsets ≡ s.offsets
unfolding dropped
offsets-dropped s ticket partitions (Ok id) = refl
offsets-dropped s ticket partitions (Err code) = refl

-- only the commands of an event change the offsets
pub offsets-met : (s : Machine) (e : Event) → (handled s e).after.offsets ≡ s.offsets
unfolding handled everywhere tick
offsets-met s (event.Join ticket r fresh) = offsets-concluded s ticket (join s.last r fresh ticket s.groups)
offsets-met s (event.Sync ticket r) = offsets-concluded s ticket (sync s.last r ticket s.groups)
offsets-met s (event.Beat ticket r) = offsets-concluded s ticket (beat s.last r ticket s.groups)
offsets-met s (event.Leave ticket r) = offsets-concluded s ticket (leave s.last r ticket s.groups)
offsets-met s (event.Commit ticket r) = offsets-concluded s ticket (commit s.last r ticket s.groups)
offsets-met s (event.Fetch ticket r) = refl
offsets-met s (event.Delete ticket id) = offsets-deleted s ticket (memberless id s.groups)
offsets-met s (event.Drop ticket r) = offsets-dropped s ticket r.partitions (memberless r.group s.groups)
offsets-met s (event.Describe ticket id) = refl
offsets-met s (event.List ticket) = refl
offsets-met s (event.Gone session) = refl
offsets-met s event.Tick = refl

-- the offsets after a step
pub offsets-step : (s : Machine) (e : Event) (m : ℕ) → (step s e m).after.offsets ≡ offsets_after s.offsets (step s e m).effects.commands
unfolding step
offsets-step s e m = ap (λ o. offsets_after o (handled (record s { last = max s.last m }) e).effects.commands) (offsets-met (record s { last = max s.last m }) e)

pub offsets-after_all : (events : List (Event × ℕ)) (s : Machine) (state : State) → s.offsets ≡ state.offsets → (after_all events s).offsets ≡ (after state (commands_of events s)).offsets
unfolding after_all commands_of
offsets-after_all [] s state e = e
offsets-after_all (x ∷ xs) s state e =
    let o = step s x.0 x.1 in
    let same : o.after.offsets ≡ (after state o.effects.commands).offsets =
    offsets-step s x.0 x.1 ∙ offsets-after o.effects.commands (record { records = finmap.empty; offsets = s.offsets }) state e in
    offsets-after_all xs o.after (after state o.effects.commands) same
    ∙ ap (λ (t : State). t.offsets) (sym (after-append state o.effects.commands (commands_of xs o.after)))

covered-moved : (s : Machine) (e : Event) (m : ℕ) → Covered s.offsets s.groups → Covered (offsets_after s.offsets (step s e m).effects.commands) (step s e m).after.groups
unfolding step
covered-moved s e m v = covered-met (record s { last = max s.last m }) e v

covered-step : (s : Machine) (e : Event) (m : ℕ) → Covered s.offsets s.groups → Covered (step s e m).after.offsets (step s e m).after.groups
covered-step s e m v =
    let P : OffsetMap → Type 0 = λ o. Covered o (step s e m).after.groups in
    subst P (sym (offsets-step s e m)) (covered-moved s e m v)

pub covered-after_all : (events : List (Event × ℕ)) (s : Machine) → Covered s.offsets s.groups → Covered (after_all events s).offsets (after_all events s).groups
unfolding after_all
covered-after_all [] s v = v
covered-after_all (x ∷ xs) s v = covered-after_all xs (step s x.0 x.1).after (covered-step s x.0 x.1 v)

pub offsets-revive : (state : State) (now : ℕ) → (revive state now).offsets ≡ state.offsets
unfolding revive
offsets-revive state now = refl

-- the same, in the form of a call that processes an event
pub covered-call : (loaded now : ℕ) (held held' : List Group) (offsets offsets' : OffsetMap) (e : Event) (effects : Effects) → handled (standing loaded now held offsets) e ≡ outcome (standing loaded now held' offsets) effects
    → offsets' ≡ offsets_after offsets effects.commands → Covered offsets held → Covered offsets' held'
covered-call loaded now held held' offsets offsets' e effects is moved covered =
    subst (λ o. Covered o held') (sym moved) (subst (λ (o : Outcome). Covered (offsets_after offsets o.effects.commands) o.after.groups) is (covered-met (standing loaded now held offsets) e covered))

pub covered-revive : (state : State) (now : ℕ) → Covered (revive state now).offsets (revive state now).groups
unfolding revive
covered-revive state now key e = read_revived now state key e
