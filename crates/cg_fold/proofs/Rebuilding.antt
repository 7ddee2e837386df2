-- The commands of a snapshot build the state that it was taken of.
use Rattle.std.proofs.Common.{◌≡◌, ℕ, zero, suc, ◌≤◌, Bool, true, false, cond, List, [], ◌∷◌, length, map as each, take, drop, Option, Some, None, ap, sym, ◌∙◌, refl, arith}
use Rattle.std.proofs.Math.Dec.{T}
use Rattle.std.specs.Prelude.{◌||◌, filter, flat_map, bytes_eq, is_some}
use Rattle.std.specs.List.{fold, list_all, list_any}
use Rattle.std.specs.Ordering.{eq_by_cmp, is_eq, is_lt}
use Rattle.std.specs.declared.cmp.Ordering.{Ordering}
use Rattle.std.specs.declared.cmp.Ordering.TheVariants.{Less, Equal, Greater}
use Rattle.std.specs.FinMap as map
use Rattle.std.specs.FinMap.{find, is_sorted}
use Rattle.std.specs.FinMap.Entries.{is_sorted-where_key, find-where_key}
use Rattle.std.proofs.lemmas.List.{map-append, take-append-drop}
use Rattle.std.proofs.lemmas.List.Concat.{flat_map-cons}
use Rattle.std.proofs.lemmas.List.Folds.{list_any-append}
use Rattle.std.proofs.lemmas.Slice.Eq.{bytes_eq-Decides}
use Rattle.std.proofs.Math.Bool.{or-true}
use Rattle.std.proofs.lemmas.List.Sums.{fold-append}
use Rattle.cg_fold.specs.declared.stored_offset.StoredOffset.{StoredOffset}
use Rattle.cg_fold.specs.declared.group_record.GroupRecord.{GroupRecord}
use Rattle.cg_fold.specs.declared.group_record.RecordedMembers.{RecordedMembers}
use Rattle.cg_fold.specs.declared.group_record.RecordedMembers.TheVariants.{Empty, Roster}
use Rattle.cg_fold.specs.Key.{KeptOffset, KeptRow, OffsetKey, in_group, key_cmp, key_of, name_cmp}
use Rattle.cg_fold.specs.Durable.{State, after, effect, empty, folded, with_entry, with_record}
use Rattle.cg_fold.specs.Snapshot.{CutsRuns, groups_in, has_moment, in_order, record_command, record_commands, entry_of, commits_by, first_len, is_of_group, offsets_of, group_commands_by, snapshot_by, snapshot_of}
use Rattle.cg_fold.proofs.Commits.{fewer_left}
use Rattle.cg_fold.proofs.Longest.{both_true, first_run, same_moment}
use Rattle.cg_fold.proofs.KeyOrder.{key_total, key_same, name_total, name_same}
use Rattle.cg_fold.proofs.Place.{below_all, both}
use Rattle.cg_fold.proofs.Stock.{kept-filter, kept_all}
use Rattle.cg_fold.proofs.Names.{any_in_order, any_tie, equal, tie_is_same}

-- ---- lists of commands

-- the first of the two that is given
abbrev pub or_else : {X : Type 0} → Option X → Option X → Option X
or_else None y = y
or_else (Some x) y = Some x

-- ---- the record of a group

-- the effect of the command that sets a record of these parts
made_record : (state : State) (group : List ℕ) (generation : ℕ) (kind : List ℕ) (members : RecordedMembers)
    → effect state (record_command group generation kind members) ≡ with_record state group (record { generation = generation; kind = kind; members = members })
unfolding effect
made_record state group generation kind (Empty moment) = refl
made_record state group generation kind (Roster roster) = refl

-- the record of a group after its command
abbrev then_record : State → List ℕ → Option GroupRecord → State
then_record state group None = state
then_record state group (Some held) = with_record state group held

after_record : (state : State) (group : List ℕ) (held : Option GroupRecord) → after state (record_commands group held) ≡ then_record state group held
after_record state group None = refl
after_record state group (Some held) = made_record state group held.generation held.kind held.members

-- ---- the offsets of a group

abbrev with_kept : map.FinMap key_cmp StoredOffset → KeptOffset → map.FinMap key_cmp StoredOffset
with_kept offsets kept = map.insert offsets kept.0 kept.1

-- a commit at the moment of all its offsets sets them as they are
entries_as_rows : (group : List ℕ) (moment : Option ℕ) (rows : List KeptRow) (offsets : map.FinMap key_cmp StoredOffset) → list_all (has_moment moment) rows ≡ true
    → fold (with_entry group moment) offsets (each entry_of rows) ≡ fold with_kept offsets (kept_all group rows)
entries_as_rows group moment [] offsets one = refl
entries_as_rows group moment (row ∷ rows) offsets one =
    let parts = both_true (has_moment moment row) (list_all (has_moment moment) rows) one in
    let stored : Option ℕ → StoredOffset = λ m. record { offset = row.1.offset; metadata = row.1.metadata; moment = m } in
    entries_as_rows group moment rows (with_entry group moment offsets (entry_of row)) parts.1
    ∙ ap (λ m. fold with_kept (map.insert offsets (key_of group row.0) (stored m)) (kept_all group rows)) (sym (same_moment row.1.moment moment parts.0))

-- the state with these offsets of a group
abbrev with_rows : State → List ℕ → List KeptRow → State
with_rows state group rows = record state { offsets = fold with_kept state.offsets (kept_all group rows) }

after_commits : (run : List KeptRow → ℕ) → CutsRuns run → (most : ℕ) (group : List ℕ) (rows : List KeptRow) (state : State) → length rows ≤ most → after state (commits_by run most group rows) ≡ with_rows state group rows
unfolding commits_by effect
after_commits run cuts zero group [] state le = refl
after_commits run cuts zero group (row ∷ rows) state le = absurd (omega arith)
after_commits run cuts (suc most) group [] state le = refl
after_commits run cuts (suc most) group (row ∷ rows) state le =
    let len = run (row ∷ rows) in
    let first = take len (row ∷ rows) in
    let others = drop len (row ∷ rows) in
    let shorter : length others ≤ most = omega (arith, fewer_left run cuts row rows) in
    let one : record state { offsets = fold (with_entry group row.1.moment) state.offsets (each entry_of first) } ≡ with_rows state group first =
    ap (λ m. record state { offsets = m }) (entries_as_rows group row.1.moment first state.offsets (cuts (row ∷ rows) (omega arith)).one_moment) in
    let joined : fold with_kept (fold with_kept state.offsets (kept_all group first)) (kept_all group others) ≡ fold with_kept state.offsets (kept_all group (row ∷ rows)) =
    sym (fold-append with_kept state.offsets (kept_all group first) (kept_all group others))
    ∙ ap (fold with_kept state.offsets) (sym (map-append (in_group group) first others) ∙ ap (kept_all group) (take-append-drop len (row ∷ rows))) in
    ap (λ s. after s (commits_by run most group others)) one ∙ after_commits run cuts most group others (with_rows state group first) shorter ∙ ap (λ m. record state { offsets = m }) joined

-- ---- look-ups

abbrev state_from : map.FinMap name_cmp GroupRecord → map.FinMap key_cmp StoredOffset → State
state_from records offsets = record { records = records; offsets = offsets }

none_above : {K X : Type 0} (R : K → K → Ordering) (x : K) (es : List (K × X)) → T (below_all R x es) → find R x es ≡ None
none_above R x [] all = refl
none_above {K} {X} R x (e ∷ es) all =
    let parts = both (is_lt (R x e.0)) (below_all R x es) all in
    step (R x e.0) parts.0 (none_above R x es parts.1)
  where
    step : (r : Ordering) → T (is_lt r) → find R x es ≡ None → cond (is_eq r) (Some e.1) (find R x es) ≡ None
    step Less before rest = rest
    step Equal before rest = absurd before
    step Greater before rest = absurd before

get-with_kept : (rows : List KeptOffset) (m : map.FinMap key_cmp StoredOffset) (k : OffsetKey) → T (is_sorted key_cmp rows) → map.get (fold with_kept m rows) k ≡ or_else (find key_cmp k rows) (map.get m k)
get-with_kept [] m k sorted = refl
get-with_kept (row ∷ rows) m k sorted =
    let parts = both (below_all key_cmp row.0 rows) (is_sorted key_cmp rows) sorted in
    get-with_kept rows (with_kept m row) k parts.1 ∙ ap (or_else (find key_cmp k rows)) (map.get-insert key_total m row.0 row.1 k)
    ∙ step (eq_by_cmp key_cmp k row.0) refl parts.0
  where
    step : (b : Bool) → eq_by_cmp key_cmp k row.0 ≡ b → T (below_all key_cmp row.0 rows) → or_else (find key_cmp k rows) (cond b (Some row.1) (map.get m k)) ≡ or_else (cond b (Some row.1) (find key_cmp k rows)) (map.get m k)
    step true is above =
        let same : k ≡ row.0 = key_same k row.0 (equal (key_cmp k row.0) is) in
        let none : find key_cmp k rows ≡ None = ap (λ q. find key_cmp q rows) same ∙ none_above key_cmp row.0 rows above in
        ap (λ o. or_else o (Some row.1)) none
    step false is above = refl

-- ---- all groups

-- for the groups that pass, this state equals the whole one, and it has nothing of the others
record Holds (whole now : State) (done : List ℕ → Bool) : Type 0 where
  records : (q : List ℕ) → map.get now.records q ≡ cond (done q) (map.get whole.records q) None
  offsets : (k : OffsetKey) → map.get now.offsets k ≡ cond (done k.group) (map.get whole.offsets k) None

abbrev and_this : List ℕ → (List ℕ → Bool) → List ℕ → Bool
and_this group done q = bytes_eq q group || done q

after_group : (run : List KeptRow → ℕ) → CutsRuns run → (whole now : State) (group : List ℕ) → after now (group_commands_by run whole group) ≡ with_rows (then_record now group (map.get whole.records group)) group (offsets_of whole group)
unfolding group_commands_by
after_group run cuts whole now group =
    let commits = commits_by run (length (offsets_of whole group)) group (offsets_of whole group) in
    fold-append effect now (record_commands group (map.get whole.records group)) commits
    ∙ ap (λ s. after s commits) (after_record now group (map.get whole.records group))
    ∙ after_commits run cuts (length (offsets_of whole group)) group (offsets_of whole group) (then_record now group (map.get whole.records group)) (omega arith)

records_then : (whole now : State) (group : List ℕ) (done : List ℕ → Bool) (held : Option GroupRecord) (q : List ℕ) → map.get whole.records group ≡ held
    → map.get now.records q ≡ cond (done q) (map.get whole.records q) None → map.get (then_record now group held).records q ≡ cond (bytes_eq q group || done q) (map.get whole.records q) None
records_then whole now group done None q is before = before ∙ cases (bytes_eq q group) (done q) refl
  where
    cases : (b d : Bool) → bytes_eq q group ≡ b → cond d (map.get whole.records q) None ≡ cond (b || d) (map.get whole.records q) None
    cases true true same = refl
    cases true false same = sym (ap (map.get whole.records) ((bytes_eq-Decides q group).0 same) ∙ is)
    cases false d same = refl
records_then whole now group done (Some held) q is before =
    map.get-insert name_total now.records group held q ∙ ap (λ b. cond b (Some held) (map.get now.records q)) (tie_is_same q group) ∙ cases (bytes_eq q group) refl
  where
    cases : (b : Bool) → bytes_eq q group ≡ b → cond b (Some held) (map.get now.records q) ≡ cond (b || done q) (map.get whole.records q) None
    cases true same = sym (ap (map.get whole.records) ((bytes_eq-Decides q group).0 same) ∙ is)
    cases false same = before

offsets_unmoved : (now : State) (group : List ℕ) (held : Option GroupRecord) → (then_record now group held).offsets ≡ now.offsets
offsets_unmoved now group None = refl
offsets_unmoved now group (Some held) = refl

offsets_then : (b d : Bool) (there : Option StoredOffset) → or_else (cond b there None) (cond d there None) ≡ cond (b || d) there None
offsets_then true d (Some v) = refl
offsets_then true true None = refl
offsets_then true false None = refl
offsets_then false d there = refl

holds_on : (run : List KeptRow → ℕ) → CutsRuns run → (whole now : State) (group : List ℕ) (done : List ℕ → Bool) → Holds whole now done → Holds whole (after now (group_commands_by run whole group)) (and_this group done)
holds_on run cuts whole now group done holds = record {
  records = λ q. ap (λ (s : State). map.get s.records q) (after_group run cuts whole now group) ∙ records_then whole now group done (map.get whole.records group) q refl (holds.records q);
  offsets = λ k.
      let own = filter (λ kept. is_of_group group kept.0) (map.entries whole.offsets) in
      let found : find key_cmp k own ≡ cond (is_of_group group k) (map.get whole.offsets k) None =
      find-where_key key_cmp (is_of_group group) k (λ x tie. ap (is_of_group group) (sym (key_same k x tie))) (map.entries whole.offsets)
      ∙ ap (λ o. cond (is_of_group group k) o None) (sym (map.get-entries whole.offsets k)) in
      ap (λ (s : State). map.get s.offsets k) (after_group run cuts whole now group)
      ∙ ap (λ l. map.get (fold with_kept (then_record now group (map.get whole.records group)).offsets l) k) (kept-filter group (map.entries whole.offsets))
      ∙ get-with_kept own (then_record now group (map.get whole.records group)).offsets k (is_sorted-where_key key_cmp (is_of_group group) (map.entries whole.offsets) (map.entries_sorted whole.offsets))
      ∙ ap (λ m. or_else (find key_cmp k own) (map.get m k)) (offsets_unmoved now group (map.get whole.records group))
      ∙ ap (λ o. or_else o (map.get now.offsets k)) found
      ∙ ap (or_else (cond (is_of_group group k) (map.get whole.offsets k) None)) (holds.offsets k)
      ∙ offsets_then (is_of_group group k) (done k.group) (map.get whole.offsets k);
}

or_turned : (a b d : Bool) → (b || (a || d)) ≡ ((a || b) || d)
or_turned true true d = refl
or_turned true false d = refl
or_turned false true d = refl
or_turned false false d = refl

holds_all : (run : List KeptRow → ℕ) → CutsRuns run → (whole : State) (groups : List (List ℕ)) (now : State) (done : List ℕ → Bool) → Holds whole now done → Holds whole (after now (flat_map (group_commands_by run whole) groups)) (λ q. list_any (bytes_eq q) groups || done q)
holds_all run cuts whole [] now done holds = record { records = holds.records; offsets = holds.offsets }
holds_all run cuts whole (group ∷ groups) now done holds =
    let next = holds_all run cuts whole groups (after now (group_commands_by run whole group)) (and_this group done) (holds_on run cuts whole now group done holds) in
    let split : after now (flat_map (group_commands_by run whole) (group ∷ groups)) ≡ after (after now (group_commands_by run whole group)) (flat_map (group_commands_by run whole) groups) =
    ap (after now) (flat_map-cons (group_commands_by run whole) group groups) ∙ fold-append effect now (group_commands_by run whole group) (flat_map (group_commands_by run whole) groups) in
    record {
      records = λ q. ap (λ (s : State). map.get s.records q) split ∙ next.records q ∙ ap (λ b. cond b (map.get whole.records q) None) (or_turned (bytes_eq q group) (list_any (bytes_eq q) groups) (done q));
      offsets = λ k. ap (λ (s : State). map.get s.offsets k) split ∙ next.offsets k ∙ ap (λ b. cond b (map.get whole.offsets k) None) (or_turned (bytes_eq k.group group) (list_any (bytes_eq k.group) groups) (done k.group));
    }

-- ---- each group is included

any_group : (k : OffsetKey) (keys : List OffsetKey) → list_any (eq_by_cmp key_cmp k) keys ≡ true → list_any (bytes_eq k.group) (each (λ x. x.group) keys) ≡ true
any_group k [] hit = absurd cc
any_group k (x ∷ keys) hit = step (eq_by_cmp key_cmp k x) refl (any_group k keys)
  where
    step : (b : Bool) → eq_by_cmp key_cmp k x ≡ b → (list_any (eq_by_cmp key_cmp k) keys ≡ true → list_any (bytes_eq k.group) (each (λ y. y.group) keys) ≡ true)
        → (bytes_eq k.group x.group || list_any (bytes_eq k.group) (each (λ y. y.group) keys)) ≡ true
    step true is rest =
        let same : bytes_eq k.group x.group ≡ true = (bytes_eq-Decides k.group x.group).1 (ap (λ y. y.group) (key_same k x (equal (key_cmp k x) is))) in
        rw same refl
    step false is rest =
        let more : list_any (eq_by_cmp key_cmp k) keys ≡ true = rw is at hit in
        rw (rest more) (or-true (bytes_eq k.group x.group))

-- a name is one of the groups of a state exactly if it has a record or an offset
pub any_group_in : (state : State) (q : List ℕ) → list_any (bytes_eq q) (in_order (groups_in state)) ≡ (map.contains_key state.records q || list_any (bytes_eq q) (each (λ k. k.group) (map.keys state.offsets)))
any_group_in state q =
    any_in_order q (groups_in state) ∙ list_any-append (bytes_eq q) (map.keys state.records) (each (λ k. k.group) (map.keys state.offsets))
    ∙ ap (λ b. b || list_any (bytes_eq q) (each (λ k. k.group) (map.keys state.offsets))) (sym (any_tie q (map.keys state.records)) ∙ sym (map.contains_key-keys state.records q))

covered : {X : Type 0} (there : Option X) (b : Bool) → (is_some there ≡ true → b ≡ true) → cond (b || false) there None ≡ there
covered None true h = refl
covered None false h = refl
covered (Some v) true h = refl
covered (Some v) false h = absurd (cc (h refl))

-- each group with a record is one of them
pub record_covered : (state : State) (q : List ℕ) → is_some (map.get state.records q) ≡ true → list_any (bytes_eq q) (in_order (groups_in state)) ≡ true
record_covered state q there = any_group_in state q ∙ ap (λ b. b || list_any (bytes_eq q) (each (λ k. k.group) (map.keys state.offsets))) there

-- each group with an offset is one of them
pub offset_covered : (state : State) (k : OffsetKey) → is_some (map.get state.offsets k) ≡ true → list_any (bytes_eq k.group) (in_order (groups_in state)) ≡ true
offset_covered state k there =
    let known : list_any (bytes_eq k.group) (each (λ x. x.group) (map.keys state.offsets)) ≡ true = any_group k (map.keys state.offsets) (sym (map.contains_key-keys state.offsets k) ∙ there) in
    any_group_in state k.group ∙ ap (λ b. map.contains_key state.records k.group || b) known ∙ or-true (map.contains_key state.records k.group)

nothing_holds : (whole : State) → Holds whole empty (λ q. false)
nothing_holds whole = record { records = λ q. map.get-empty name_cmp q; offsets = λ k. map.get-empty key_cmp k }

pub folded_by : (run : List KeptRow → ℕ) → CutsRuns run → (state : State) → folded (snapshot_by run state) ≡ state
folded_by run cuts state =
    let all = holds_all run cuts state (in_order (groups_in state)) empty (λ q. false) (nothing_holds state) in
    let records : (folded (snapshot_by run state)).records ≡ state.records =
    map.same_map name_total name_same _ _ (λ q. all.records q ∙ covered (map.get state.records q) (list_any (bytes_eq q) (in_order (groups_in state))) (record_covered state q)) in
    let offsets : (folded (snapshot_by run state)).offsets ≡ state.offsets =
    map.same_map key_total key_same _ _ (λ k. all.offsets k ∙ covered (map.get state.offsets k) (list_any (bytes_eq k.group) (in_order (groups_in state))) (offset_covered state k)) in
    ap (λ m. state_from m (folded (snapshot_by run state)).offsets) records ∙ ap (state_from state.records) offsets

pub folded_snapshot : (state : State) → folded (snapshot_of state) ≡ state
folded_snapshot state = folded_by first_len first_run state
