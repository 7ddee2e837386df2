-- Machine and commands agree after a tick and after a drop, which take offsets away.
use Rattle.std.proofs.Common.{◌≡◌, ◌+◌, ℕ, zero, suc, Bool, true, false, not, ◌&&◌, ◌||◌, List, [], ◌∷◌, ◌++◌, cond, drop, filter, is_some, refl, sym, ap, ◌∙◌, subst, Option, Some, None}
use Rattle.std.specs.List.{flat_map, list_all, list_any}
use Rattle.std.specs.Cmp.{eq_by_cmp_equiv}
use Rattle.std.specs.FinMap as finmap
use Rattle.std.specs.FinMap.{find}
use Rattle.std.specs.Prelude.{IfSome, if◌then◌else◌, nat_le}
use Rattle.std.proofs.lemmas.Bool.{and_from, and_parts, false≢true, not-true, or_left, or_right}
use Rattle.std.proofs.lemmas.Cmp.{nat_list_eq_equiv}
use Rattle.std.proofs.lemmas.List.Folds.{list_all-append}
use Rattle.std.specs.declared.cmp.Ordering.TheVariants.{Less}
use Rattle.cg_record.specs.declared.command.Command.{Command}
use Rattle.cg_record.specs.declared.command.Command.TheVariants as command
use Rattle.cg_record.specs.declared.entries.TheConstants.{ENTRIES_MAX}
use Rattle.cg_record.specs.declared.topic_partition.TopicPartition.{TopicPartition}
use Rattle.cg_record.specs.Partitions.{partition_cmp}
use Rattle.cg_fold.specs.declared.group_record.GroupRecord.{GroupRecord}
use Rattle.cg_fold.specs.declared.group_record.RecordedMembers.{RecordedMembers}
use Rattle.cg_fold.specs.declared.group_record.RecordedMembers.TheVariants as recorded
use Rattle.cg_fold.specs.declared.stored_offset.StoredOffset.{StoredOffset}
use Rattle.cg_fold.specs.Durable.{is_of_other}
use Rattle.cg_fold.specs.Key.{KeptRow, OffsetKey, key_of}
use Rattle.cg_fold.specs.Snapshot.{offsets_in}
use Rattle.cg_fold.proofs.KeyOrder.{partition_total}
use Rattle.cg_fold.proofs.Stock.{find-offsets_in}
use Rattle.cg_request.specs.declared.event.Event.{Event}
use Rattle.cg_group_state.specs.declared.group.Group.{Group}
use Rattle.cg_group_state.specs.declared.group.Phase.{Phase}
use Rattle.cg_group_state.specs.declared.group.Phase.TheVariants.{Empty, Preparing, Completing, Stable}
use Rattle.cg_group_state.specs.declared.turn.Turn.{Turn}
use Rattle.cg_group_state.specs.declared.calls.Calls.TheVariants.{Joins}
use Rattle.cg_group_state.specs.Membership.{is_empty, is_preparing, is_same}
use Rattle.cg_group_state.specs.Waiting.{is_waiting}
use Rattle.cg_group_state.specs.Offsets.{OffsetMap, offsets_after}
use Rattle.cg_group_rules.specs.Rebalance.{is_ready, turn_of}
use Rattle.cg_group_rules.specs.Tick.{greatest_rebalance, is_due, ticked}
use Rattle.cg_group_state.specs.Staying.{is_overdue}
use Rattle.cg_group_table.specs.Expiry.{expires, expiries, expiring, expiring_as, expiring_if, goes, is_bare, is_idle, is_nil, is_stale, is_vacant, lasting, stale_of, swept, tick, tick_effects}
use Rattle.cg_group_table.specs.GroupTable.{Machine, find_group, groups_after, without_group}
use Rattle.cg_group_table.specs.Kept.{Ascending, ComesBefore, Each, HasOffset, Kept}
use Rattle.cg_group_table.specs.declared.expiry.TheConstants.{EXPIRED_COMMANDS_MAX}
use Rattle.cg_group_table.proofs.Framed.{OfGroup, each-append, framed-ticked}
use Rattle.cg_group_table.proofs.InOrder.{found_alone}
use Rattle.cg_group_table.proofs.Kept.{group_of, kept_after}
use Rattle.cg_group_table.proofs.KeptLists.{differs_from_order, each-after, each-found, group_ids, id-found, kept_after-append, kept_after-none, kept_after-one, kept_after-other, same_names, same_self}
use Rattle.cg_group_table.proofs.Removing.{ascending-without, each-without-over, found-without}
use Rattle.cg_group_table.proofs.Untouched.{calm_ticked}
use Rattle.cg_group.specs.Laws.{IsRecordedAs, TellsOf}
use Rattle.cg_group.specs.Machine.{drop_command, founded_after, is_unfounded, is_unrecorded, with_offset}
use Rattle.cg_group.proofs.Agreeing.{Holds, Whole, empty_members}
use Rattle.cg_group.proofs.AgreeingTurns.{after-ticked}
use Rattle.cg_group.proofs.KeptMachine.{Invariant, each-over, found-turns}
use Rattle.cg_group.proofs.Lasting.{takes-drop, takes-tick}
use Rattle.cg_group.proofs.Making.{makes-ticked}
use Rattle.cg_group.proofs.Sparing.{IsTaking, spared, spared-other, spares, stays_spared}

-- the group under other offsets, of which it has one if it had one before
pub whole_under : (events : List (Event × ℕ)) (old new : OffsetMap) (g : Group) (o : Option GroupRecord) → (HasOffset old g.id → HasOffset new g.id) → Whole events old g o → Whole events new g o
whole_under events old new g o over h = record {
  common = h.common;
  holds = h.holds;
  named = h.named;
  quiet = h.quiet;
  typed = λ e. over (h.typed e);
}

-- what is left of offsets

-- a group that is not bare has an offset, with the key of its first row
not_bare : (offsets : OffsetMap) (id : List ℕ) → is_bare offsets id ≡ false → HasOffset offsets id
not_bare offsets id e = by_rows (offsets_in offsets id) refl e
  where
    by_rows : (rows : List KeptRow) → offsets_in offsets id ≡ rows → is_nil rows ≡ false → HasOffset offsets id
    by_rows [] is e = absurd (false≢true (sym e))
    by_rows (row ∷ rows) is e =
        let first : is_some (find {X = StoredOffset} partition_cmp row.0 (row ∷ rows)) ≡ true = ap (λ b. is_some (cond b (Some row.1) (find {X = StoredOffset} partition_cmp row.0 rows))) ((eq_by_cmp_equiv partition_total).refl row.0) in
        record {
          key = key_of id row.0;
          own = refl;
          stored = ap is_some (sym (find-offsets_in (key_of id row.0) offsets)) ∙ ap (λ rs. is_some (find {X = StoredOffset} partition_cmp row.0 rs)) is ∙ first;
        }

-- the offset of a group that each command spares
has-spared : (offsets : OffsetMap) (cs : List Command) (id : List ℕ) (h : HasOffset offsets id) → Each IsTaking cs → list_all (spares h.key) cs ≡ true → HasOffset (offsets_after offsets cs) id
has-spared offsets cs id h takes all = record { key = h.key; own = h.own; stored = stays_spared offsets cs h.key takes all h.stored }

-- records

-- an expired or dropped offset changes no record
kept-same : (kept : Kept) (c : Command) (b : Bool) (id : List ℕ) → (if b then kept id else kept id) ≡ kept id
kept-same kept c true id = refl
kept-same kept c false id = refl

kept-expiries : (most : ℕ) (group : List ℕ) (ps : List TopicPartition) (kept : Kept) (id : List ℕ) → kept_after kept (expiries most group ps) id ≡ kept id
unfolding expiries kept_after
kept-expiries zero group ps kept id = refl
kept-expiries (suc most) group [] kept id = refl
kept-expiries (suc most) group (p ∷ ps) kept id =
    kept-expiries most group (drop ENTRIES_MAX (p ∷ ps)) (λ x. if is_same group x then kept x else kept x) id
    ∙ (elim (is_same group id) as (λ b. (if b then kept id else kept id) ≡ kept id) [ true ↦ refl | false ↦ refl ])

kept-drop : (group : List ℕ) (ps : List TopicPartition) (kept : Kept) (id : List ℕ) → kept_after kept (drop_command group ps) id ≡ kept id
unfolding kept_after
kept-drop group [] kept id = refl
kept-drop group (p ∷ ps) kept id = elim (is_same group id) as (λ b. (if b then kept id else kept id) ≡ kept id) [ true ↦ refl | false ↦ refl ]

-- what the commands leave of the offsets is spared by what expires in the group
abbrev SparesLater : ℕ → ℕ → OffsetMap → OffsetMap → Group → Type 0
SparesLater loaded now offsets later g = (key : OffsetKey) → is_some (finmap.get later key) ≡ true → list_all (spares key) (expiring loaded now offsets g) ≡ true

-- no offset of a group is left after its deletion
bare-deleted : (later : OffsetMap) (id : List ℕ) → ((key : OffsetKey) → is_some (finmap.get later key) ≡ true → (is_of_other id key && true) ≡ true) → is_bare later id ≡ true
bare-deleted later id spare = go (is_bare later id) refl
  where
    go : (b : Bool) → is_bare later id ≡ b → b ≡ true
    go true e = refl
    go false e =
        let h = not_bare later id e in
        let own : is_same h.key.group id ≡ true = ap (λ x. is_same x id) h.own ∙ same_self id in
        absurd (false≢true (sym (ap (λ b. not b && true) own) ∙ spare h.key h.stored))

-- what expires in a group of which something is left changes no record
kept-lasting_as : (b : Bool) (loaded now : ℕ) (offsets later : OffsetMap) (g : Group) (kept : Kept) (id : List ℕ)
    → ((key : OffsetKey) → is_some (finmap.get later key) ≡ true → list_all (spares key) (expiring_as b loaded now offsets g) ≡ true)
    → (not (is_nil (expiring_as b loaded now offsets g)) && is_bare later g.id) ≡ false → kept_after kept (expiring_as b loaded now offsets g) id ≡ kept id
unfolding expiring_as
kept-lasting_as true loaded now offsets later g kept id spare e =
    (elim (is_stale loaded now g.emptied) as (λ b. let cs : List Command = if b then command.Deleted (record { group = g.id }) ∷ [] else [] in
    ((key : OffsetKey) → is_some (finmap.get later key) ≡ true → list_all (spares key) cs ≡ true) → (not (is_nil cs) && is_bare later g.id) ≡ false → kept_after kept cs id ≡ kept id) [
      | true ↦ λ spare e. absurd (false≢true (sym e ∙ bare-deleted later g.id spare))
      | false ↦ λ _ e. ap (λ k. k id) (kept_after-none kept)
    ]) spare e
kept-lasting_as false loaded now offsets later g kept id spare e = kept-expiries EXPIRED_COMMANDS_MAX g.id (stale_of loaded now (offsets_in offsets g.id)) kept id

kept-lasting_if : (b : Bool) (loaded now : ℕ) (offsets later : OffsetMap) (g : Group) (kept : Kept) (id : List ℕ)
    → ((key : OffsetKey) → is_some (finmap.get later key) ≡ true → list_all (spares key) (expiring_if b loaded now offsets g) ≡ true)
    → (not (is_nil (expiring_if b loaded now offsets g)) && is_bare later g.id) ≡ false → kept_after kept (expiring_if b loaded now offsets g) id ≡ kept id
unfolding expiring_if
kept-lasting_if true loaded now offsets later g kept id spare e = kept-lasting_as (is_some g.kind) loaded now offsets later g kept id spare e
kept-lasting_if false loaded now offsets later g kept id spare e = ap (λ k. k id) (kept_after-none kept)

kept-lasting : (loaded now : ℕ) (offsets later : OffsetMap) (g : Group) (kept : Kept) (id : List ℕ) → SparesLater loaded now offsets later g → goes loaded now offsets later g ≡ false → kept_after kept (expiring loaded now offsets g) id ≡ kept id
kept-lasting loaded now offsets later g kept id spare e = kept-lasting_if (is_vacant g) loaded now offsets later g kept id spare e

pub idle_is : (p : Phase) → is_idle p ≡ true → p ≡ Empty
idle_is Empty e = refl
idle_is Preparing e = absurd (false≢true e)
idle_is Completing e = absurd (false≢true e)
idle_is Stable e = absurd (false≢true e)

-- a tick changes no group without members
pub calm_empty : (now : ℕ) (g : Group) → g.phase ≡ Empty → g.members ≡ [] → ticked now g ≡ turn_of g
unfolding is_ready
calm_empty now g phase members =
    calm_ticked now g
    (ap (λ ms. list_any (is_overdue now) ms || (is_ready g || is_due now g)) members
    ∙ ap (λ p. (is_preparing p && list_all (is_waiting Joins) g.members) || (is_preparing p && nat_le (g.started + greatest_rebalance g.members) now)) phase)

unrecorded : (g : Group) (o : Option GroupRecord) → g.kind ≡ None → TellsOf g o → o ≡ None
unrecorded g None kind h = refl
unrecorded g (Some r) kind h = by_members r.members h
  where
    by_members : (m : RecordedMembers) → IsRecordedAs r m g → Some r ≡ None
    by_members (recorded.Roster roster) h = let bad : Some r.kind ≡ None = h.kind ∙ kind in cc
    by_members (recorded.Empty moment) h = let bad : Some r.kind ≡ None = h.kind ∙ kind in cc

own-expiries : (most : ℕ) (group : List ℕ) (ps : List TopicPartition) → OfGroup group (expiries most group ps)
unfolding expiries
own-expiries zero group ps = tt
own-expiries (suc most) group [] = tt
own-expiries (suc most) group (p ∷ ps) = (refl, own-expiries most group (drop ENTRIES_MAX (p ∷ ps)))

own-expiring_as : (b : Bool) (loaded now : ℕ) (offsets : OffsetMap) (g : Group) → OfGroup g.id (expiring_as b loaded now offsets g)
unfolding expiring_as
own-expiring_as true loaded now offsets g = elim (is_stale loaded now g.emptied) as (λ b. OfGroup g.id (if b then command.Deleted (record { group = g.id }) ∷ [] else [])) [ true ↦ (refl, tt) | false ↦ tt ]
own-expiring_as false loaded now offsets g = own-expiries EXPIRED_COMMANDS_MAX g.id (stale_of loaded now (offsets_in offsets g.id))

own-expiring_if : (b : Bool) (loaded now : ℕ) (offsets : OffsetMap) (g : Group) → OfGroup g.id (expiring_if b loaded now offsets g)
unfolding expiring_if
own-expiring_if true loaded now offsets g = own-expiring_as (is_some g.kind) loaded now offsets g
own-expiring_if false loaded now offsets g = tt

own-expiring : (loaded now : ℕ) (offsets : OffsetMap) (g : Group) → OfGroup g.id (expiring loaded now offsets g)
own-expiring loaded now offsets g = own-expiring_if (is_vacant g) loaded now offsets g

all-each : {X : Type 0} (p : X → Bool) (xs : List X) → Each (λ x. p x ≡ true) xs → list_all p xs ≡ true
all-each p [] h = refl
all-each p (x ∷ xs) h = and_from (p x) (list_all p xs) h.0 (all-each p xs h.1)

nil_is : {X : Type 0} (xs : List X) → is_nil xs ≡ true → xs ≡ []
nil_is [] e = refl
nil_is (x ∷ xs) e = absurd (false≢true e)

none_given : (o : Option (List ℕ)) → is_some o ≡ false → o ≡ None
none_given None e = refl
none_given (Some x) e = absurd (false≢true (sym e))

before-filter : (x : List ℕ) (p : Group → Bool) (gs : List Group) → ComesBefore x (group_ids gs) → ComesBefore x (group_ids (filter p gs))
before-filter x p [] h = tt
before-filter x p (g ∷ gs) h = elim (p g) as (λ b. ComesBefore x (group_ids (cond b (g ∷ filter p gs) (filter p gs)))) [ true ↦ (h.0, before-filter x p gs h.1) | false ↦ before-filter x p gs h.1 ]

pub ascending-filter : (p : Group → Bool) (gs : List Group) → Ascending (group_ids gs) → Ascending (group_ids (filter p gs))
ascending-filter p [] h = tt
ascending-filter p (g ∷ gs) h = elim (p g) as (λ b. Ascending (group_ids (cond b (g ∷ filter p gs) (filter p gs)))) [ true ↦ (before-filter g.id p gs h.0, ascending-filter p gs h.1) | false ↦ ascending-filter p gs h.1 ]

either : (a b : Bool) → (a || b) ≡ true → (a ≡ true → b ≡ true) → b ≡ true
either true b e k = k refl
either false b e k = e

-- a record after commands of these groups was there before, or is one of theirs
held-commands : (id : List ℕ) (kept : Kept) (commands : Group → List Command) → ((g : Group) → OfGroup g.id (commands g)) → (gs : List Group) → is_some (kept_after kept (flat_map commands gs) id) ≡ true → (is_some (kept id) || is_some (find_group id gs)) ≡ true
unfolding find_group
held-commands id kept commands own [] e = or_left (is_some (kept id)) false (ap (λ k. is_some (k id)) (sym (kept_after-none kept)) ∙ e)
held-commands id kept commands own (g ∷ gs) e =
    let first : Kept = kept_after kept (commands g) in
    let rest : List Command = flat_map commands gs in
    let whole : is_some (kept_after first rest id) ≡ true = ap (λ k. is_some (k id)) (sym (kept_after-append kept (commands g) rest)) ∙ e in
    (elim (is_same g.id id) as (λ b. is_same g.id id ≡ b → (is_some (kept id) || is_some (cond b (Some g) (find_group id gs))) ≡ true) [
      | true ↦ λ d. or_right (is_some (kept id)) true refl
      | false ↦ λ d. ap (λ o. is_some o || is_some (find_group id gs)) (sym (kept_after-other g.id id kept (commands g) (own g) d)) ∙ held-commands id first commands own gs whole
    ]) refl

module _ (events : List (Event × ℕ)) (loaded now : ℕ) (offsets later : OffsetMap) where
  abbrev C : Group → List Command
  C g = (swept loaded now offsets g).commands

  framed-swept : (g : Group) → OfGroup g.id (C g)
  framed-swept g =
      each-append (λ c. group_of c ≡ g.id) (ticked now g).commands (expiring loaded now offsets g) (framed-ticked now g).1 (own-expiring loaded now offsets g)

  quiet-ticks : (key : OffsetKey) (g : Group) → list_all (spares key) (ticked now g).commands ≡ true
  quiet-ticks key g = all-each (spares key) (ticked now g).commands (makes-ticked (λ c. spares key c ≡ true) (λ _ _. refl) (λ _ _. refl) now g)

  -- the commands of the other groups spare the offsets of a group
  spared-after : (x : List ℕ) (key : OffsetKey) → key.group ≡ x → (gs : List Group) → ComesBefore x (group_ids gs) → list_all (spares key) (flat_map C gs) ≡ true
  spared-after x key own [] before = refl
  spared-after x key own (g ∷ gs) before =
      list_all-append (spares key) (C g) (flat_map C gs)
      ∙ and_from (list_all (spares key) (C g)) (list_all (spares key) (flat_map C gs))
      (spared-other g.id key (C g) (framed-swept g) (ap (is_same g.id) own ∙ nat_list_eq_equiv.symm g.id x ∙ differs_from_order x g.id Less before.0 refl))
      (spared-after x key own gs before.1)

  -- a key that the commands of its own group spare is spared by all
  abbrev SparedByAll : List Command → Group → Type 0
  SparedByAll all g = (key : OffsetKey) → key.group ≡ g.id → list_all (spares key) (C g) ≡ true → list_all (spares key) all ≡ true

  all-spared : (gs : List Group) → Ascending (group_ids gs) → Each (SparedByAll (flat_map C gs)) gs
  all-spared [] a = tt
  all-spared (g ∷ gs) a = (
    λ key own all.
        list_all-append (spares key) (C g) (flat_map C gs)
        ∙ and_from (list_all (spares key) (C g)) (list_all (spares key) (flat_map C gs)) all (spared-after g.id key own gs a.0),
    each-after (SparedByAll (flat_map C gs)) (SparedByAll (C g ++ flat_map C gs)) g.id gs
        (λ k d by key own all.
        list_all-append (spares key) (C g) (flat_map C gs)
        ∙ and_from (list_all (spares key) (C g)) (list_all (spares key) (flat_map C gs)) (spared-other g.id key (C g) (framed-swept g) (ap (is_same g.id) own ∙ d)) (by key own all))
        a.0 (all-spared gs a.1),
  )

  -- a group of which something is left, and which had an offset, has one
  keeps_one : (all : List Command) → Each IsTaking all → later ≡ offsets_after offsets all → (g : Group) → goes loaded now offsets later g ≡ false → SparedByAll all g → HasOffset offsets g.id → HasOffset later g.id
  keeps_one all takes is g lasts by h =
      (elim (is_nil (expiring loaded now offsets g)) as (λ b. is_nil (expiring loaded now offsets g) ≡ b → HasOffset later g.id) [
        | true ↦ λ none.
            let P : OffsetMap → Type 0 = λ o. HasOffset o g.id in
            subst P (sym is) (has-spared offsets all g.id h takes (by h.key h.own
            (list_all-append (spares h.key) (ticked now g).commands (expiring loaded now offsets g)
            ∙ and_from (list_all (spares h.key) (ticked now g).commands) (list_all (spares h.key) (expiring loaded now offsets g)) (quiet-ticks h.key g)
            (ap (list_all (spares h.key)) (nil_is (expiring loaded now offsets g) none)))))
        | false ↦ λ some. not_bare later g.id (ap (λ b. not b && is_bare later g.id) (sym some) ∙ lasts)
      ]) refl

  -- the records before the first of these groups stay as they are
  kept-before : (x : List ℕ) (kept : Kept) (gs : List Group) → ComesBefore x (group_ids gs) → kept_after kept (flat_map C gs) x ≡ kept x
  kept-before x kept [] h = ap (λ k. k x) (kept_after-none kept)
  kept-before x kept (g ∷ gs) h =
      ap (λ k. k x) (kept_after-append kept (C g) (flat_map C gs))
      ∙ kept-before x (kept_after kept (C g)) gs h.1
      ∙ kept_after-other g.id x kept (C g) (framed-swept g) (nat_list_eq_equiv.symm g.id x ∙ differs_from_order x g.id Less h.0 refl)

  -- a group of which nothing is left has no record afterwards
  kept-gone : (kept : Kept) (g : Group) → Whole events offsets g (kept g.id) → goes loaded now offsets later g ≡ true → kept_after kept (C g) g.id ≡ None
  unfolding expiring_as expiring_if
  kept-gone kept g h gone = by_vacant (is_vacant g) refl (and_parts (expires loaded now offsets g) (is_bare later g.id) gone).0
    where
      calm : g.phase ≡ Empty → (cs : List Command) → expiring loaded now offsets g ≡ cs → kept_after kept (C g) g.id ≡ kept_after kept cs g.id
      calm phase cs is = ap (λ ds. kept_after kept ds g.id) (ap (λ (t : Turn). t.commands ++ expiring loaded now offsets g) (calm_empty now g phase (empty_members events offsets g (kept g.id) h phase)) ∙ is)

      by_kind : g.phase ≡ Empty → (k : Bool) → is_some g.kind ≡ k → not (is_nil (expiring_as k loaded now offsets g)) ≡ true → expiring loaded now offsets g ≡ expiring_as k loaded now offsets g → kept_after kept (C g) g.id ≡ None
      by_kind phase true kind some is =
          (elim (is_stale loaded now g.emptied) as (λ b. let cs : List Command = if b then command.Deleted (record { group = g.id }) ∷ [] else [] in not (is_nil cs) ≡ true → expiring loaded now offsets g ≡ cs → kept_after kept (C g) g.id ≡ None) [
            | true ↦ λ _ is. calm phase _ is ∙ kept_after-one kept (command.Deleted (record { group = g.id })) g.id refl
            | false ↦ λ bad _. absurd (false≢true bad)
          ]) some is
      by_kind phase false kind some is =
          calm phase _ is
          ∙ kept-expiries EXPIRED_COMMANDS_MAX g.id (stale_of loaded now (offsets_in offsets g.id)) kept g.id
          ∙ unrecorded g (kept g.id) (none_given g.kind kind) (let P : Phase → Type 0 = λ p. Holds p g (kept g.id) in subst P phase h.holds)

      by_vacant : (b : Bool) → is_vacant g ≡ b → not (is_nil (expiring_if b loaded now offsets g)) ≡ true → kept_after kept (C g) g.id ≡ None
      by_vacant true vacant some = by_kind (idle_is g.phase (and_parts (is_idle g.phase) (is_empty g.members) vacant).0) (is_some g.kind) refl some (ap (λ b. expiring_if b loaded now offsets g) vacant)
      by_vacant false vacant some = absurd (false≢true some)

  -- the groups of which something is left agree with their records
  each-swept : (kept : Kept) (gs : List Group) → Ascending (group_ids gs) → Each (λ g. Whole events offsets g (kept g.id)) gs → Each (SparesLater loaded now offsets later) gs
      → Each (λ g. goes loaded now offsets later g ≡ false → HasOffset offsets g.id → HasOffset later g.id) gs
      → Each (λ g. Whole events later g (kept_after kept (flat_map C gs) g.id)) (groups_after (ticked now) (lasting loaded now offsets later gs))
  each-swept kept [] a h spare has = tt
  each-swept kept (g ∷ gs) a h spare has =
      let first : Kept = kept_after kept (C g) in
      let rest : List Command = flat_map C gs in
      let whole : kept_after kept (C g ++ rest) ≡ kept_after first rest = kept_after-append kept (C g) rest in
      let others : Each (λ k. Whole events offsets k (first k.id)) gs =
      each-after (λ k. Whole events offsets k (kept k.id)) (λ k. Whole events offsets k (first k.id)) g.id gs
      (λ k d i. let R : Option GroupRecord → Type 0 = λ o. Whole events offsets k o in subst R (sym (kept_after-other g.id k.id kept (C g) (framed-swept g) d)) i) a.0 h.1 in
      let more = each-swept first gs a.1 others spare.1 has.1 in
      let P : Kept → Type 0 = λ k. Each (λ g. Whole events later g (k g.id)) (groups_after (ticked now) (lasting loaded now offsets later (g ∷ gs))) in
      subst P (sym whole)
      ((elim (goes loaded now offsets later g) as (λ b. goes loaded now offsets later g ≡ b → Each (λ g. Whole events later g (kept_after first rest g.id)) (groups_after (ticked now) (cond (not b) (g ∷ lasting loaded now offsets later gs) (lasting loaded now offsets later gs)))) [
        | true ↦ λ _. more
        | false ↦ λ lasts.
            let own : kept_after first rest (ticked now g).group.id ≡ kept_after kept (ticked now g).commands g.id =
            ap (kept_after first rest) (framed-ticked now g).0 ∙ kept-before g.id first gs a.0
            ∙ ap (λ k. k g.id) (kept_after-append kept (ticked now g).commands (expiring loaded now offsets g))
            ∙ kept-lasting loaded now offsets later g (kept_after kept (ticked now g).commands) g.id spare.0 lasts in
            let Q : Option GroupRecord → Type 0 = λ o. Whole events later (ticked now g).group o in
            let H : List ℕ → Type 0 = λ i. HasOffset offsets i → HasOffset later i in
            (subst Q (sym own) (whole_under events offsets later (ticked now g).group (kept_after kept (ticked now g).commands g.id) (subst H (sym (framed-ticked now g).0) (has.0 lasts)) (after-ticked events offsets kept now g h.0)), more)
      ]) refl)

  -- each group with a record after the tick is one of which something is left
  held-lasting : (id : List ℕ) (kept : Kept) (gs : List Group) → Ascending (group_ids gs) → Each (λ g. Whole events offsets g (kept g.id)) gs → is_some (kept_after kept (flat_map C gs) id) ≡ true
      → is_some (find_group id gs) ≡ true → is_some (find_group id (lasting loaded now offsets later gs)) ≡ true
  unfolding find_group
  held-lasting id kept [] a h e found = found
  held-lasting id kept (g ∷ gs) a h e found =
      let first : Kept = kept_after kept (C g) in
      let rest : List Command = flat_map C gs in
      let still : is_some (kept_after first rest id) ≡ true = ap (λ k. is_some (k id)) (sym (kept_after-append kept (C g) rest)) ∙ e in
      let others : Each (λ k. Whole events offsets k (first k.id)) gs =
      each-after (λ k. Whole events offsets k (kept k.id)) (λ k. Whole events offsets k (first k.id)) g.id gs
      (λ k d i. let R : Option GroupRecord → Type 0 = λ o. Whole events offsets k o in subst R (sym (kept_after-other g.id k.id kept (C g) (framed-swept g) d)) i) a.0 h.1 in
      (elim (goes loaded now offsets later g) as (λ b. goes loaded now offsets later g ≡ b → is_some (find_group id (cond (not b) (g ∷ lasting loaded now offsets later gs) (lasting loaded now offsets later gs))) ≡ true) [
        | true ↦ λ gone.
            (elim (is_same g.id id) as (λ b. is_same g.id id ≡ b → is_some (cond b (Some g) (find_group id gs)) ≡ true → is_some (find_group id (lasting loaded now offsets later gs)) ≡ true) [
              | true ↦ λ same _.
                  let none : kept_after first rest id ≡ None = ap (kept_after first rest) (sym (same_names g.id id same)) ∙ kept-before g.id first gs a.0 ∙ kept-gone kept g h.0 gone in
                  absurd (false≢true (sym (ap is_some none) ∙ still))
              | false ↦ λ _ found. held-lasting id first gs a.1 others still found
            ]) refl found
        | false ↦ λ _.
            (elim (is_same g.id id) as (λ b. is_some (cond b (Some g) (find_group id gs)) ≡ true → is_some (cond b (Some g) (find_group id (lasting loaded now offsets later gs))) ≡ true) [
              | true ↦ λ _. refl
              | false ↦ λ found. held-lasting id first gs a.1 others still found
            ]) found
      ]) refl

  own-parts : (key : OffsetKey) (gs : List Group) → list_all (spares key) (flat_map C gs) ≡ true → Each (λ g. list_all (spares key) (expiring loaded now offsets g) ≡ true) gs
  own-parts key [] all = tt
  own-parts key (g ∷ gs) all =
      let parts = and_parts (list_all (spares key) (C g)) (list_all (spares key) (flat_map C gs)) (sym (list_all-append (spares key) (C g) (flat_map C gs)) ∙ all) in
      ((and_parts (list_all (spares key) (ticked now g).commands) (list_all (spares key) (expiring loaded now offsets g)) (sym (list_all-append (spares key) (ticked now g).commands (expiring loaded now offsets g)) ∙ parts.0)).1, own-parts key gs parts.1)

  each-spared : (gs : List Group) → ((key : OffsetKey) → is_some (finmap.get later key) ≡ true → Each (λ g. list_all (spares key) (expiring loaded now offsets g) ≡ true) gs) → Each (SparesLater loaded now offsets later) gs
  each-spared [] h = tt
  each-spared (g ∷ gs) h = ((λ key e. (h key e).0), each-spared gs (λ key e. (h key e).1))

  ascending-after : (gs : List Group) → Ascending (group_ids gs) → Ascending (group_ids (groups_after (ticked now) (lasting loaded now offsets later gs)))
  ascending-after gs a = subst (λ (xs : List (List ℕ)). Ascending xs) (sym (ids_ticked (lasting loaded now offsets later gs))) (ascending-filter (λ g. not (goes loaded now offsets later g)) gs a)
    where
      ids_ticked : (gs : List Group) → group_ids (groups_after (ticked now) gs) ≡ group_ids gs
      ids_ticked [] = refl
      ids_ticked (g ∷ gs) = ap (λ x. x ∷ group_ids (groups_after (ticked now) gs)) (framed-ticked now g).0 ∙ ap (λ xs. g.id ∷ xs) (ids_ticked gs)

pub whole-tick : (events : List (Event × ℕ)) (kept : Kept) (s : Machine) → Invariant (Whole events s.offsets) s.groups kept
    → Invariant (Whole events (offsets_after s.offsets (tick s).effects.commands)) (tick s).after.groups (kept_after kept (tick s).effects.commands)
unfolding tick
whole-tick events kept s v =
    let all : List Command = (tick_effects s).commands in
    let later : OffsetMap = offsets_after s.offsets all in
    record {
      ascending = ascending-after events s.loaded s.last s.offsets later s.groups v.ascending;
      each = each-swept events s.loaded s.last s.offsets later kept s.groups v.ascending v.each
          (each-spared events s.loaded s.last s.offsets later s.groups (λ key e. own-parts events s.loaded s.last s.offsets later key s.groups (spared s.offsets all key (takes-tick s) e).0))
          (each-over (SparedByAll events s.loaded s.last s.offsets later all) (λ g. goes s.loaded s.last s.offsets later g ≡ false → HasOffset s.offsets g.id → HasOffset later g.id)
          (λ g by lasts h. keeps_one events s.loaded s.last s.offsets later all (takes-tick s) refl g lasts by h) s.groups (all-spared events s.loaded s.last s.offsets later s.groups v.ascending));
      held = λ id e.
          found-turns (ticked s.last) (framed-ticked s.last) id (lasting s.loaded s.last s.offsets later s.groups)
          ∙ held-lasting events s.loaded s.last s.offsets later id kept s.groups v.ascending v.each e (either_held id e);
    }
  where
    either_held : (id : List ℕ) → is_some (kept_after kept (tick_effects s).commands id) ≡ true → is_some (find_group id s.groups) ≡ true
    either_held id e =
        either (is_some (kept id)) (is_some (find_group id s.groups))
        (held-commands id kept (λ g. (swept s.loaded s.last s.offsets g).commands) (framed-swept events s.loaded s.last s.offsets s.offsets) s.groups e) (v.held id)

-- ---- a drop

-- a group without a type has no record, in any phase
none_kept : (p : Phase) (g : Group) (o : Option GroupRecord) → g.kind ≡ None → Holds p g o → o ≡ None
none_kept Stable g o kind h = unrecorded g o kind h
none_kept Empty g o kind h = unrecorded g o kind h
none_kept Preparing g o kind h = absurd (false≢true (sym (ap is_some kind) ∙ h))
none_kept Completing g o kind h = absurd (false≢true (sym (ap is_some kind) ∙ h.0))

each-both : {X : Type 0} (P Q : X → Type 0) (xs : List X) → Each P xs → Each Q xs → Each (λ x. P x × Q x) xs
each-both P Q [] h k = tt
each-both P Q (x ∷ xs) h k = ((h.0, k.0), each-both P Q xs h.1 k.1)

own-drop : (id : List ℕ) (ps : List TopicPartition) → OfGroup id (drop_command id ps)
own-drop id [] = tt
own-drop id (p ∷ ps) = (refl, tt)

module _ (events : List (Event × ℕ)) (kept : Kept) (s : Machine) (id : List ℕ) (partitions : List TopicPartition) (v : Invariant (Whole events s.offsets) s.groups kept) where
  abbrev dropping : List Command
  dropping = drop_command id (with_offset s.offsets id partitions)

  abbrev later : OffsetMap
  later = offsets_after s.offsets dropping

  -- a group that agrees with its record still does if it has an offset or a type
  whole-later : (g : Group) → (g.kind ≡ None → HasOffset s.offsets g.id → HasOffset later g.id) → Whole events s.offsets g (kept g.id) → Whole events later g (kept_after kept dropping g.id)
  whole-later g over h =
      let P : Option GroupRecord → Type 0 = λ o. Whole events later g o in
      subst P (sym (kept-drop id (with_offset s.offsets id partitions) kept g.id)) (record {
        common = h.common;
        holds = h.holds;
        named = h.named;
        quiet = h.quiet;
        typed = λ e. over e (h.typed e);
      })

  has-other : (g : Group) → is_same id g.id ≡ false → HasOffset s.offsets g.id → HasOffset later g.id
  has-other g apart h = has-spared s.offsets dropping g.id h (takes-drop id s.offsets partitions) (spared-other id h.key dropping (own-drop id (with_offset s.offsets id partitions)) (ap (is_same id) h.own ∙ apart))

  -- the group of the drop, which stays
  has-own : (g : Group) → is_same id g.id ≡ true → (not (is_nil dropping) && is_unfounded later s.groups id) ≡ false → ((o : Option Group) → find_group id s.groups ≡ o → is_unrecorded o ≡ true) → HasOffset s.offsets g.id → HasOffset later g.id
  has-own g same stays typeless h =
      (elim (is_nil dropping) as (λ b. is_nil dropping ≡ b → (not b && is_unfounded later s.groups id) ≡ false → HasOffset later g.id) [
        | true ↦ λ none _. let P : List Command → Type 0 = λ cs. HasOffset (offsets_after s.offsets cs) g.id in subst P (sym (nil_is dropping none)) h
        | false ↦ λ _ kept_on.
            let bare : is_bare later id ≡ false = not_both (is_bare later id) (is_unrecorded (find_group id s.groups)) kept_on (typeless (find_group id s.groups) refl) in
            let P : List ℕ → Type 0 = λ x. HasOffset later x in subst P (same_names id g.id same) (not_bare later id bare)
      ]) refl stays
    where
      not_both : (a b : Bool) → (a && b) ≡ false → b ≡ true → a ≡ false
      not_both true b e k = absurd (false≢true (sym e ∙ k))
      not_both false b e k = refl

  typeless_alone : (g : Group) → is_same id g.id ≡ true → g.kind ≡ None → (o : Option Group) → find_group id s.groups ≡ o → (is_same g.id id ≡ true → IfSome o (λ k. g ≡ k)) → is_unrecorded o ≡ true
  typeless_alone g same kind None found alone = refl
  typeless_alone g same kind (Some k) found alone = ap (λ o. not (is_some o)) (ap (λ (x : Group). x.kind) (sym (alone (nat_list_eq_equiv.symm g.id id ∙ same))) ∙ kind)

  alone : Each (λ g. is_same g.id id ≡ true → IfSome (find_group id s.groups) (λ k. g ≡ k)) s.groups
  alone = by_found (find_group id s.groups) refl
    where
      any_named : (gs : List Group) → Each (λ g. is_same g.id id ≡ true → IfSome None (λ k. g ≡ k)) gs
      any_named [] = tt
      any_named (g ∷ gs) = (λ _. tt, any_named gs)

      by_found : (o : Option Group) → find_group id s.groups ≡ o → Each (λ g. is_same g.id id ≡ true → IfSome o (λ k. g ≡ k)) s.groups
      by_found None e = any_named s.groups
      by_found (Some k) e = found_alone id s.groups k v.ascending e

  each-drop_stays : (not (is_nil dropping) && is_unfounded later s.groups id) ≡ false → Each (λ g. Whole events later g (kept_after kept dropping g.id)) s.groups
  each-drop_stays stays =
      each-over (λ g. Whole events s.offsets g (kept g.id) × (is_same g.id id ≡ true → IfSome (find_group id s.groups) (λ k. g ≡ k))) (λ g. Whole events later g (kept_after kept dropping g.id))
      (λ g h. whole-later g (λ kind old. by_same g kind old h.1 (is_same id g.id) refl) h.0) s.groups
      (each-both (λ g. Whole events s.offsets g (kept g.id)) (λ g. is_same g.id id ≡ true → IfSome (find_group id s.groups) (λ k. g ≡ k)) s.groups v.each alone)
    where
      by_same : (g : Group) → g.kind ≡ None → HasOffset s.offsets g.id → (is_same g.id id ≡ true → IfSome (find_group id s.groups) (λ k. g ≡ k)) → (b : Bool) → is_same id g.id ≡ b → HasOffset later g.id
      by_same g kind old one true same = has-own g same stays (λ o found. typeless_alone g same kind o found (λ t. let P : Option Group → Type 0 = λ x. IfSome x (λ k. g ≡ k) in subst P found (one t))) old
      by_same g kind old one false apart = has-other g apart old

  kept_back : (x : List ℕ) → is_some (kept_after kept dropping x) ≡ true → is_some (kept x) ≡ true
  kept_back x e = ap is_some (sym (kept-drop id (with_offset s.offsets id partitions) kept x)) ∙ e

  -- a group without a type has no record
  none_there : is_unrecorded (find_group id s.groups) ≡ true → is_some (kept id) ≡ true → ⊥
  none_there typeless there = by_found (find_group id s.groups) refl typeless (v.held id there)
    where
      by_found : (o : Option Group) → find_group id s.groups ≡ o → is_unrecorded o ≡ true → is_some o ≡ true → ⊥
      by_found None e t found = false≢true found
      by_found (Some g) e t found =
          let h = each-found (λ k. Whole events s.offsets k (kept k.id)) id s.groups g e v.each in
          let kind : g.kind ≡ None = none_given g.kind (not-true (is_some g.kind) t) in
          let named : g.id ≡ id = same_names g.id id (id-found id s.groups g e) in
          false≢true (sym (ap is_some (sym (ap kept named) ∙ none_kept g.phase g (kept g.id) kind h.holds)) ∙ there)

  held-drop : (gone : (not (is_nil dropping) && is_unfounded later s.groups id) ≡ true) (x : List ℕ) → is_some (kept_after kept dropping x) ≡ true → is_some (find_group x (without_group id s.groups)) ≡ true
  held-drop gone x e =
      (elim (is_same id x) as (λ b. is_same id x ≡ b → is_some (find_group x (without_group id s.groups)) ≡ true) [
        | true ↦ λ same.
            let parts = and_parts (is_bare later id) (is_unrecorded (find_group id s.groups)) (and_parts (not (is_nil dropping)) (is_unfounded later s.groups id) gone).1 in
            absurd (none_there parts.1 (ap (λ i. is_some (kept i)) (same_names id x same) ∙ kept_back x e))
        | false ↦ λ apart. found-without id x s.groups apart (v.held x (kept_back x e))
      ]) refl

  pub whole-drop : Invariant (Whole events later) (founded_after s.offsets dropping id s.groups) (kept_after kept dropping)
  whole-drop =
      (elim (not (is_nil dropping) && is_unfounded later s.groups id) as (λ b. (not (is_nil dropping) && is_unfounded later s.groups id) ≡ b → Invariant (Whole events later) (if b then without_group id s.groups else s.groups) (kept_after kept dropping)) [
        | true ↦ λ gone. record {
          ascending = ascending-without id s.groups v.ascending;
          each = each-without-over (λ g. Whole events s.offsets g (kept g.id)) (λ g. Whole events later g (kept_after kept dropping g.id)) id s.groups (λ g apart h. whole-later g (λ _ old. has-other g apart old) h) v.ascending v.each;
          held = held-drop gone;
        }
        | false ↦ λ stays. record { ascending = v.ascending; each = each-drop_stays stays; held = λ x e. v.held x (kept_back x e) }
      ]) refl
