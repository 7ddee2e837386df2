-- The commands of the first group of a state, and those of the others.
use Rattle.std.proofs.Common.{◌≡◌, ℕ, List, [], ◌∷◌, ◌++◌, length, map as each, Option, Some, None, cond, ap, sym, ◌∙◌, refl, subst, arith, append-nil}
use Rattle.std.specs.Prelude.{flat_map}
use Rattle.std.specs.Option.{option_to_list}
use Rattle.std.specs.Ordering.{is_eq, ordering_reverse}
use Rattle.std.specs.declared.cmp.Ordering.TheVariants.{Less}
use Rattle.std.specs.FinMap.{find}
use Rattle.cg_record.specs.declared.command.Command.{Command}
use Rattle.cg_fold.specs.declared.group_record.GroupRecord.{GroupRecord}
use Rattle.cg_fold.specs.Key.{KeptRow, name_cmp}
use Rattle.cg_fold.specs.Record.{KeptRecord}
use Rattle.cg_fold.specs.Shelf.{KeptShelf, EachShelf, rows_at, rows_on, stock}
use Rattle.cg_fold.specs.Snapshot.{Ascending, AreListed, ComesBefore, PopsFirst, commits_by, commits_of, group_commands, group_commands_by, groups_in, groups_of_either, in_order, left_of, listed, offsets_in, record_commands, snapshot_of}
use Rattle.cg_fold.proofs.KeyOrder.{name_total}
use Rattle.cg_fold.proofs.Kept.{map-get, map_of}
use Rattle.cg_fold.proofs.Names.{in_order_ascending}
use Rattle.cg_fold.proofs.Stock.{groups_of_shelves, shelves-group}

-- ---- the groups after the first

find_after : {X : Type 0} (group name : List ℕ) (value : X) (kept : List (List ℕ × X)) → name_cmp group name ≡ Less → find name_cmp name ((group, value) ∷ kept) ≡ find name_cmp name kept
find_after group name value kept before = ap (λ r. cond (is_eq r) (Some value) (find name_cmp name kept)) (name_total.antisymm name group ∙ ap ordering_reverse before)

found_after : {X : Type 0} (group name : List ℕ) (value : Option X) (old new : List (List ℕ × X)) → name_cmp group name ≡ Less → old ≡ each (λ v. (group, v)) (option_to_list value) ++ new
    → find name_cmp name old ≡ find name_cmp name new
found_after group name None old new before is = ap (find name_cmp name) is
found_after group name (Some value) old new before is = ap (find name_cmp name) is ∙ find_after group name value new before

flat_map-after : (group : List ℕ) (names : List (List ℕ)) (f h : List ℕ → List Command) → ComesBefore group names → ((name : List ℕ) → name_cmp group name ≡ Less → f name ≡ h name) → flat_map f names ≡ flat_map h names
flat_map-after group [] f h before same = refl
flat_map-after group (name ∷ names) f h before same =
    ap (λ l. l ++ flat_map f names) (same name before.0) ∙ ap (λ l. h name ++ l) (flat_map-after group names f h before.1 same)

-- ---- the commands of a group

abbrev of_group : List ℕ → Option GroupRecord → List KeptRow → List Command
of_group group held rows = record_commands group held ++ commits_of (length rows) group rows

group_commands-listed : (records : List KeptRecord) (shelves : List KeptShelf) (group : List ℕ) → AreListed records shelves
    → group_commands (listed records shelves) group ≡ of_group group (find name_cmp group records) (rows_at group shelves)
unfolding group_commands_by
group_commands-listed records shelves group are =
    let rows : rows_at group shelves ≡ offsets_in (map_of (stock shelves)) group = shelves-group group (length (stock shelves)) shelves (map_of (stock shelves)) are.are_shelves refl in
    ap (λ held. of_group group held (offsets_in (map_of (stock shelves)) group)) (map-get name_cmp records group are.by_group)
    ∙ ap (of_group group (find name_cmp group records)) (sym rows)

-- ---- what is left

each_rest : (group : List ℕ) (rows : Option (List KeptRow)) (old new : List KeptShelf) → old ≡ each (λ v. (group, v)) (option_to_list rows) ++ new → EachShelf old → EachShelf new
each_rest group None old new is all = subst EachShelf is all
each_rest group (Some rows) old new is all = (let both : EachShelf ((group, rows) ∷ new) = subst EachShelf is all in both.1)

pub listed_rest : (records records' : List KeptRecord) (shelves shelves' : List KeptShelf) (group : List ℕ) (held : Option GroupRecord) (rows : Option (List KeptRow)) → AreListed records shelves
    → PopsFirst records shelves group held rows records' shelves' → AreListed records' shelves'
listed_rest records records' shelves shelves' group held rows are pops = record {
  by_group = pops.first.left_sorted;
  are_shelves = record {
    by_group = pops.first.right_sorted;
    each = each_rest group rows shelves shelves' pops.of_right.removed are.are_shelves.each;
    counted = refl;
  };
}

groups_listed : (records : List KeptRecord) (shelves : List KeptShelf) → AreListed records shelves → groups_of_either records shelves ≡ in_order (groups_in (listed records shelves))
groups_listed records shelves are = groups_of_shelves (length (stock shelves)) records shelves (listed records shelves) are.by_group are.are_shelves refl

-- a snapshot is the commands of the first group, and then the snapshot of what is left
pub snapshot_first : (records records' : List KeptRecord) (shelves shelves' : List KeptShelf) (group : List ℕ) (held : Option GroupRecord) (rows : Option (List KeptRow)) → AreListed records shelves
    → PopsFirst records shelves group held rows records' shelves' → snapshot_of (listed records shelves) ≡ of_group group held (rows_on rows) ++ snapshot_of (listed records' shelves')
snapshot_first records records' shelves shelves' group held rows are pops =
    let now = listed records shelves in
    let next = listed records' shelves' in
    let others = groups_of_either records' shelves' in
    let are' : AreListed records' shelves' = listed_rest records records' shelves shelves' group held rows are pops in
    let names : in_order (groups_in now) ≡ group ∷ others = sym (groups_listed records shelves are) ∙ pops.first.groups in
    let ascending : Ascending (group ∷ others) = subst Ascending names (in_order_ascending (groups_in now)) in
    let first : group_commands now group ≡ of_group group held (rows_on rows) =
    group_commands-listed records shelves group are ∙ ap (λ f. of_group group f (rows_at group shelves)) pops.of_left.found ∙ ap (λ f. of_group group held (rows_on f)) pops.of_right.found in
    let same : (name : List ℕ) → name_cmp group name ≡ Less → group_commands now name ≡ group_commands next name = λ (name : List ℕ) (before : name_cmp group name ≡ Less).
    group_commands-listed records shelves name are
    ∙ ap (λ f. of_group name f (rows_at name shelves)) (found_after group name held records records' before pops.of_left.removed)
    ∙ ap (λ f. of_group name (find name_cmp name records') (rows_on f)) (found_after group name rows shelves shelves' before pops.of_right.removed)
    ∙ sym (group_commands-listed records' shelves' name are') in
    ap (flat_map (group_commands now)) names
    ∙ ap (λ l. l ++ flat_map (group_commands now) others) first
    ∙ ap (λ l. of_group group held (rows_on rows) ++ l) (flat_map-after group others (group_commands now) (group_commands next) ascending.0 same)
    ∙ ap (λ l. of_group group held (rows_on rows) ++ flat_map (group_commands next) l) (groups_listed records' shelves' are')

-- ---- in the form of the calls

pub left_first : (commands commands' : List Command) (records records' : List KeptRecord) (shelves shelves' : List KeptShelf) (group : List ℕ) (held : Option GroupRecord) (rows : Option (List KeptRow)) → AreListed records shelves
    → PopsFirst records shelves group held rows records' shelves' → commands ≡ [] → commands' ≡ of_group group held (rows_on rows) → left_of commands' records' shelves' ≡ left_of commands records shelves
left_first commands commands' records records' shelves shelves' group held rows are pops none is =
    ap (λ l. left_of l records' shelves') is ∙ sym (snapshot_first records records' shelves shelves' group held rows are pops) ∙ sym (ap (λ l. left_of l records shelves) none)

pub left_none : (commands : List Command) (records : List KeptRecord) (shelves : List KeptShelf) → AreListed records shelves → commands ≡ [] → groups_of_either records shelves ≡ [] → left_of commands records shelves ≡ []
left_none commands records shelves are none no_group =
    ap (λ l. left_of l records shelves) none ∙ ap (flat_map (group_commands (listed records shelves))) (sym (groups_listed records shelves are) ∙ no_group)

-- a group without offsets has no commits
pub commits_absent : (group : List ℕ) (rows : Option (List KeptRow)) (commands : List Command) → rows ≡ None → commands ≡ commands ++ commits_of (length (rows_on rows)) group (rows_on rows)
unfolding commits_by
commits_absent group rows commands is = sym (ap (λ r. commands ++ commits_of (length (rows_on r)) group (rows_on r)) is ∙ append-nil commands)

pub no_commands : (commands : List Command) → length commands ≡ 0 → commands ≡ []
no_commands [] none = refl
no_commands (c ∷ commands) none = absurd (omega (arith, none))
