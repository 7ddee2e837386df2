use Rattle.std.proofs.Common.{◌≡◌, ◌<◌, length, Some, None, ap, ◌∙◌, arith, rules}
use Rattle.std.specs.BTreeMap.{is_at}
use Rattle.std.specs.Map.{lookup}
use Rattle.cg_fold.specs.Key.{name_cmp}
use Rattle.cg_fold.proofs.Fewer.{fewer_absent, fewer_none, fewer_some, gone_from, held_sorted}
use Rattle.cg_fold.proofs.shelves.remove_rows.Goals as goal

pub returns-in_default-clause-others : goal.returns-in_default-clause-others
returns-in_default-clause-others c =
    let shelves = c.args.shelves.now.entries in
    let same : c.get_mut.follows.lender-at-none.entries ≡ shelves = search rules in
    let absent : lookup (is_at (name_cmp c.args.group.now)) shelves ≡ None = search rules in
    same ∙ fewer_absent shelves c.args.group.now c.args.partitions.now absent

pub take_away-rows-requires : goal.take_away-rows-requires
take_away-rows-requires c =
    let shelves = c.args.shelves.now.entries in
    let there : lookup (is_at (name_cmp c.args.group.now)) shelves ≡ Some c.in-Some.rows.now = search rules in
    held_sorted shelves (c.get_mut.follows.lender c.remove-gone.new.self).entries c.args.group.now c.args.partitions.now c.in-Some.rows.now c.remove-gone.new.self there
    (c.get_mut.follows.holds c.remove-gone.new.self).0 c.remove-gone.ensures.rows c.requires

pub returns-then-is_empty-clause-others : goal.returns-then-is_empty-clause-others
returns-then-is_empty-clause-others c =
    let shelves = c.args.shelves.now.entries in
    let there : lookup (is_at (name_cmp c.args.group.now)) shelves ≡ Some c.in-Some.rows.now = search rules in
    let none : length c.as_slice.result.now ≡ 0 = search rules in
    fewer_none shelves (c.get_mut.follows.lender c.remove-gone.new.self).entries c.args.group.now c.args.partitions.now c.in-Some.rows.now c.remove-gone.new.self there
    (c.get_mut.follows.holds c.remove-gone.new.self).0 c.remove-gone.ensures.rows c.requires
    c.take_away-rows.new.kept.entries (omega (arith, none, ap length c.as_slice.ensures.value)) c.take_away-rows.ensures.entries

pub returns-then-is_empty-clause-gone : goal.returns-then-is_empty-clause-gone
returns-then-is_empty-clause-gone c =
    let shelves = c.args.shelves.now.entries in
    let there : lookup (is_at (name_cmp c.args.group.now)) shelves ≡ Some c.in-Some.rows.now = search rules in
    gone_from shelves (c.get_mut.follows.lender c.remove-gone.new.self).entries c.args.group.now c.args.partitions.now c.in-Some.rows.now c.remove-gone.new.self there
    (c.get_mut.follows.holds c.remove-gone.new.self).0 c.remove-gone.ensures.rows c.requires
    c.take_away-rows.new.kept.entries c.remove-gone.result (returns-then-is_empty-clause-others c) c.remove-gone.ensures.gone

pub returns-else-is_empty-clause-others : goal.returns-else-is_empty-clause-others
returns-else-is_empty-clause-others c =
    let shelves = c.args.shelves.now.entries in
    let there : lookup (is_at (name_cmp c.args.group.now)) shelves ≡ Some c.in-Some.rows.now = search rules in
    let some : 0 < length c.as_slice.result.now = search rules in
    fewer_some shelves (c.get_mut.follows.lender c.remove-gone.new.self).entries c.args.group.now c.args.partitions.now c.in-Some.rows.now c.remove-gone.new.self there
    (c.get_mut.follows.holds c.remove-gone.new.self).0 c.remove-gone.ensures.rows c.requires
    (omega (arith, some, ap length c.as_slice.ensures.value))
