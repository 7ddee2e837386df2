use Rattle.std.proofs.Common.{◌≡◌, Some, ap, ◌∙◌, rules}
use Rattle.std.specs.BTreeMap.{is_at}
use Rattle.std.specs.Map.{lookup, set_value}
use Rattle.cg_fold.specs.Key.{name_cmp}
use Rattle.cg_fold.proofs.Taken.{replace_found, replaced_keeps_order}
use Rattle.cg_fold.proofs.records.replace_in.Goals as goal

pub returns-in-Some-clause-records : goal.returns-in-Some-clause-records
returns-in-Some-clause-records c =
    let records = c.args.records.now.entries in
    let group = c.args.group.now in
    let there : lookup (is_at (name_cmp group)) records ≡ Some c.in-Some.record.now = search rules in
    replace_found records (c.get_mut.follows.lender c.replace.new.self).entries group c.in-Some.record.now c.args.new c.requires.sorted there
    ((c.get_mut.follows.holds c.replace.new.self).0 ∙ ap (set_value (is_at (name_cmp group)) records) c.replace.ensures)

pub returns-in-Some-clause-sorted : goal.returns-in-Some-clause-sorted
returns-in-Some-clause-sorted c = replaced_keeps_order c.args.group.now c.args.new c.args.records.now.entries _ (returns-in-Some-clause-records c) c.requires.sorted
