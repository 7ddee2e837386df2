use Rattle.std.proofs.Common.{◌≡◌, Some, None, ap, ◌∙◌, rules}
use Rattle.std.proofs.lemmas.Map.Steps.{set_value_same}
use Rattle.std.specs.BTreeMap.{is_at}
use Rattle.std.specs.Map.{lookup, set_value}
use Rattle.std.specs.FinMap.{put}
use Rattle.cg_fold.specs.Key.{name_cmp, rows_of}
use Rattle.cg_fold.proofs.Added.{added_over, grown_over, grown_between, none_known}
use Rattle.cg_fold.proofs.shelves.take.Goals as goal

pub returns-in_err-grown-clause-err : goal.returns-in_err-grown-clause-err
returns-in_err-grown-clause-err c =
    let shelves = c.args.shelves.now.entries in
    let own = is_at (name_cmp c.args.commit.group) in
    let there : lookup own shelves ≡ Some c.in-Some.rows.now = search rules in
    let same : (c.get_mut.follows.lender c.take_entries.new.self).entries ≡ shelves =
    (c.get_mut.follows.holds c.take_entries.new.self).0 ∙ ap (set_value own shelves) c.in_err-grown.ensures.err ∙ set_value_same own shelves c.in-Some.rows.now there in
    search (rules, same)

pub returns-in-Some-clause-ok : goal.returns-in-Some-clause-ok
returns-in-Some-clause-ok c =
    let shelves = c.args.shelves.now.entries in
    let there : lookup (is_at (name_cmp c.args.commit.group)) shelves ≡ Some c.in-Some.rows.now = search rules in
    added_over shelves (c.get_mut.follows.lender c.take_entries.new.self).entries c.args.commit.group c.in-Some.rows.now c.take_entries.new.self (rows_of c.args.commit.moment c.args.commit.entries) there
    (c.get_mut.follows.holds c.take_entries.new.self).0 c.in_ok-grown.ensures.ok c.requires

pub returns-in-Some-clause-grown : goal.returns-in-Some-clause-grown
returns-in-Some-clause-grown c =
    let shelves = c.args.shelves.now.entries in
    let there : lookup (is_at (name_cmp c.args.commit.group)) shelves ≡ Some c.in-Some.rows.now = search rules in
    grown_over shelves (c.get_mut.follows.lender c.take_entries.new.self).entries c.args.commit.group c.in-Some.rows.now c.take_entries.new.self (rows_of c.args.commit.moment c.args.commit.entries) there
    (c.get_mut.follows.holds c.take_entries.new.self).0 c.in_ok-grown.ensures.ok c.requires c.in_ok-grown.grown c.in_ok-grown.ensures.grown

pub returns-clause-grown : goal.returns-clause-grown
returns-clause-grown c =
    let shelves = c.args.shelves.now.entries in
    let absent : lookup (is_at (name_cmp c.args.commit.group)) shelves ≡ None = search rules in
    let stored : c.put.new.kept.entries ≡ put name_cmp c.args.commit.group c.in_ok-rows.rows shelves = search rules in
    grown_between shelves c.put.new.kept.entries c.args.commit.group c.in_ok-rows.rows (rows_of c.args.commit.moment c.args.commit.entries) absent stored c.in_ok-rows.ensures c.as_slice.result.now c.as_slice.ensures.value

pub returns-in_err-rows-clause-known : goal.returns-in_err-rows-clause-known
returns-in_err-rows-clause-known c some known =
    let absent : lookup (is_at (name_cmp c.args.commit.group)) c.args.shelves.now.entries ≡ None = search rules in
    absurd (none_known c.args.shelves.now.entries c.args.commit.group c.args.commit.entries absent some known)

pub returns-in_err-put-clause-known : goal.returns-in_err-put-clause-known
returns-in_err-put-clause-known c some known =
    let absent : lookup (is_at (name_cmp c.args.commit.group)) c.args.shelves.now.entries ≡ None = search rules in
    absurd (none_known c.args.shelves.now.entries c.args.commit.group c.args.commit.entries absent some known)
