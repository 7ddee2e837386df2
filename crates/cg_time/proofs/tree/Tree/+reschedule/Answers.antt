use Rattle.std.proofs.Common.{◌∙◌}
use Rattle.cg_time.proofs.Changed.{inserted_at, moved_left, moved_right, found_left, found_right}
use Rattle.cg_time.proofs.tree.Tree.+reschedule.Goals as goal

pub fork-requires : goal.fork-requires
fork-requires g t c =
    let opened = c.in-Some.ensures in
    (moved_left g.met.K.Ord.total c.args.self c.in-Some.branch.left c.in-Some.branch.entry c.in-Some.branch.right opened.same_entries opened.ascending c.args.key.now c.args.moment c.reschedule-left.result.1 c.reschedule-left.result.0 c.in-Less.ensures c.reschedule-left.ensures.entries).ascending

pub fork-requires-in-Greater : goal.fork-requires-in-Greater
fork-requires-in-Greater g t c =
    let opened = c.in-Some.ensures in
    (moved_right g.met.K.Ord.total c.args.self c.in-Some.branch.left c.in-Some.branch.entry c.in-Some.branch.right opened.same_entries opened.ascending c.args.key.now c.args.moment c.reschedule-right.result.1 c.reschedule-right.result.0 c.in-Greater.ensures c.reschedule-right.ensures.entries).ascending

pub returns-in-Less-clause-found : goal.returns-in-Less-clause-found
returns-in-Less-clause-found g t c =
    let opened = c.in-Some.ensures in
    found_left g.met.K.Ord.total c.args.self c.in-Some.branch.left c.in-Some.branch.entry c.in-Some.branch.right opened.same_entries opened.ascending c.args.key.now c.reschedule-left.result.1 c.in-Less.ensures c.reschedule-left.ensures.found

pub returns-in-Less-clause-entries : goal.returns-in-Less-clause-entries
returns-in-Less-clause-entries g t c =
    let opened = c.in-Some.ensures in
    c.fork.ensures ∙ (moved_left g.met.K.Ord.total c.args.self c.in-Some.branch.left c.in-Some.branch.entry c.in-Some.branch.right opened.same_entries opened.ascending c.args.key.now c.args.moment c.reschedule-left.result.1 c.reschedule-left.result.0 c.in-Less.ensures c.reschedule-left.ensures.entries).is

pub returns-in-Equal-clause-entries : goal.returns-in-Equal-clause-entries
returns-in-Equal-clause-entries g t c =
    let opened = c.in-Some.ensures in
    c.fork-in-Equal.ensures ∙ (inserted_at g.met.K.Ord.total c.args.self c.in-Some.branch.left c.in-Some.branch.entry c.in-Some.branch.right opened.same_entries opened.ascending c.args.key.now c.args.moment c.in-Equal.ensures).is

pub returns-in-Greater-clause-found : goal.returns-in-Greater-clause-found
returns-in-Greater-clause-found g t c =
    let opened = c.in-Some.ensures in
    found_right g.met.K.Ord.total c.args.self c.in-Some.branch.left c.in-Some.branch.entry c.in-Some.branch.right opened.same_entries opened.ascending c.args.key.now c.reschedule-right.result.1 c.in-Greater.ensures c.reschedule-right.ensures.found

pub returns-in-Greater-clause-entries : goal.returns-in-Greater-clause-entries
returns-in-Greater-clause-entries g t c =
    let opened = c.in-Some.ensures in
    c.fork-in-Greater.ensures ∙ (moved_right g.met.K.Ord.total c.args.self c.in-Some.branch.left c.in-Some.branch.entry c.in-Some.branch.right opened.same_entries opened.ascending c.args.key.now c.args.moment c.reschedule-right.result.1 c.reschedule-right.result.0 c.in-Greater.ensures c.reschedule-right.ensures.entries).is
