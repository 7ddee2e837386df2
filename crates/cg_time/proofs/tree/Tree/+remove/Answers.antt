use Rattle.std.proofs.Common.{◌∙◌}
use Rattle.cg_time.proofs.Changed.{removed_left, removed_right, removed_at}
use Rattle.cg_time.proofs.tree.Tree.+remove.Goals as goal

pub join-requires : goal.join-requires
join-requires g t c =
    let opened = c.in-Some.ensures in
    (removed_left g.met.K.Ord.total c.args.self c.in-Some.branch.left c.in-Some.branch.entry c.in-Some.branch.right opened.same_entries opened.ascending c.args.key.now c.remove-left.result c.in-Less.ensures c.remove-left.ensures).ascending

pub meet-requires : goal.meet-requires
meet-requires g t c =
    let opened = c.in-Some.ensures in
    (removed_at g.met.K.Ord.total c.args.self c.in-Some.branch.left c.in-Some.branch.entry c.in-Some.branch.right opened.same_entries opened.ascending c.args.key.now c.in-Equal.ensures).ascending

pub join-requires-in-Greater : goal.join-requires-in-Greater
join-requires-in-Greater g t c =
    let opened = c.in-Some.ensures in
    (removed_right g.met.K.Ord.total c.args.self c.in-Some.branch.left c.in-Some.branch.entry c.in-Some.branch.right opened.same_entries opened.ascending c.args.key.now c.remove-right.result c.in-Greater.ensures c.remove-right.ensures).ascending

pub returns-in-Less : goal.returns-in-Less
returns-in-Less g t c =
    let opened = c.in-Some.ensures in
    c.join.ensures ∙ (removed_left g.met.K.Ord.total c.args.self c.in-Some.branch.left c.in-Some.branch.entry c.in-Some.branch.right opened.same_entries opened.ascending c.args.key.now c.remove-left.result c.in-Less.ensures c.remove-left.ensures).is

pub returns-in-Equal : goal.returns-in-Equal
returns-in-Equal g t c =
    let opened = c.in-Some.ensures in
    c.meet.ensures ∙ (removed_at g.met.K.Ord.total c.args.self c.in-Some.branch.left c.in-Some.branch.entry c.in-Some.branch.right opened.same_entries opened.ascending c.args.key.now c.in-Equal.ensures).is

pub returns-in-Greater : goal.returns-in-Greater
returns-in-Greater g t c =
    let opened = c.in-Some.ensures in
    c.join-in-Greater.ensures ∙ (removed_right g.met.K.Ord.total c.args.self c.in-Some.branch.left c.in-Some.branch.entry c.in-Some.branch.right opened.same_entries opened.ascending c.args.key.now c.remove-right.result c.in-Greater.ensures c.remove-right.ensures).is
