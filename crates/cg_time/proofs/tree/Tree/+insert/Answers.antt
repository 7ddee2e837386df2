use Rattle.std.proofs.Common.{◌∙◌}
use Rattle.cg_time.proofs.Ascending.{ascending_one}
use Rattle.cg_time.proofs.Changed.{inserted_left, inserted_right, inserted_at}
use Rattle.cg_time.proofs.tree.Tree.+insert.Goals as goal

pub fork-requires : goal.fork-requires
fork-requires g t c = rw (c.new.ensures, c.new-in_default.ensures) (ascending_one g.K.Ord.cmp (c.args.key, c.args.moment))

pub join-requires : goal.join-requires
join-requires g t c =
    let opened = c.in-Some.ensures in
    (inserted_left g.met.K.Ord.total c.args.self c.in-Some.top.left c.in-Some.top.entry c.in-Some.top.right opened.same_entries opened.ascending c.args.key c.args.moment c.insert-left.result c.in-Less.ensures c.insert-left.ensures).ascending

pub join-requires-in-Greater : goal.join-requires-in-Greater
join-requires-in-Greater g t c =
    let opened = c.in-Some.ensures in
    (inserted_right g.met.K.Ord.total c.args.self c.in-Some.top.left c.in-Some.top.entry c.in-Some.top.right opened.same_entries opened.ascending c.args.key c.args.moment c.insert-right.result c.in-Greater.ensures c.insert-right.ensures).ascending

pub returns-in-Less : goal.returns-in-Less
returns-in-Less g t c =
    let opened = c.in-Some.ensures in
    c.join.ensures ∙ (inserted_left g.met.K.Ord.total c.args.self c.in-Some.top.left c.in-Some.top.entry c.in-Some.top.right opened.same_entries opened.ascending c.args.key c.args.moment c.insert-left.result c.in-Less.ensures c.insert-left.ensures).is

pub returns-in-Equal : goal.returns-in-Equal
returns-in-Equal g t c =
    let opened = c.in-Some.ensures in
    c.fork-in-Equal.ensures ∙ (inserted_at g.met.K.Ord.total c.args.self c.in-Some.top.left c.in-Some.top.entry c.in-Some.top.right opened.same_entries opened.ascending c.args.key c.args.moment c.in-Equal.ensures).is

pub returns-in-Greater : goal.returns-in-Greater
returns-in-Greater g t c =
    let opened = c.in-Some.ensures in
    c.join-in-Greater.ensures ∙ (inserted_right g.met.K.Ord.total c.args.self c.in-Some.top.left c.in-Some.top.entry c.in-Some.top.right opened.same_entries opened.ascending c.args.key c.args.moment c.insert-right.result c.in-Greater.ensures c.insert-right.ensures).is
