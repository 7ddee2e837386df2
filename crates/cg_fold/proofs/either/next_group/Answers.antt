use Rattle.std.proofs.Common.{sym, ◌∙◌, rules}
use Rattle.cg_fold.proofs.Merging.{no_groups, pass_left, pass_right, pass_less, pass_equal, pass_greater}
use Rattle.cg_fold.proofs.either.next_group.Goals as goal

pub returns-in-None-None : goal.returns-in-None-None
returns-in-None-None g c = no_groups c.args.left.now c.args.right.now (search rules) (search rules)

pub returns-in-None-Some : goal.returns-in-None-Some
returns-in-None-Some g c = pass_right c.args.left.now c.args.right.now c.skip.new.self c.in-None-Some.also.now c.requires.left_sorted c.requires.right_sorted (search rules) (search rules) c.skip.ensures

pub returns-in-Some-None : goal.returns-in-Some-None
returns-in-Some-None g c =
    pass_left c.args.left.now c.skip-in-Some-None.new.self c.args.right.now c.in-Some-None.kept.now c.requires.left_sorted c.requires.right_sorted (search rules) (search rules) c.skip-in-Some-None.ensures

pub returns-in-Less : goal.returns-in-Less
returns-in-Less g c =
    pass_less c.args.left.now c.skip-in-Less.new.self c.args.right.now c.in-Some-Some.kept.now c.in-Some-Some.also.now c.requires.left_sorted c.requires.right_sorted (search rules) (search rules)
    (sym c.cmp.ensures ∙ c.in-Less.is) c.skip-in-Less.ensures

pub returns-in-Equal : goal.returns-in-Equal
returns-in-Equal g c =
    pass_equal c.args.left.now c.skip-in-Equal.new.self c.args.right.now c.skip-in-Equal-2.new.self c.in-Some-Some.kept.now c.in-Some-Some.also.now c.requires.left_sorted c.requires.right_sorted (search rules) (search rules)
    (sym c.cmp.ensures ∙ c.in-Equal.is) c.skip-in-Equal.ensures c.skip-in-Equal-2.ensures

pub returns-in-Greater : goal.returns-in-Greater
returns-in-Greater g c =
    pass_greater c.args.left.now c.args.right.now c.skip-in-Greater.new.self c.in-Some-Some.kept.now c.in-Some-Some.also.now c.requires.left_sorted c.requires.right_sorted (search rules) (search rules)
    (sym c.cmp.ensures ∙ c.in-Greater.is) c.skip-in-Greater.ensures
