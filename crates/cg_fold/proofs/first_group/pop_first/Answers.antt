use Rattle.std.proofs.Common.{Some, ap, sym, ◌∙◌, refl}
use Rattle.cg_fold.proofs.Firsts.{no_side, left_side, right_side, both_sides}
use Rattle.cg_fold.proofs.first_group.pop_first.Goals as goal

pub returns-in-None : goal.returns-in-None
returns-in-None g c = (no_side c.args.left.now.entries c.args.right.now.entries (sym c.side.ensures ∙ c.in-None.is), refl, refl)

pub returns-in-Some-Less : goal.returns-in-Some-Less
returns-in-Some-Less g c =
    left_side c.args.left.now.entries c.args.right.now.entries c.pop-group.result c.pop-group.new.kept.entries c.requires.left_sorted c.requires.right_sorted
    (sym c.side.ensures ∙ c.in-Some-Less.is ∙ ap (λ o. Some o) c.in-Some-Less.field-0-is) c.pop-group.ensures

pub returns-in-Some-Equal : goal.returns-in-Some-Equal
returns-in-Some-Equal g c =
    both_sides c.args.left.now.entries c.args.right.now.entries c.pop-group-in-Some-Equal.result c.pop-group-in-Some-Equal.new.kept.entries c.pop-other.result c.pop-other.new.kept.entries c.requires.left_sorted c.requires.right_sorted
    (sym c.side.ensures ∙ c.in-Some-Equal.is ∙ ap (λ o. Some o) c.in-Some-Equal.field-0-is) c.pop-group-in-Some-Equal.ensures c.pop-other.ensures

pub returns-in-Some-Greater : goal.returns-in-Some-Greater
returns-in-Some-Greater g c =
    right_side c.args.left.now.entries c.args.right.now.entries c.pop-group-in-Some-Greater.result c.pop-group-in-Some-Greater.new.kept.entries c.requires.left_sorted c.requires.right_sorted
    (sym c.side.ensures ∙ c.in-Some-Greater.is ∙ ap (λ o. Some o) c.in-Some-Greater.field-0-is) c.pop-group-in-Some-Greater.ensures
