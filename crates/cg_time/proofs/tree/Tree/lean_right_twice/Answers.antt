use Rattle.std.proofs.Common.{◌∷◌, ◌++◌, sym, ap, ◌∙◌, append_assoc, subst}
use Rattle.cg_time.specs.Entries.{IsAscending}
use Rattle.cg_time.proofs.Ascending.{ascending_front, ascending_up_to, ascending_from}
use Rattle.cg_time.proofs.tree.Tree.lean_right_twice.Goals as goal

pub fork-left-requires : goal.fork-left-requires
fork-left-requires g c =
    let s = ascending_front g.K.Ord.cmp _ _ c.requires in
    subst (λ z. IsAscending g.K.Ord.cmp (c.args.top.left ++ c.args.top.entry ∷ z)) (c.in-None.ensures ∙ sym c.new.ensures) s

pub fork-left-requires-in-Some : goal.fork-left-requires-in-Some
fork-left-requires-in-Some g c =
    ascending_up_to g.K.Ord.cmp _ _ _ _ _ _ (ascending_front g.K.Ord.cmp _ _ c.requires) c.in-Some.ensures.same_entries

pub fork-right-requires : goal.fork-right-requires
fork-right-requires g c =
    ascending_from g.K.Ord.cmp _ _ _ _ _ _ c.requires
    (ap (λ z. c.args.top.left ++ c.args.top.entry ∷ z) c.in-Some.ensures.same_entries
    ∙ sym (append_assoc c.args.top.left (c.args.top.entry ∷ c.in-Some.middle.left) (c.in-Some.middle.entry ∷ c.in-Some.middle.right)))
