use Rattle.std.proofs.Common.{◌∷◌, ◌++◌, sym, ap, ◌∙◌, append_assoc, subst}
use Rattle.cg_time.specs.Entries.{IsAscending}
use Rattle.cg_time.proofs.Ascending.{ascending_after, ascending_up_to, ascending_from}
use Rattle.cg_time.proofs.tree.Tree.lean_left_twice.Goals as goal

pub fork-right-requires : goal.fork-right-requires
fork-right-requires g c =
    let s = ascending_after g.K.Ord.cmp _ _ _ c.requires in
    subst (λ z. IsAscending g.K.Ord.cmp (z ++ c.args.top.entry ∷ c.args.top.right)) (c.in-None.ensures ∙ sym c.new.ensures) s

pub fork-left-requires : goal.fork-left-requires
fork-left-requires g c =
    ascending_up_to g.K.Ord.cmp _ _ _ _ _ _ c.requires
    (ap (λ z. z ++ c.args.top.entry ∷ c.args.top.right) c.in-Some.ensures.same_entries
    ∙ append_assoc c.in-Some.middle.left (c.in-Some.middle.entry ∷ c.in-Some.middle.right) (c.args.top.entry ∷ c.args.top.right))

pub fork-right-requires-in-Some : goal.fork-right-requires-in-Some
fork-right-requires-in-Some g c =
    ascending_from g.K.Ord.cmp _ _ _ _ _ _ (ascending_after g.K.Ord.cmp _ _ _ c.requires) c.in-Some.ensures.same_entries
