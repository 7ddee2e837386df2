use Rattle.std.proofs.Common.{◌∷◌, ◌++◌, ap, ◌∙◌, subst}
use Rattle.cg_time.specs.Entries.{IsAscending}
use Rattle.cg_time.proofs.Ascending.{ascending_tail}
use Rattle.cg_time.proofs.tree.Tree.+take_first.Goals as goal

pub join-requires : goal.join-requires
join-requires g t c =
    let opened = c.in_ok-slot.ensures in
    ascending_tail g.K.Ord.cmp c.in-Some.first _
    (subst (IsAscending g.K.Ord.cmp) (opened.same_entries ∙ ap (λ z. z ++ c.in_ok-slot.branch.entry ∷ c.in_ok-slot.branch.right) c.in-Some.ensures) opened.ascending)
