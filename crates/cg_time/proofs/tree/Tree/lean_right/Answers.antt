use Rattle.cg_time.proofs.Ascending.{ascending_from}
use Rattle.cg_time.proofs.tree.Tree.lean_right.Goals as goal

pub fork-below-requires : goal.fork-below-requires
fork-below-requires g c = ascending_from _ _ _ _ _ _ _ c.requires c.in-Some.ensures.same_entries
