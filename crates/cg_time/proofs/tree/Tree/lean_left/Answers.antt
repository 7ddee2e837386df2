use Rattle.cg_time.proofs.Ascending.{ascending_up_to}
use Rattle.cg_time.proofs.tree.Tree.lean_left.Goals as goal

pub fork-below-requires : goal.fork-below-requires
fork-below-requires g c = ascending_up_to _ _ _ _ _ _ _ c.requires c.in-Some.ensures.same_entries
