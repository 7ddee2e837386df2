use Rattle.cg_time.proofs.Changed.{ascending_removed}
use Rattle.cg_time.proofs.deadlines.Deadlines.clear.Goals as goal

pub invariant_of-self : goal.invariant_of-self
invariant_of-self g c =
    ascending_removed g.met.K.Ord.total _ c.self.invariant _ _ _ c.replace-tree.ensures.value c.remove.ensures

pub returns-clause-ascending : goal.returns-clause-ascending
returns-clause-ascending g c =
    ascending_removed g.met.K.Ord.total _ c.self.invariant _ _ _ c.replace-tree.ensures.value c.remove.ensures
