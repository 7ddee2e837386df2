use Rattle.cg_time.proofs.Changed.{ascending_inserted}
use Rattle.cg_time.proofs.deadlines.Deadlines.set.Goals as goal

pub invariant_of-self : goal.invariant_of-self
invariant_of-self g c =
    ascending_inserted g.met.K.Ord.total _ c.self.invariant _ _ _ _ c.replace-tree.ensures.value c.insert.ensures

pub returns-clause-ascending : goal.returns-clause-ascending
returns-clause-ascending g c =
    ascending_inserted g.met.K.Ord.total _ c.self.invariant _ _ _ _ c.replace-tree.ensures.value c.insert.ensures
