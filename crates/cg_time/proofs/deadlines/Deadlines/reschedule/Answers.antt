use Rattle.cg_time.proofs.Changed.{ascending_moved}
use Rattle.cg_time.proofs.deadlines.Deadlines.reschedule.Goals as goal

pub invariant_of-self : goal.invariant_of-self
invariant_of-self g c =
    ascending_moved g.met.K.Ord.total _ c.self.invariant _ _ _ _ _ c.replace-tree.ensures.value c.reschedule-tree.ensures.entries

pub returns-clause-ascending : goal.returns-clause-ascending
returns-clause-ascending g c =
    ascending_moved g.met.K.Ord.total _ c.self.invariant _ _ _ _ _ c.replace-tree.ensures.value c.reschedule-tree.ensures.entries
