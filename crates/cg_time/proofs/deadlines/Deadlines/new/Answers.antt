use Rattle.cg_time.proofs.Ascending.{ascending_none}
use Rattle.cg_time.proofs.deadlines.Deadlines.new.Goals as goal

pub invariant_of-result : goal.invariant_of-result
invariant_of-result g c = rw c.new.ensures (ascending_none g.K.Ord.cmp)
