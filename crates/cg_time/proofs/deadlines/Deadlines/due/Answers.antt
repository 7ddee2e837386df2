use Rattle.cg_time.proofs.Moments.{ascending_due}
use Rattle.cg_time.proofs.deadlines.Deadlines.due.Goals as goal

pub returns-clause-ascending : goal.returns-clause-ascending
returns-clause-ascending g c =
    rw (c.in_ok-push_due.ensures.ok, c.new-keys.ensures.items) (ascending_due g.K.Ord.cmp c.args.now _ c.self.invariant)
