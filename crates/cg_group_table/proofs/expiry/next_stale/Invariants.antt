use Rattle.std.proofs.Common.{length}
use Rattle.cg_group_table.proofs.Stale.{AreScanned}
use Rattle.cg_group_table.proofs.expiry.next_stale.Given as goal

abbrev pub invariant-loop-rest : goal.invariant-loop-rest
invariant-loop-rest l = AreScanned l.clock.loaded l.clock.moment l.rows l.rest l.stale.items

abbrev pub decreases-loop-rest : goal.decreases-loop-rest
decreases-loop-rest l = length l.rest
