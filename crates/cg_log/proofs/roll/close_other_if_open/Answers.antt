use Rattle.cg_disk.proofs.Moments.{LeavesOnly-starts}
use Rattle.cg_log.proofs.roll.close_other_if_open.Goals as goal

pub returns-else-is_other_open-clause-any_moment : goal.returns-else-is_other_open-clause-any_moment
returns-else-is_other_open-clause-any_moment g c honest = LeavesOnly-starts _ _ (c.requires.root honest)
