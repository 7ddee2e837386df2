use Rattle.std.proofs.Common.{length}
use Rattle.cg_log.proofs.sealed_read.+index_of.Given as goal

abbrev pub decreases-index_of : goal.decreases-index_of
decreases-index_of l = length l.ids.now
