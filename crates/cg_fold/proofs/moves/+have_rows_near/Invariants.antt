use Rattle.std.proofs.Common.{length}
use Rattle.cg_fold.proofs.moves.+have_rows_near.Given as goal

abbrev pub decreases-have_rows_near : goal.decreases-have_rows_near
decreases-have_rows_near l = length l.entries.now
