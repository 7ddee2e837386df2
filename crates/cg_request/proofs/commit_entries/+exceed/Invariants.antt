use Rattle.std.proofs.Common.{length}
use Rattle.cg_request.proofs.commit_entries.+exceed.Given as goal

abbrev pub decreases-exceed : goal.decreases-exceed
decreases-exceed l = length l.entries.now
