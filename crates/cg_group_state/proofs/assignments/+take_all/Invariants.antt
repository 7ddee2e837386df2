use Rattle.std.proofs.Common.{length}
use Rattle.cg_group_state.proofs.assignments.+take_all.Given as goal

abbrev pub decreases-take_all : goal.decreases-take_all
decreases-take_all l = length l.members.now
