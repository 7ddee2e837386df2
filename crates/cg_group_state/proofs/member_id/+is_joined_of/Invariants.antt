use Rattle.std.proofs.Common.{length}
use Rattle.cg_group_state.proofs.member_id.+is_joined_of.Given as goal

abbrev pub decreases-is_joined_of : goal.decreases-is_joined_of
decreases-is_joined_of l = length l.name.now
