use Rattle.cg_group.proofs.DistinctMachine.{members_stay_distinct}
use Rattle.cg_group.proofs.laws.members_stay_distinct.Goals as goal

pub returns : goal.returns
returns c = members_stay_distinct
