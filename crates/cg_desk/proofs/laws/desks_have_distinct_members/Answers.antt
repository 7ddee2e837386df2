use Rattle.cg_desk.proofs.Balanced.{desks_have_distinct_members}
use Rattle.cg_desk.proofs.laws.desks_have_distinct_members.Goals as goal

pub returns : goal.returns
returns c = desks_have_distinct_members
