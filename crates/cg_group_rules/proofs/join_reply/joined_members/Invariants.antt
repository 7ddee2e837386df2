use Rattle.std.proofs.Common.{◌≡◌, map, take, filter}
use Rattle.cg_group_rules.specs.Rebalance.{joined_member}
use Rattle.cg_group_state.specs.Staying.{stays}
use Rattle.cg_group_rules.proofs.join_reply.joined_members.Given as goal

abbrev pub invariant-loop-m : goal.invariant-loop-m
invariant-loop-m l = l.members ≡ map (joined_member l.told.protocol.now) (filter (stays l.told.staying.now) (take l.m-index l.m-items))
