use Rattle.std.proofs.Common.{◌≡◌, take, fold}
use Rattle.cg_group_rules.proofs.Lasting.{raised}
use Rattle.cg_group_rules.proofs.tick.greatest_rebalance.Given as goal

abbrev pub invariant-loop-member : goal.invariant-loop-member
invariant-loop-member l = l.greatest ≡ fold (raised l.who) 0 (take l.member-index l.members)
