use Rattle.std.proofs.Common.{◌≡◌, map, take}
use Rattle.cg_group_table.specs.Recovery.{revived_member}
use Rattle.cg_group_table.proofs.group_recovery.revived_items.Given as goal

abbrev pub invariant-loop-member : goal.invariant-loop-member
invariant-loop-member l = l.revived.items ≡ map (revived_member l.now l.protocol) (take l.member-index l.members)
