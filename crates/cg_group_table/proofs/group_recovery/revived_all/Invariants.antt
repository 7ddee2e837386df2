use Rattle.std.proofs.Common.{◌≡◌, map, take}
use Rattle.cg_group_table.specs.Recovery.{revived}
use Rattle.cg_group_table.proofs.group_recovery.revived_all.Given as goal

abbrev pub invariant-loop-id : goal.invariant-loop-id
invariant-loop-id l = l.groups ≡ map (revived l.now l.durable) (take l.id-index l.id-items)
