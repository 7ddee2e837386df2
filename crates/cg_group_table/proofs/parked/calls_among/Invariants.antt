use Rattle.std.proofs.Common.{◌≡◌, take}
use Rattle.cg_group_table.specs.SessionIndex.{parked_calls}
use Rattle.cg_group_table.proofs.parked.calls_among.Given as goal

abbrev pub invariant-loop-member : goal.invariant-loop-member
invariant-loop-member l = l.calls.items ≡ parked_calls (take l.member-index l.members)
