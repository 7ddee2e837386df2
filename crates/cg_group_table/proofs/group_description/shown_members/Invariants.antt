use Rattle.std.proofs.Common.{◌≡◌, map, take}
use Rattle.cg_group_table.specs.Describe.{shown_member}
use Rattle.cg_group_table.proofs.group_description.shown_members.Given as goal

abbrev pub invariant-loop-member : goal.invariant-loop-member
invariant-loop-member l = l.members ≡ map (shown_member l.group) (take l.member-index l.member-items)
