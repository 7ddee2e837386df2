use Rattle.std.proofs.Common.{◌≡◌, map, take}
use Rattle.cg_group_rules.specs.Sync.{kept_member}
use Rattle.cg_group_rules.proofs.sync.kept_members.Given as goal

abbrev pub invariant-loop-member : goal.invariant-loop-member
invariant-loop-member l = l.kept.items ≡ map (kept_member l.protocol) (take l.member-index l.members)
