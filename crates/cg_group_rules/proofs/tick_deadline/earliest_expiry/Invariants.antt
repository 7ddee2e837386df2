use Rattle.std.proofs.Common.{◌≡◌, map, take, fold}
use Rattle.std.specs.Prelude.{min}
use Rattle.cg_group_rules.specs.TickDeadline.{expiry, last_moment}
use Rattle.cg_group_rules.proofs.tick_deadline.earliest_expiry.Given as goal

abbrev pub invariant-loop-member : goal.invariant-loop-member
invariant-loop-member l = l.earliest ≡ fold min last_moment (map (expiry l.since) (take l.member-index l.members))
