use Rattle.std.proofs.Common.{◌-◌, ◌≤◌, vec_len}
use Rattle.cg_time.proofs.deadlines.fill.Given as goal

abbrev pub invariant-loop-alloc : goal.invariant-loop-alloc
invariant-loop-alloc g l = vec_len l.initial.spare ≤ vec_len l.spare

abbrev pub decreases-loop-alloc : goal.decreases-loop-alloc
decreases-loop-alloc g l = l.wanted - vec_len l.spare
