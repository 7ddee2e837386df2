use Rattle.std.proofs.Common.{◌≡◌, length}
use Rattle.cg_fold.specs.Durable.{after, folded}
use Rattle.cg_trail.proofs.replay.folded.Given as goal

abbrev pub invariant-loop-rest : goal.invariant-loop-rest
invariant-loop-rest l = after l.durable l.rest ≡ folded l.fn.commands

abbrev pub decreases-loop-rest : goal.decreases-loop-rest
decreases-loop-rest l = length l.rest
