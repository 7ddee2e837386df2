use Rattle.std.proofs.Common.{◌≡◌, ◌<◌, ℕ, true}
use Rattle.cg_engine.specs.BorneOut.{has_number}
use Rattle.cg_engine.proofs.finish.are_all.Given as goal

abbrev pub invariant-loop-number : goal.invariant-loop-number
invariant-loop-number g l = (k : ℕ) → k < l.number → has_number k l.passes ≡ true
