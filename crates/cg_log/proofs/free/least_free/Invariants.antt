use Rattle.std.proofs.Common.{◌≡◌, ◌<◌, ℕ, ◌++◌, true}
use Rattle.cg_log.specs.Free.{is_among}
use Rattle.cg_log.proofs.free.least_free.Given as goal

abbrev pub invariant-loop-id : goal.invariant-loop-id
invariant-loop-id l = (k : ℕ) → k < l.id → is_among k ((l.base ++ l.tail) ++ l.fresh) ≡ true
