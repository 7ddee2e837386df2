use Rattle.std.proofs.Common.{◌≡◌, ◌++◌}
use Rattle.std.specs.Vec.Iter.{into_iter_items}
use Rattle.cg_group_state.proofs.few.Few.append.Given as goal

abbrev pub invariant-loop-value : goal.invariant-loop-value
invariant-loop-value g l = l.self ++ into_iter_items l.value-iterator ≡ l.initial.self ++ into_iter_items l.initial.value-iterator
