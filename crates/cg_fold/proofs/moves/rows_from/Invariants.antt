use Rattle.std.proofs.Common.{◌≡◌, ◌++◌}
use Rattle.std.specs.Vec.Iter.{into_iter_items}
use Rattle.cg_fold.specs.Key.{rows_of}
use Rattle.cg_fold.proofs.moves.rows_from.Given as goal

abbrev pub invariant-loop-entry : goal.invariant-loop-entry
invariant-loop-entry l = l.rows.items ++ rows_of l.moment (into_iter_items l.entry-iterator) ≡ rows_of l.fn.moment l.fn.entries.items
