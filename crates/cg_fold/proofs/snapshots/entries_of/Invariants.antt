use Rattle.std.proofs.Common.{◌≡◌, map, take}
use Rattle.cg_fold.specs.Snapshot.{entry_of}
use Rattle.cg_fold.proofs.snapshots.entries_of.Given as goal

abbrev pub invariant-loop-row : goal.invariant-loop-row
invariant-loop-row l = l.entries.items ≡ map entry_of (take l.row-index l.rows)
