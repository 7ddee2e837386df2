use Rattle.std.proofs.Common.{◌≡◌, ◌+◌, length}
use Rattle.std.specs.Vec.Iter.{into_iter_items}
use Rattle.cg_fold.specs.Snapshot.{AreListed, left_of}
use Rattle.cg_fold.proofs.snapshot.next_of.Given as goal

abbrev pub invariant-loop-command : goal.invariant-loop-command
invariant-loop-command l = record {
  listed : AreListed l.records.entries l.shelves.entries;
  same : left_of (into_iter_items l.commands) l.records.entries l.shelves.entries ≡ left_of (into_iter_items l.initial.commands) l.initial.records.entries l.initial.shelves.entries;
}

abbrev pub decreases-loop-command : goal.decreases-loop-command
decreases-loop-command l = length l.records.entries + length l.shelves.entries
