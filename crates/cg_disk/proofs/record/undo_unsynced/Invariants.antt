use Rattle.std.proofs.Common.{◌≡◌, true, length}
use Rattle.std.specs.List.{list_all}
use Rattle.cg_disk.specs.Record.{is_within, GoesBack}
use Rattle.cg_disk.proofs.record.undo_unsynced.Given as goal

abbrev pub invariant-loop-call : goal.invariant-loop-call
invariant-loop-call l = record {
  long : length l.disk.items ≡ length l.initial.disk.items;
  within : list_all (is_within (length l.disk.items)) l.calls.items ≡ true;
  back : GoesBack l.initial.disk.items l.initial.calls.items l.disk.items l.calls.items;
}

abbrev pub decreases-loop-call : goal.decreases-loop-call
decreases-loop-call l = length l.calls.items
