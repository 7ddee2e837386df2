use Rattle.std.proofs.Common.{◌≡◌, ◌++◌, length}
use Rattle.std.specs.Prelude.{IsTrue}
use Rattle.std.specs.FinMap.{is_sorted}
use Rattle.cg_record.specs.Partitions.{partition_cmp}
use Rattle.cg_fold.specs.Snapshot.{commits_of}
use Rattle.cg_fold.proofs.snapshots.push_commits.Given as goal

abbrev pub invariant-loop-rest : goal.invariant-loop-rest
invariant-loop-rest l = record {
  sorted : IsTrue (is_sorted partition_cmp l.rest);
  rest : l.commands.items ++ commits_of (length l.rest) l.group l.rest ≡ l.initial.commands.items ++ commits_of (length l.rows) l.group l.rows;
}

abbrev pub decreases-loop-rest : goal.decreases-loop-rest
decreases-loop-rest l = length l.rest
