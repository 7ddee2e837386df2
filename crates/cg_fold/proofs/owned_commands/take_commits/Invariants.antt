use Rattle.std.proofs.Common.{◌≡◌, ◌++◌, length}
use Rattle.std.specs.Prelude.{IsTrue}
use Rattle.std.specs.FinMap.{is_sorted}
use Rattle.std.specs.VecDeque.{deque_len}
use Rattle.cg_record.specs.Partitions.{partition_cmp}
use Rattle.cg_fold.specs.Snapshot.{commits_of}
use Rattle.cg_fold.proofs.owned_commands.take_commits.Given as goal

abbrev pub invariant-loop-alloc : goal.invariant-loop-alloc
invariant-loop-alloc l = record {
  sorted : IsTrue (is_sorted partition_cmp l.rest.items);
  rest : l.commands.items ++ commits_of (length l.rest.items) l.group l.rest.items ≡ l.initial.commands.items ++ commits_of (length l.fn.rows.items) l.group l.fn.rows.items;
}

abbrev pub decreases-loop-alloc : goal.decreases-loop-alloc
decreases-loop-alloc l = deque_len l.rest
