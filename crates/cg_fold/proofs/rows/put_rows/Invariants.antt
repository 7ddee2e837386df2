use Rattle.std.proofs.Common.{◌≡◌, ◌+◌, ◌≤◌, vec_len, vec_capacity}
use Rattle.std.specs.Prelude.{IsTrue}
use Rattle.std.specs.VecDeque.{deque_len}
use Rattle.std.specs.List.{fold}
use Rattle.std.specs.FinMap.{is_sorted}
use Rattle.cg_record.specs.Partitions.{partition_cmp}
use Rattle.cg_fold.specs.Key.{put_row}
use Rattle.cg_fold.proofs.rows.put_rows.Given as goal

abbrev pub invariant-loop-row : goal.invariant-loop-row
invariant-loop-row l = record {
  sorted : IsTrue (is_sorted partition_cmp l.rows.items);
  room : vec_len l.rows + deque_len l.waiting ≤ vec_capacity l.rows;
  rest : fold put_row l.rows.items l.waiting.items ≡ fold put_row l.initial.rows.items l.initial.waiting.items;
}

abbrev pub decreases-loop-row : goal.decreases-loop-row
decreases-loop-row l = deque_len l.waiting
