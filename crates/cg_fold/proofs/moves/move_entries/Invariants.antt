use Rattle.std.proofs.Common.{◌≡◌, true, length}
use Rattle.std.specs.Prelude.{IsTrue}
use Rattle.std.specs.List.{fold, list_all}
use Rattle.std.specs.FinMap.{is_sorted}
use Rattle.std.specs.Vec.Iter.{into_iter_items}
use Rattle.cg_record.specs.Partitions.{partition_cmp}
use Rattle.cg_fold.specs.Key.{put_row, rows_of}
use Rattle.cg_fold.specs.Renewed.{has_row}
use Rattle.cg_fold.proofs.moves.move_entries.Given as goal

abbrev pub invariant-loop-entry : goal.invariant-loop-entry
invariant-loop-entry l = record {
  sorted : IsTrue (is_sorted partition_cmp l.rows.items);
  have : list_all (has_row l.rows.items) (into_iter_items l.entry-iterator) ≡ true;
  rest : fold put_row l.rows.items (rows_of l.moment (into_iter_items l.entry-iterator)) ≡ fold put_row l.initial.rows.items (rows_of l.fn.moment l.fn.entries.items);
  len : length l.rows.items ≡ length l.initial.rows.items;
}
