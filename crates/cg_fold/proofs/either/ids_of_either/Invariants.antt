use Rattle.std.proofs.Common.{◌≡◌, ◌+◌, ◌++◌, length}
use Rattle.std.specs.Prelude.{IsTrue}
use Rattle.std.specs.FinMap.{is_sorted}
use Rattle.cg_fold.specs.Key.{name_cmp}
use Rattle.cg_fold.specs.Snapshot.{groups_of_either}
use Rattle.cg_fold.proofs.either.ids_of_either.Given as goal

abbrev pub invariant-loop-id : goal.invariant-loop-id
invariant-loop-id g l = record {
  left_sorted : IsTrue (is_sorted name_cmp l.more_left);
  right_sorted : IsTrue (is_sorted name_cmp l.more_right);
  rest : l.ids.items ++ groups_of_either l.more_left l.more_right ≡ groups_of_either l.left.entries l.right.entries;
}

abbrev pub decreases-loop-id : goal.decreases-loop-id
decreases-loop-id g l = length l.more_left + length l.more_right
