use Rattle.std.proofs.Common.{◌≡◌, length}
use Rattle.std.specs.Vec.Iter.{into_iter_items, into_iter_len}
use Rattle.cg_group_table.specs.SessionIndex.{AreKnown, IsTight, is_home}
use Rattle.cg_group_table.proofs.DueGroups.{HaveCarried}
use Rattle.cg_group_table.proofs.Successive.{Along}
use Rattle.cg_group.proofs.tick.carry_out_all.Given as goal

abbrev pub invariant-loop-due : goal.invariant-loop-due
invariant-loop-due l = record {
  carried : Along (HaveCarried l.now l.fn.held l.held) l.fn.dues.items (into_iter_items l.due-iterator);
  known : AreKnown (is_home l.homes) l.held;
  tight : IsTight l.homes l.held;
  len : into_iter_len l.due-iterator ≡ length (into_iter_items l.due-iterator);
}
