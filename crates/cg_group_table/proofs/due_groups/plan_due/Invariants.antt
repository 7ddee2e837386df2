use Rattle.std.proofs.Common.{◌≡◌, length}
use Rattle.std.specs.Vec.Iter.{into_iter_items, into_iter_len}
use Rattle.cg_group_table.specs.DueGroups.{HavePlanned}
use Rattle.cg_group_table.proofs.Successive.{Along}
use Rattle.cg_group_table.proofs.due_groups.plan_due.Given as goal

abbrev pub invariant-loop-id : goal.invariant-loop-id
invariant-loop-id l = record {
  same : l.held ≡ l.fn.held;
  planned : Along (λ ids. HavePlanned l.now l.fn.held ids l.dues.items l.effects) l.fn.ids.items (into_iter_items l.id-iterator);
  len : into_iter_len l.id-iterator ≡ length (into_iter_items l.id-iterator);
}
