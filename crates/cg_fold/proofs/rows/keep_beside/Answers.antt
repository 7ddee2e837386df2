use Rattle.std.proofs.Common.{rules, not}
use Rattle.std.proofs.lemmas.Fn.{filter_same}
use Rattle.cg_fold.specs.Key.{AreInOrder, KeptRow, is_among}
use Rattle.cg_fold.proofs.rows.keep_beside.Goals as goal

pub returns-then-are_in_order : goal.returns-then-are_in_order
returns-then-are_in_order c =
    let partitions = c.args.partitions.now in
    let ordered : AreInOrder partitions = c.if-are_in_order.ensures in
    filter_same _ (λ (row : KeptRow). not (is_among partitions row.0)) _ (λ x b q k. search (rules, ordered)) _ _ c.retain.ensures.filtered

pub returns-else-are_in_order : goal.returns-else-are_in_order
returns-else-are_in_order c = filter_same _ (λ (row : KeptRow). not (is_among c.args.partitions.now row.0)) _ (λ x b q k. search rules) _ _ c.retain-else-are_in_order.ensures.filtered
