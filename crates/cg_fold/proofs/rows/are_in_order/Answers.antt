use Rattle.std.proofs.Common.{rules, of_calls}
use Rattle.std.specs.Ordering.{is_lt}
use Rattle.std.proofs.lemmas.Fn.{always_returns_same}
use Rattle.cg_record.specs.Partitions.{partition_cmp}
use Rattle.cg_fold.proofs.Searched.{in_order_where}
use Rattle.cg_fold.proofs.rows.are_in_order.Goals as goal

pub returns : goal.returns
returns c =
    in_order_where c.args.partitions.now c.is_sorted_by.result
    (c.is_sorted_by.ensures.cases (λ a b. is_lt (partition_cmp a b)) (always_returns_same _ _ _ (λ a r f k. search (rules, of_calls))))
