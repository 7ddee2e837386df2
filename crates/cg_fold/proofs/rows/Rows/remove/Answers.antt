use Rattle.std.proofs.Common.{not, length, ap, ◌∙◌, refl, arith}
use Rattle.std.proofs.lemmas.List.Filters.{length-filter_both}
use Rattle.cg_record.specs.Partitions.{partition_cmp}
use Rattle.cg_fold.specs.Key.{KeptRow, is_among, rows_beside}
use Rattle.cg_fold.proofs.Kept.{filter_keeps_order}
use Rattle.cg_fold.proofs.rows.Rows.remove.Goals as goal

pub overflow_sub-result : goal.overflow_sub-result
overflow_sub-result c =
    let partitions = c.args.partitions.now in
    omega (
      arith,
      ap length c.keep_beside.ensures,
      length-filter_both (λ (row : KeptRow). not (is_among partitions row.0)) (λ row. not (not (is_among partitions row.0))) (λ row. refl) c.self.inside.rows.items,
    )

pub invariant_of-self : goal.invariant_of-self
invariant_of-self c =
    filter_keeps_order partition_cmp (λ partition. not (is_among c.args.partitions.now partition)) c.self.inside.rows.items c.keep_beside.new.rows.items c.keep_beside.ensures c.self.invariant

pub returns-clause-rows : goal.returns-clause-rows
returns-clause-rows c = c.keep_beside.ensures ∙ ap (rows_beside c.args.partitions.now) c.self.view_is

pub returns-clause-gone : goal.returns-clause-gone
returns-clause-gone c = omega (arith, overflow_sub-result c, ap length c.self.view_is)
