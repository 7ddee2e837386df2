use Rattle.std.proofs.Common.{◌≡◌, length, ap, arith, rules}
use Rattle.cg_fold.proofs.Own.{length-fold_more}
use Rattle.cg_fold.proofs.rows.Rows.put_all.Goals as goal

pub overflow_sub-result : goal.overflow_sub-result
overflow_sub-result c =
    let kept : c.reserve.new.self.items ≡ c.self.inside.rows.items = search rules in
    omega (arith, ap length kept, ap length c.put_rows.ensures.rows, length-fold_more c.reserve.new.self.items c.args.waiting.items)

pub returns-clause-grown : goal.returns-clause-grown
returns-clause-grown c = omega (arith, overflow_sub-result c, ap length c.self.view_is)
