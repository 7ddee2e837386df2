use Rattle.std.proofs.Common.{rules, of_calls, sym, subst}
use Rattle.std.proofs.Math.Dec.{T}
use Rattle.std.proofs.lemmas.Fn.{always_returns_same}
use Rattle.cg_fold.specs.Key.{is_below}
use Rattle.cg_fold.proofs.Place.{partitioned, prefix_from_point}
use Rattle.cg_fold.proofs.KeyOrder.{partition_total}
use Rattle.cg_fold.proofs.rows.place.Goals as goal

pub returns-clause-value : goal.returns-clause-value
returns-clause-value c =
    let key = c.args.key.now in
    let point = c.partition_point.ensures.partitioned (is_below key) (always_returns_same _ _ _ (λ a r f k. search (rules, of_calls))) (partitioned partition_total key c.args.rows.now (subst T (sym c.requires) tt)) in
    prefix_from_point (is_below key) c.args.rows.now c.partition_point.result c.partition_point.ensures.bound point
