use Rattle.std.proofs.Common.{sym}
use Rattle.cg_fold.proofs.KeyOrder.{partition_total}
use Rattle.cg_fold.proofs.Place.{find-own, find-other}
use Rattle.cg_fold.proofs.Put.{tested}
use Rattle.cg_fold.proofs.rows.stored_at.Goals as goal

pub returns-then-is_at : goal.returns-then-is_at
returns-then-is_at c =
    let own = c.if-is_at.ensures.own in
    let row = c.index-rows-at.result in
    sym (find-own partition_total c.args.key.now c.args.rows.now c.place-at.result row c.place-at.ensures.value own.0 (own.1 row))

pub returns-else-is_at : goal.returns-else-is_at
returns-else-is_at c =
    sym (find-other partition_total c.args.key.now c.args.rows.now c.place-at.result (tested c.requires) c.place-at.ensures.value c.if-is_at.ensures.other)
