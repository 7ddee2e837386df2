use Rattle.cg_fold.proofs.KeyOrder.{partition_total}
use Rattle.cg_fold.proofs.Place.{find-other}
use Rattle.cg_fold.proofs.Put.{tested}
use Rattle.cg_fold.proofs.renewals.renewal_of.Goals as goal

pub returns-then-not-is_at : goal.returns-then-not-is_at
returns-then-not-is_at c =
    find-other partition_total c.args.entry.now.key c.args.rows.now c.place-at.result (tested c.requires) c.place-at.ensures.value c.if-not-is_at.ensures.other
