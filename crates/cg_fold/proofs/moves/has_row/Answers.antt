use Rattle.std.proofs.Common.{[], None, ap, sym, ◌∙◌}
use Rattle.std.specs.Prelude.{is_some}
use Rattle.cg_fold.specs.Key.{KeptRow}
use Rattle.cg_fold.proofs.KeyOrder.{partition_total}
use Rattle.cg_fold.proofs.Place.{find-own, own-placed}
use Rattle.cg_fold.proofs.Put.{tested}
use Rattle.cg_fold.proofs.moves.has_row.Goals as goal

pub returns-then-is_at : goal.returns-then-is_at
returns-then-is_at c =
    let rows = c.args.rows.now in
    let key = c.args.entry.now.key in
    let none : KeptRow = (key, record { offset = 0; metadata = []; moment = None }) in
    let own = c.if-is_at.ensures.own in
    let placed = own-placed partition_total key rows c.args.near none (tested c.requires) own.0 (own.1 none) in
    c.if-is_at.true ∙ sym (ap is_some (find-own partition_total key rows c.args.near none placed own.0 (own.1 none)))
