use Rattle.std.proofs.Common.{[], None, sym, ap, ◌∙◌, subst}
use Rattle.std.proofs.Math.Dec.{T}
use Rattle.std.specs.Prelude.{is_some}
use Rattle.cg_fold.specs.Key.{KeptRow}
use Rattle.cg_fold.proofs.KeyOrder.{partition_total}
use Rattle.cg_fold.proofs.Place.{find-other, own-placed}
use Rattle.cg_fold.proofs.Put.{tested}
use Rattle.cg_fold.proofs.moves.own_place.Goals as goal

pub returns-then-is_at-clause-value : goal.returns-then-is_at-clause-value
returns-then-is_at-clause-value c =
    let key = c.args.entry.now.key in
    let none : KeptRow = (key, record { offset = 0; metadata = []; moment = None }) in
    let own = c.if-is_at.ensures.own in
    own-placed partition_total key c.args.rows.now c.args.near none (tested c.requires.sorted) own.0 (own.1 none)

pub unreachable-requires : goal.unreachable-requires
unreachable-requires c =
    let key = c.args.entry.now.key in
    absurd (subst T (sym c.requires.has ∙ ap is_some (find-other partition_total key c.args.rows.now c.place-at.result (tested c.requires.sorted) c.place-at.ensures.value c.if-not-is_at.ensures.other)) tt)
