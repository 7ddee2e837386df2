use Rattle.std.proofs.Common.{◌∙◌, refl}
use Rattle.cg_fold.specs.Key.{row_of}
use Rattle.cg_fold.proofs.KeyOrder.{partition_total}
use Rattle.cg_fold.proofs.Put.{put_keeps_order}
use Rattle.cg_fold.proofs.Renewed.{has_row-renewed, renewal-at, renewed_is_put}
use Rattle.cg_fold.proofs.moves.move_entry.Goals as goal

pub returns-clause-rows : goal.returns-clause-rows
returns-clause-rows c =
    let kept = row_of c.args.moment.now c.args.entry in
    c.renew_in.ensures ∙ renewed_is_put c.args.rows.now.items c.args.rows.now.items kept _ refl
    (renewal-at c.args.rows.now.items c.deref.result.now c.deref.result.now kept c.own_place-at.result c.deref.ensures.value c.deref.ensures.value c.own_place-at.ensures.value c.own_place-at.ensures.own)

pub returns-clause-sorted : goal.returns-clause-sorted
returns-clause-sorted c =
    let kept = row_of c.args.moment.now c.args.entry in
    put_keeps_order partition_total kept.0 kept.1 c.args.rows.now.items _ (returns-clause-rows c) c.requires.sorted

pub returns-clause-keeps : goal.returns-clause-keeps
returns-clause-keeps c = λ e. has_row-renewed c.args.rows.now.items c.renew_in.new.rows.items _ e c.renew_in.ensures
