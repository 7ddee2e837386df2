use Rattle.std.proofs.Common.{◌≡◌, length, None, ap, sym, ◌∙◌, arith}
use Rattle.std.specs.FinMap.{find}
use Rattle.cg_record.specs.Partitions.{partition_cmp}
use Rattle.cg_fold.specs.Key.{put_row, row_of}
use Rattle.cg_fold.specs.Renewed.{IsRenewal}
use Rattle.cg_fold.proofs.KeyOrder.{partition_total}
use Rattle.cg_fold.proofs.Own.{length-put_absent}
use Rattle.cg_fold.proofs.Put.{put_keeps_order}
use Rattle.cg_fold.proofs.Renewed.{renewed_is_put}
use Rattle.cg_fold.proofs.rows.Rows.put_entry.Goals as goal

pub returns-in-Some-clause-ok : goal.returns-in-Some-clause-ok
returns-in-Some-clause-ok c =
    let kept = row_of c.args.moment.now c.args.entry.now in
    let is : IsRenewal c.deref.result.now kept c.in-Some.renewal = rw c.in-Some.is at c.in_ok-renewal.ensures in
    c.renew.ensures ∙ renewed_is_put c.self.inside.rows.items c.deref.result.now kept c.in-Some.renewal c.deref.ensures.value is ∙ ap (λ rows. put_row rows kept) c.self.view_is

pub invariant_of-self : goal.invariant_of-self
invariant_of-self c =
    let kept = row_of c.args.moment.now c.args.entry.now in
    let is : IsRenewal c.deref.result.now kept c.in-Some.renewal = rw c.in-Some.is at c.in_ok-renewal.ensures in
    put_keeps_order partition_total kept.0 kept.1 c.self.inside.rows.items c.renew.new.rows.items
    (c.renew.ensures ∙ renewed_is_put c.self.inside.rows.items c.deref.result.now kept c.in-Some.renewal c.deref.ensures.value is) c.self.invariant

pub returns-in_ok-reserve-in-None-clause-grown : goal.returns-in_ok-reserve-in-None-clause-grown
returns-in_ok-reserve-in-None-clause-grown c =
    let kept = row_of c.args.moment.now c.args.entry.now in
    let absent : find partition_cmp kept.0 c.self.inside.rows.items ≡ None = ap (find partition_cmp kept.0) (sym c.deref.ensures.value) ∙ (rw c.in-None.is at c.in_ok-renewal.ensures) in
    let put_is : c.put_row.new.rows.items ≡ put_row c.self.inside.rows.items kept =
    c.put_row.ensures.rows ∙ ap (put_row c.reserve.new.self.items) c.in_ok-row-in-None.ensures ∙ ap (λ rows. put_row rows kept) c.in_ok-reserve-in-None.ensures.items in
    omega (arith, ap length put_is, length-put_absent kept c.self.inside.rows.items absent, ap length c.self.view_is)
