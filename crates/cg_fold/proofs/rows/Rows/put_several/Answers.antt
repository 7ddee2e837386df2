use Rattle.std.proofs.Common.{length, ap, sym, ◌∙◌, subst, arith}
use Rattle.std.specs.Prelude.{IsTrue}
use Rattle.std.specs.List.{fold}
use Rattle.std.specs.FinMap.{is_sorted}
use Rattle.cg_record.specs.Partitions.{partition_cmp}
use Rattle.cg_fold.specs.Key.{put_row, rows_of}
use Rattle.cg_fold.specs.Renewed.{AreRenewals}
use Rattle.cg_fold.proofs.Own.{sorted-fold}
use Rattle.cg_fold.proofs.Put.{tested, is_true}
use Rattle.cg_fold.proofs.Renewed.{renewals_are_puts, renewals_below}
use Rattle.cg_fold.proofs.rows.Rows.put_several.Goals as goal

pub renew_all-requires : goal.renew_all-requires
renew_all-requires c =
    let new = rows_of c.args.moment.now c.args.entries.now in
    let found : AreRenewals c.deref.result.now new c.in-Some.renewals.items = rw c.in-Some.is at c.in_ok-renewals.ensures in
    renewals_below c.self.inside.rows.items c.deref.result.now new c.in-Some.renewals.items c.deref.ensures.value found

pub returns-in-Some-clause-ok : goal.returns-in-Some-clause-ok
returns-in-Some-clause-ok c =
    let new = rows_of c.args.moment.now c.args.entries.now in
    let found : AreRenewals c.deref.result.now new c.in-Some.renewals.items = rw c.in-Some.is at c.in_ok-renewals.ensures in
    let puts = renewals_are_puts c.self.inside.rows.items c.deref.result.now new c.in-Some.renewals.items c.deref.ensures.value found in
    c.renew_all.ensures ∙ puts.0 ∙ ap (λ rows. fold put_row rows new) c.self.view_is

pub returns-in-Some-clause-grown : goal.returns-in-Some-clause-grown
returns-in-Some-clause-grown c =
    let new = rows_of c.args.moment.now c.args.entries.now in
    let found : AreRenewals c.deref.result.now new c.in-Some.renewals.items = rw c.in-Some.is at c.in_ok-renewals.ensures in
    let puts = renewals_are_puts c.self.inside.rows.items c.deref.result.now new c.in-Some.renewals.items c.deref.ensures.value found in
    omega (arith, ap length c.renew_all.ensures, puts.1, ap length c.self.view_is)

pub invariant_of-self : goal.invariant_of-self
invariant_of-self c =
    let new = rows_of c.args.moment.now c.args.entries.now in
    let sorted : IsTrue (is_sorted partition_cmp c.args.self.now) = subst (λ l. IsTrue (is_sorted partition_cmp l)) c.self.view_is c.self.invariant in
    subst (λ l. IsTrue (is_sorted partition_cmp l)) (sym (returns-in-Some-clause-ok c)) (is_true (is_sorted partition_cmp (fold put_row c.args.self.now new)) (sorted-fold c.args.self.now new (tested sorted)))
