use Rattle.std.proofs.Common.{◌≡◌, ◌+◌, [], ◌∷◌, ◌++◌, take, ap, sym, ◌∙◌, subst}
use Rattle.std.proofs.lemmas.List.{map_more}
use Rattle.cg_fold.specs.Key.{row_of, rows_of}
use Rattle.cg_fold.specs.Renewed.{AreRenewals, IsRenewal}
use Rattle.cg_fold.proofs.Renewed.{renewals-more}
use Rattle.cg_fold.proofs.renewals.renewals_of.Goals as goal

pub loop-entry-preserved : goal.loop-entry-preserved
loop-entry-preserved c =
    let rows = c.args.rows.now in
    let seen = rows_of c.args.moment.now (take c.loop-entry.entry-index c.args.entries.now) in
    let kept = row_of c.args.moment.now c.entry-item.result in
    let is : IsRenewal rows kept c.in-Some.renewal = rw c.in-Some.is at c.in_ok-renewal.ensures in
    let one_more : rows_of c.args.moment.now (take (c.loop-entry.entry-index + 1) c.args.entries.now) ≡ seen ++ kept ∷ [] =
    map_more (row_of c.args.moment.now) c.args.entries.now c.loop-entry.entry-index c.entry-item.result c.loop-entry-test.true
    ∙ ap (λ e. seen ++ row_of c.args.moment.now e ∷ []) (sym c.entry-item.is) in
    subst (λ l. AreRenewals rows l c.push_back.new.self.items) (sym one_more)
    (subst (AreRenewals rows (seen ++ kept ∷ [])) (sym c.in_ok-push_back-in-Some.ensures.items)
    (renewals-more rows seen c.loop-entry.renewals.items kept c.in-Some.renewal c.loop-entry.invariant is))
