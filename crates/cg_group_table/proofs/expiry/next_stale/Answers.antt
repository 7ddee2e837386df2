use Rattle.std.proofs.Common.{◌≡◌, ◌++◌, ◌∷◌, [], ap, sym, ◌∙◌, subst, arith}
use Rattle.std.proofs.lemmas.List.{nil_from_length}
use Rattle.cg_group_table.proofs.Stale.{AreScanned, AreTaken, few_scanned, none_scanned, one_passed, one_scanned, taken_all, taken_distinct, taken_full}
use Rattle.cg_group_table.proofs.expiry.next_stale.Goals.{else-loop-rest-test, then-loop-rest-test+in_default}
use Rattle.cg_group_table.proofs.expiry.next_stale.Goals as goal

pub loop-rest-init : goal.loop-rest-init
loop-rest-init c =
    let args = c.args in
    subst (AreScanned args.clock.now.loaded args.clock.now.moment args.rows.now args.rows.now) (sym c.new-stale.ensures.items) (none_scanned args.clock.now.loaded args.clock.now.moment args.rows.now c.requires.sorted)

pub loop-rest-smaller-in_ok-push : goal.loop-rest-smaller-in_ok-push
loop-rest-smaller-in_ok-push c = let shorter = c.in-Some.ensures.cases.1 in omega (arith, shorter)

pub loop-rest-preserved-in_ok-push : goal.loop-rest-preserved-in_ok-push
loop-rest-preserved-in_ok-push c =
    let args = c.args in
    let loaded = args.clock.now.loaded in
    let now = args.clock.now.moment in
    let found = c.loop-rest.stale.items in
    let put : c.push.new.self.items ≡ found ++ c.in-Some.row.now.0 ∷ [] = c.in_ok-push.ensures.items ∙ ap (λ p. found ++ p ∷ []) c.in_ok-clone.ensures.cases in
    subst (AreScanned loaded now args.rows.now c.in-Some.others.now) (sym put) (one_scanned loaded now args.rows.now c.loop-rest.rest.now c.in-Some.others.now c.in-Some.row.now found c.in-Some.ensures.cases.0 c.loop-rest.invariant (sym c.is_stale_row.ensures ∙ c.if-is_stale_row.true) (λ full. omega (arith, full, c.loop-rest-test.true, c.len.ensures)))

pub loop-rest-smaller : goal.loop-rest-smaller
loop-rest-smaller c = let shorter = c.in-Some.ensures.cases.1 in omega (arith, shorter)

pub loop-rest-preserved : goal.loop-rest-preserved
loop-rest-preserved c =
    let args = c.args in
    one_passed args.clock.now.loaded args.clock.now.moment args.rows.now c.loop-rest.rest.now c.in-Some.others.now c.in-Some.row.now c.loop-rest.stale.items c.in-Some.ensures.cases.0 c.loop-rest.invariant (sym c.is_stale_row.ensures ∙ c.if-is_stale_row.false)

pub returns-clause-sorted : goal.returns-clause-sorted
returns-clause-sorted c = c.loop-rest.invariant.sorted

taken : (c : goal.Left-loop-rest) → AreTaken c.args.clock.now.loaded c.args.clock.now.moment c.args.rows.now c.loop-rest.rest.now c.loop-rest.stale.items
taken c =
    let loaded = c.args.clock.now.loaded in
    let now = c.args.clock.now.moment in
    let rows = c.args.rows.now in
    let rest = c.loop-rest.rest.now in
    let found = c.loop-rest.stale.items in
    let h = c.loop-rest.invariant in
    let few = few_scanned loaded now rows rest found h in
    elim c.loop-rest-test.branch [
      | else-loop-rest-test w ↦ taken_full loaded now rows rest found h (omega (arith, few, w.loop-rest-test.false, c.len.ensures))
      | then-loop-rest-test+in_default w ↦ taken_all loaded now rows rest found h (nil_from_length rest w.in_default.ensures.cases)
    ]

pub returns-clause-distinct : goal.returns-clause-distinct
returns-clause-distinct c =
    let loaded = c.args.clock.now.loaded in
    let now = c.args.clock.now.moment in
    let rows = c.args.rows.now in
    let rest = c.loop-rest.rest.now in
    let found = c.loop-rest.stale.items in
    taken_distinct loaded now rows rest found c.requires.sorted (few_scanned loaded now rows rest found c.loop-rest.invariant) (taken c)

pub returns-clause-first : goal.returns-clause-first
returns-clause-first c = (taken c).first

pub returns-clause-others : goal.returns-clause-others
returns-clause-others c = (taken c).others
