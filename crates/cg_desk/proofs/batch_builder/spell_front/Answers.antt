use Rattle.std.proofs.Common.{rules, ◌≡◌, length, subst, sym}
use Rattle.cg_record.specs.Spelling.{spelling}
use Rattle.cg_desk.specs.Fronts.{fitting, spelled}
use Rattle.cg_desk.proofs.FullTexts.{full_before, full_empty}
use Rattle.cg_desk.proofs.batch_builder.spell_front.Goals as goal

pub returns-then-not-is_put-clause-full : goal.returns-then-not-is_put-clause-full
returns-then-not-is_put-clause-full c =
    let is = c.in-Some.ensures in
    let said = c.in_ok-is_put.ensures in
    let same : spelled c.spell.new.draft ≡ spelled c.loop-front.draft = search rules in
    subst (λ cs. fitting (length (spelling cs)) c.loop-front.front.items ≡ 0) (sym same)
    (full_before (length (spelling (spelled c.loop-front.draft))) c.in-Some.next.now c.loop-front.front.items (search rules) (search rules) (said.full c.if-not-is_put.true))

pub returns-in_default-clause-full : goal.returns-in_default-clause-full
returns-in_default-clause-full c = full_empty (length (spelling (spelled c.loop-front.draft))) c.loop-front.front.items (search rules)
