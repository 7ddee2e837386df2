use Rattle.std.proofs.Common.{arith, refl, ap, ◌∙◌, sym}
use Rattle.std.specs.Prelude.{not}
use Rattle.cg_record.proofs.Keys.{nil_is_distinct, distinct_parts, distinct_from_parts}
use Rattle.cg_record.proofs.distinct.+are_distinct.Goals as goal

pub returns-in-empty : goal.returns-in-empty
returns-in-empty g t c = ((λ h. nil_is_distinct g.T.Keyed.shares c.args.values.now (omega arith)), (λ h. refl))

pub returns-then-not-is_among : goal.returns-then-not-is_among
returns-then-not-is_among g t c = (
  (λ h. distinct_from_parts g.T.Keyed.shares c.args.values.now c.first-item.result (omega arith) c.first-item.is (sym c.is_among.ensures ∙ c.if-not-is_among.true) (c.are_distinct.ensures.0 h)),
  (λ h. c.are_distinct.ensures.1 ((distinct_parts g.T.Keyed.shares c.args.values.now c.first-item.result (omega arith) c.first-item.is h).1)),
)

pub returns-else-not-is_among : goal.returns-else-not-is_among
returns-else-not-is_among g t c = (
  (λ h. absurd (cc h)),
  (λ h. ap not (c.is_among.ensures ∙ (distinct_parts g.T.Keyed.shares c.args.values.now c.first-item.result (omega arith) c.first-item.is h).0)),
)
