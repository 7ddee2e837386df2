use Rattle.std.proofs.Common.{refl, sym, ◌∙◌}
use Rattle.cg_group_rules.proofs.rebalance.planned.Goals as goal

pub returns-then-completes : goal.returns-then-completes
returns-then-completes c = (sym c.completes.ensures ∙ c.if-completes.true, c.in_ok-round.ensures)

pub returns : goal.returns
returns c = (sym c.completes.ensures ∙ c.if-completes.false, refl)
