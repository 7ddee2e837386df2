use Rattle.std.proofs.Common.{Option, subst}
use Rattle.cg_group_state.specs.declared.who_stays.Staying.TheVariants.{Unexpired}
use Rattle.cg_group_rules.specs.declared.rebalance.Round.{Round}
use Rattle.cg_group_rules.specs.RebalancePlan.{IsPlan, among}
use Rattle.cg_group_rules.specs.TickPlan.{begins_at, first_effects}
use Rattle.cg_group_rules.proofs.Ticks.{planned_first, tick_completes, tick_ends}
use Rattle.cg_group_rules.proofs.tick.plan_tick.Goals as goal

pub returns-in-Some : goal.returns-in-Some
returns-in-Some c =
    let now = c.args.now in
    let g = c.args.group.now in
    let after = c.planned.new.effects in
    let P : Option Round → Type 0 = λ o. IsPlan now (begins_at now g) (among (Unexpired now) g) (first_effects now (begins_at now g) g.members) o after in
    tick_completes now g c.in-Some.round after
    (subst P c.in-Some.is (planned_first now g c.begins_at-begins.result c.in_ok-effects.effects c.as_slice.result.now c.in_ok-round.field-0 after c.begins_at-begins.ensures c.as_slice.ensures.value c.in_ok-effects.ensures c.in_ok-round.ensures))

pub returns : goal.returns
returns c =
    let now = c.args.now in
    let g = c.args.group.now in
    let after = c.planned.new.effects in
    let P : Option Round → Type 0 = λ o. IsPlan now (begins_at now g) (among (Unexpired now) g) (first_effects now (begins_at now g) g.members) o after in
    tick_ends now g after c.planned_end.new.effects c.in_ok-round-2.round
    (subst P c.in_default.is (planned_first now g c.begins_at-begins.result c.in_ok-effects.effects c.as_slice.result.now c.in_ok-round.field-0 after c.begins_at-begins.ensures c.as_slice.ensures.value c.in_ok-effects.ensures c.in_ok-round.ensures))
    (c.in_ok-round-2.ensures c.begins_at-begins.ensures)
