use Rattle.std.proofs.Common.{◌≡◌, ◌||◌, Bool, true, false, ℕ, List, Some, rules, subst}
use Rattle.std.specs.List.{list_any}
use Rattle.cg_group_state.specs.declared.calls.Calls.{Calls}
use Rattle.cg_group_state.specs.declared.group.Group.{Group}
use Rattle.cg_group_state.specs.declared.member.Member.{Member}
use Rattle.cg_group_state.specs.declared.who_stays.Staying.TheVariants.{Outstaying}
use Rattle.cg_group_state.specs.Membership.{is_empty}
use Rattle.cg_group_rules.specs.Rebalance.{complete_join, turned}
use Rattle.cg_group_state.specs.Staying.{remaining}
use Rattle.cg_group_state.specs.Waiting.{is_waiting}
use Rattle.cg_group_rules.specs.RebalancePlan.{among, rounded}
use Rattle.cg_group_rules.specs.TickPlan.{is_over}
use Rattle.cg_group_rules.proofs.Ticks.{planned_completes, planned_not_due, planned_waits}
use Rattle.cg_group_rules.proofs.tick.planned_end.Goals as goal

-- no member outstays the rebalance, or one with a parked call does
abbrev can : ℕ → Calls → List Member → Bool
can now calls ms = is_empty (remaining (Outstaying now calls) ms) || list_any (is_waiting calls) (remaining (Outstaying now calls) ms)

pub returns-then-not-is_over : goal.returns-then-not-is_over
returns-then-not-is_over c =
    λ at.
    let over : is_over c.args.now c.args.begins c.args.group.now ≡ false = search rules in
    planned_not_due c.args.now c.args.group.now c.args.effects.now c.args.begins at over

pub returns-then-not-can_complete : goal.returns-then-not-can_complete
returns-then-not-can_complete c =
    λ at.
    let over : is_over c.args.now c.args.begins c.args.group.now ≡ true = search rules in
    let P : Calls → Type 0 = λ k. can c.args.now k c.args.group.now.members ≡ false in
    let Q : List Member → Type 0 = λ ms. can c.args.now c.outstaying-calls.result ms ≡ false in
    let waits : can c.args.now c.outstaying-calls.result c.as_slice.result.now ≡ false = search rules in
    planned_waits c.args.now c.args.group.now c.args.effects.now c.args.begins at over (subst P c.outstaying-calls.ensures (subst Q c.as_slice.ensures.value waits))

pub returns : goal.returns
returns c =
    λ at.
    let g : Group = c.args.group.now in
    let over : is_over c.args.now c.args.begins g ≡ true = search rules in
    let P : Calls → Type 0 = λ k. can c.args.now k g.members ≡ true in
    let Q : List Member → Type 0 = λ ms. can c.args.now c.outstaying-calls.result ms ≡ true in
    let holds : can c.args.now c.outstaying-calls.result c.as_slice.result.now ≡ true = search rules in
    let D : Calls → Type 0 = λ k. complete_join c.args.now (turned (among (Outstaying c.args.now k) g) c.args.effects.now) ≡ turned (rounded c.args.now (Some c.in_ok-round.round) (among (Outstaying c.args.now k) g)) c.completion.new.effects in
    planned_completes c.args.now g c.args.effects.now c.args.begins at c.in_ok-round.round c.completion.new.effects over (subst P c.outstaying-calls.ensures (subst Q c.as_slice.ensures.value holds)) (subst D c.outstaying-calls.ensures c.in_ok-round.ensures)
