use Rattle.std.proofs.Common.{Bool, List, ℕ, not, Ok, sym, ap, subst, ◌∙◌}
use Rattle.cg_group_state.specs.declared.group.Group.{Group}
use Rattle.cg_group_rules.specs.Leave.{has_joined}
use Rattle.cg_group_state.specs.Membership.{has_id, keeping}
use Rattle.cg_group_rules.specs.Rebalance.{begun, turned}
use Rattle.cg_group_rules.specs.LeaveSteps.{left_effects, others_than, without}
use Rattle.cg_group_rules.specs.RebalancePlan.{IsPlan, rounded}
use Rattle.cg_group_rules.proofs.Without.{leaves}
use Rattle.cg_group_rules.proofs.leave.leave_in.Goals as goal

pub returns-clause-ok : goal.returns-clause-ok
returns-clause-ok c =
    let now = c.args.context.now in
    let ticket = c.args.context.ticket in
    let g : Group = c.args.group.now in
    let m = c.in-Ok.member.now in
    let round = c.in_ok-effects.round in
    let after = c.in_ok-effects.effects in
    let P : Bool → Type 0 = λ b. IsPlan now b (without m.id g) (left_effects b ticket m (others_than m.id g.members)) round after in
    let kept : List ℕ → Group = λ i. keeping (λ other. not (has_id i other)) g in
    c.in-Ok.ensures.taken now ticket
    ∙ ap Ok
    (leaves now ticket m g round after (subst P c.has_joined-begins.ensures c.in_ok-effects.ensures)
    ∙ ap (λ (g : Group). turned g after)
    (ap (λ i. rounded now round (begun (has_joined g.phase) now (kept i))) (sym c.in_ok-id.ensures.cases)
    ∙ ap (λ b. rounded now round (begun b now (kept c.in_ok-id.id))) (sym c.has_joined-begins.ensures)
    ∙ ap (λ x. rounded now round (begun c.has_joined-begins.result now x)) (sym c.remove_member.ensures)
    ∙ sym c.carry_out.ensures))
