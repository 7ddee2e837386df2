-- A LEAVE, worked out for the other members of its group.
use Rattle.std.proofs.Common.{◌≡◌, ℕ, true, false, not, List, Option, refl, ◌∙◌}
use Rattle.std.specs.Prelude.{if◌then◌else◌}
use Rattle.cg_group_state.specs.declared.group.Group.{Group}
use Rattle.cg_group_state.specs.declared.member.Member.{Member}
use Rattle.cg_request.specs.declared.ticket.Ticket.{Ticket}
use Rattle.cg_group_rules.specs.Leave.{after_removal, has_joined, leave_taken, left}
use Rattle.cg_group_state.specs.Membership.{has_id, keeping, leader_among}
use Rattle.cg_group_rules.specs.Rebalance.{begun, prepare_rebalance, try_complete_join, turned}
use Rattle.cg_group_rules.specs.LeaveSteps.{left_effects, others_than, without}
use Rattle.cg_group_state.specs.declared.effects.Effects.{Effects}
use Rattle.cg_group_rules.specs.declared.rebalance.Round.{Round}
use Rattle.cg_group_rules.specs.RebalancePlan.{IsPlan, rounded}
use Rattle.cg_group_rules.proofs.Rounds.{plan_holds, plan_unled}

-- what the rebalance comes to without the member is what was planned
pub leaves : (now : ℕ) (ticket : Ticket) (m : Member) (g : Group) (round : Option Round) (after : Effects)
    → IsPlan now (has_joined g.phase) (without m.id g) (left_effects (has_joined g.phase) ticket m (others_than m.id g.members)) round after
    → leave_taken now m.id ticket m g ≡ turned (rounded now round (begun (has_joined g.phase) now (keeping (λ other. not (has_id m.id other)) g))) after
unfolding leave_taken after_removal left keeping prepare_rebalance
leaves now ticket m g round after plan =
    let others : List Member = others_than m.id g.members in
    let kept : Group = record g { members = others; leader = leader_among others g.leader } in
    (elim (has_joined g.phase) as (λ b. try_complete_join now (if b then prepare_rebalance now (left m.id ticket m g) else left m.id ticket m g) ≡ try_complete_join now (turned (begun b now kept) (left_effects b ticket m others))) [
      | true ↦ refl
      | false ↦ refl
    ])
    ∙ plan_holds (has_joined g.phase) now kept (left_effects (has_joined g.phase) ticket m others) round after (plan_unled now (has_joined g.phase) (without m.id g) (left_effects (has_joined g.phase) ticket m others) round after plan)
