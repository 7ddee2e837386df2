use Rattle.std.proofs.Common.{List, sym, ap, ◌∙◌, subst}
use Rattle.cg_group_state.specs.declared.group.Group.{Group}
use Rattle.cg_group_state.specs.declared.member.Member.{Member}
use Rattle.cg_group_rules.specs.Rebalance.{turned}
use Rattle.cg_group_state.proofs.Remaining.{all_stay}
use Rattle.cg_group_rules.specs.RebalancePlan.{IsPlan}
use Rattle.cg_group_rules.proofs.Rounds.{plan_holds}
use Rattle.cg_group_rules.proofs.rebalance.advance.Goals as goal

pub returns-clause-ok : goal.returns-clause-ok
returns-clause-ok c =
    let g : Group = c.args.group.now in
    let after = c.planned.new.effects in
    let P : List Member → Type 0 = λ ms. IsPlan c.args.now c.args.begins (record g { members = ms }) c.args.effects.now c.in_ok-round.round after in
    ap (λ (g : Group). turned g after) c.carry_out.ensures ∙ sym (plan_holds c.args.begins c.args.now g c.args.effects.now c.in_ok-round.round after (subst P (all_stay g.members) c.in_ok-round.ensures))
