use Rattle.std.proofs.Common.{List, sym, ap, ◌∙◌}
use Rattle.cg_group_state.specs.declared.member.Member.{Member}
use Rattle.cg_group_state.specs.Membership.{is_empty}
use Rattle.cg_group_rules.specs.Rebalance.{emptied_command}
use Rattle.cg_group_state.specs.Staying.{remaining}
use Rattle.cg_group_rules.proofs.Rounds.{completed_empty, completed_told}
use Rattle.cg_group_rules.specs.RebalancePlan.{among}
use Rattle.cg_group_rules.proofs.rebalance.completion.Goals as goal

pub returns-then-none_stays : goal.returns-then-none_stays
unfolding emptied_command
returns-then-none_stays c =
    completed_empty c.args.now (among c.args.who.now c.args.group.now) c.args.effects.now c.in_ok-round.round c.emptied_round.new.commands
    (ap (λ (ms : List Member). is_empty (remaining c.args.who.now ms)) (sym c.as_slice.ensures.value) ∙ sym c.none_stays.ensures ∙ c.if-none_stays.true) c.in_ok-round.ensures.round c.in_ok-round.ensures.commands

pub returns : goal.returns
returns c =
    completed_told c.args.now (among c.args.who.now c.args.group.now) c.args.effects.now c.in_ok-round-2.round c.told_round.new.replies
    (ap (λ (ms : List Member). is_empty (remaining c.args.who.now ms)) (sym c.as_slice.ensures.value) ∙ sym c.none_stays.ensures ∙ c.if-none_stays.false) c.in_ok-round-2.ensures.round c.in_ok-round-2.ensures.replies
