use Rattle.std.proofs.Common.{List, fold, ap, ◌∙◌, arith}
use Rattle.std.proofs.lemmas.List.{take_all}
use Rattle.cg_group_state.specs.declared.member.Member.{Member}
use Rattle.cg_group_rules.proofs.Lasting.{greatest_staying, raised}
use Rattle.cg_group_rules.proofs.tick.greatest_rebalance.Goals as goal

pub returns : goal.returns
returns c =
    let who = c.args.who.now in
    let ms : List Member = c.args.members.now in
    c.loop-member.invariant ∙ ap (fold (raised who) 0) (take_all c.loop-member.member-index ms (omega arith)) ∙ greatest_staying who ms
