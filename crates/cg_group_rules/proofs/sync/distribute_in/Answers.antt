use Rattle.cg_group_rules.proofs.Distributing.{distributed_is}
use Rattle.cg_group_rules.proofs.sync.distribute_in.Goals as goal

pub returns-clause-ok : goal.returns-clause-ok
returns-clause-ok c =
    distributed_is c.args.context.now c.args.id.now c.args.context.ticket c.args.entries c.in_ok-list.list.items c.in-Some.member.now c.args.group.now c.hand_over.new.group c.displacing-effects.result c.hand_over.new.effects
    c.in-Some.ensures c.in_ok-list.ensures c.displacing-effects.ensures (rw c.as_mut_slice.ensures.value at c.in_ok-hand_over.ensures.ok)
