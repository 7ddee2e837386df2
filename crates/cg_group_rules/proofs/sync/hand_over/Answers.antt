use Rattle.std.proofs.Common.{ap, ◌∙◌}
use Rattle.cg_group_state.specs.declared.group.Group.{Group}
use Rattle.cg_group_state.specs.Membership.{is_led}
use Rattle.cg_group_rules.proofs.Distributing.{as_many_back, led_handed, taken_back, told}
use Rattle.cg_group_rules.proofs.sync.hand_over.Goals as goal

pub tell-requires : goal.tell-requires
tell-requires c =
    ap (λ (g : Group). is_led g) c.hand_out.ensures.group
    ∙ led_handed c.args.context.now c.args.id.now c.args.context.ticket c.args.list.now c.args.group.now c.requires.leads

pub hand_back-requires : goal.hand_back-requires
hand_back-requires c =
    as_many_back c.args.context.now c.args.id.now c.args.context.ticket c.args.list.now c.hand_out.new.list c.args.group.now c.hand_out.new.group
    c.hand_out.ensures.list c.hand_out.ensures.group

pub returns-in-Ok-clause-ok : goal.returns-in-Ok-clause-ok
returns-in-Ok-clause-ok c =
    told c.args.context.now c.args.id.now c.args.context.ticket c.args.list.now c.args.group.now c.hand_out.new.group c.answer.new.self c.args.effects.now c.tell.new.effects
    c.hand_out.ensures.group c.in-Ok.ensures c.answer.ensures

pub returns-in-Err-clause-err : goal.returns-in-Err-clause-err
returns-in-Err-clause-err c =
    let leader = c.requires.leads in
    let was = c.requires.leader leader.0 leader.1 in
    taken_back c.args.context.now c.args.id.now c.args.context.ticket c.args.list.now c.hand_out.new.list c.args.group.now c.hand_out.new.group c.hand_back.new.group leader.0 c.args.leader.0 c.args.leader.1
    leader.1 c.requires.many (ap (λ p. p.0) was, ap (λ p. p.1) was) c.hand_out.ensures.list c.hand_out.ensures.group c.hand_back.ensures
