use Rattle.std.proofs.Common.{rules, ◌∙◌, sym}
use Rattle.cg_group_state.specs.declared.effects.Effects.{Effects}
use Rattle.cg_group_rules.specs.Rebalance.{turned}
use Rattle.cg_group_rules.proofs.Succession.{succeeded}
use Rattle.cg_group_rules.proofs.static_member.replace_static_member.Goals as goal

pub returns-in-Ok-clause-ok : goal.returns-in-Ok-clause-ok
returns-in-Ok-clause-ok c =
    λ old found.
    let e : Effects = record { commands = c.new-effects.result.commands; replies = c.succeed.new.replies } in
    succeeded c.args.context.now c.args.r c.args.id c.args.context.ticket old c.args.group.now c.in_ok-new.new c.in_ok-new.kept c.in_ok-own.own c.replace_in.new.group e c.in_ok-old.old.lead
    (turned c.go_on.new.group c.go_on.new.effects) c.in-Ok.ensures.ok c.in_ok-old.ensures.ok c.in_ok-old.ensures.lead
    (c.in_ok-new.ensures.replies old found ∙ search rules) (search rules) (c.in_ok-new.ensures.new old found) (c.in_ok-new.ensures.kept old found) (sym (search rules))
