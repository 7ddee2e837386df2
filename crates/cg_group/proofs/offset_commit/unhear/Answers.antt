use Rattle.std.proofs.Common.{inr, Some, ap, sym, ◌∙◌}
use Rattle.cg_group_state.specs.Membership.{hearing}
use Rattle.cg_group_rules.specs.OffsetCommit.{heard_at}
use Rattle.cg_group_table.specs.GroupTable.{with_group}
use Rattle.cg_group_table.proofs.InOrder.{with_group-found}
use Rattle.cg_group_table.proofs.Mapped.{changed_by}
use Rattle.cg_group.proofs.offset_commit.unhear.Goals as goal

pub hear-heard-requires-clause-hears : goal.hear-heard-requires-clause-hears
hear-heard-requires-clause-hears c = λ g after _ is. inr (c.in-Some.id, is)

pub returns-in-Some-before : goal.returns-in-Some-before
returns-in-Some-before c =
    let gs = c.args.held.now in
    λ g found.
    changed_by _ (hearing c.in-Some-before.now c.in-Some.id) (λ _ _ _ is. is) gs c.hear-heard.new.self g c.hear-heard.result (c.hear-heard.ensures.changed g found)
    ∙ sym (ap (λ o. with_group (heard_at o c.args.before g) gs) c.in-Some.is ∙ ap (λ b. with_group (heard_at (Some c.in-Some.id) b g) gs) c.in-Some-before.is)

pub returns-in_default-before : goal.returns-in_default-before
returns-in_default-before c =
    let gs = c.args.held.now in
    λ g found.
    sym (ap (λ o. with_group (heard_at o c.args.before g) gs) c.in-Some.is ∙ ap (λ b. with_group (heard_at (Some c.in-Some.id) b g) gs) c.in_default-before.is ∙ with_group-found c.args.own.now gs g c.requires found)

pub returns-in_default : goal.returns-in_default
returns-in_default c =
    let gs = c.args.held.now in
    λ g found. sym (ap (λ o. with_group (heard_at o c.args.before g) gs) c.in_default.is ∙ with_group-found c.args.own.now gs g c.requires found)
