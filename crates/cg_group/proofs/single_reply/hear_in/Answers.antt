use Rattle.std.proofs.Common.{inr}
use Rattle.cg_group_state.specs.Membership.{hearing}
use Rattle.cg_group_table.proofs.Mapped.{changed_by}
use Rattle.cg_group.proofs.single_reply.hear_in.Goals as goal

pub hear-heard-requires-clause-hears : goal.hear-heard-requires-clause-hears
hear-heard-requires-clause-hears c = λ g after _ is. inr (c.args.id.now, is)

pub returns-clause-groups : goal.returns-clause-groups
returns-clause-groups c = λ g found. changed_by _ (hearing c.args.now c.args.id.now) (λ _ _ _ is. is) c.args.held.now c.hear-heard.new.self g c.hear-heard.result (c.hear-heard.ensures.changed g found)
