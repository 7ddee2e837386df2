use Rattle.std.proofs.Common.{◌≡◌, List, ap, subst, ◌∙◌}
use Rattle.std.specs.Prelude.{IfOk}
use Rattle.cg_group_state.specs.declared.group.Group.{Group}
use Rattle.cg_group_state.specs.declared.member.Member.{Member}
use Rattle.cg_group_state.specs.declared.reply.Reply.{Reply}
use Rattle.cg_group_rules.specs.Rebalance.{joined_members, joined_reply}
use Rattle.cg_group_state.proofs.Remaining.{all_stay}
use Rattle.cg_group_rules.proofs.join_reply.joined_reply.Goals as goal

pub returns : goal.returns
unfolding joined_reply joined_members
returns c =
    let g : Group = c.args.group.now in
    let P : Reply → Type 0 = λ r. IfOk c.told_reply.result (λ reply. reply ≡ r) in
    subst P (ap (λ (ms : List Member). joined_reply (record g { members = ms }) c.args.member.now) (all_stay c.as_slice.result.now ∙ c.as_slice.ensures.value)) c.told_reply.ensures
