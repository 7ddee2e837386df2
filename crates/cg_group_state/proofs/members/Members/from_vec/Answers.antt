use Rattle.std.proofs.Common.{◌++◌, ap, is_some, ◌∙◌}
use Rattle.cg_group_state.specs.Membership.{find_member}
use Rattle.cg_group_state.proofs.Keyed.{next_fresh}
use Rattle.cg_group_state.proofs.members.Members.from_vec.Goals as goal

pub append_one-requires-clause-own_id : goal.append_one-requires-clause-own_id
append_one-requires-clause-own_id c =
    ap (λ ms. is_some (find_member c.in-Some.member.id ms)) c.loop-member.invariant.all
    ∙ next_fresh c.args.items.items c.loop-member.yielded c.next.new.self.rest.items c.in-Some.member (c.loop-member.invariant.left ∙ ap (λ l. c.loop-member.yielded ++ l) c.in-Some.ensures.steps.0) c.requires.distinct.0
