use Rattle.std.proofs.Common.{◌≡◌, ◌++◌, Bool, [], List, not, subst, ap, ◌∙◌}
use Rattle.std.specs.Prelude.{if◌then◌else◌}
use Rattle.cg_names.specs.declared.code.Code.TheVariants.{RebalanceInProgress}
use Rattle.cg_group_state.specs.declared.calls.Calls.TheVariants.{Syncs}
use Rattle.cg_group_state.specs.declared.effects.Effects.{Effects}
use Rattle.cg_group_state.specs.declared.group.Group.{Group}
use Rattle.cg_group_state.specs.declared.member.Member.{Member}
use Rattle.cg_group_state.specs.declared.member.Waits.TheVariants.{Join}
use Rattle.cg_group_rules.specs.Join.{displaced, rejoined}
use Rattle.cg_group_state.specs.Waiting.{waits_with, after_answers, answers, refusing}
use Rattle.cg_group_state.specs.Membership.{find_member, with_member}
use Rattle.cg_group_rules.specs.Rebalance.{begun, try_complete_join, turned}
use Rattle.cg_group_rules.proofs.Rejoining.{parked_first}
use Rattle.cg_group_rules.proofs.member_join.rejoin.Goals as goal

pub returns-in-Ok-clause-ok : goal.returns-in-Ok-clause-ok
unfolding rejoined
returns-in-Ok-clause-ok c =
    let now = c.args.context.now in
    let id = c.args.id.now in
    let g : Group = c.args.group.now in
    let e : Effects = c.args.effects.now in
    let replies = c.refuse_older.new.replies in
    let P : Bool → Type 0 = λ b. replies ≡ (e.replies ++ (if not b then answers Syncs (refusing RebalanceInProgress) g.members else [])) ++ displaced (find_member id (if not b then after_answers Syncs now g.members else g.members)) in
    c.in-Ok.ensures.ok
    ∙ ap (λ (ms : List Member). try_complete_join now (turned (begun (not c.is_preparing-begins.result) now (record g { members = ms })) (record e { replies = replies }))) c.wait.ensures
    ∙ ap (λ b. try_complete_join now (turned (begun (not b) now (record g { members = with_member id (waits_with now (Join c.args.context.ticket)) g.members })) (record e { replies = replies }))) c.is_preparing-begins.ensures
    ∙ ap (try_complete_join now) (parked_first now id c.args.context.ticket g e replies (subst P c.is_preparing-begins.ensures (c.in_ok-refuse_older.ensures now)))
