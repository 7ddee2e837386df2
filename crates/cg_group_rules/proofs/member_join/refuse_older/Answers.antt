use Rattle.std.proofs.Common.{◌++◌, [], List, ap, sym, ◌∙◌}
use Rattle.std.specs.Prelude.{if◌then◌else◌}
use Rattle.cg_names.specs.declared.code.Code.TheVariants.{RebalanceInProgress}
use Rattle.cg_group_state.specs.declared.calls.Calls.TheVariants.{Joins, Syncs}
use Rattle.cg_group_state.specs.declared.member.Member.{Member}
use Rattle.cg_group_rules.specs.Join.{displaced}
use Rattle.cg_group_state.specs.Membership.{find_member}
use Rattle.cg_group_state.specs.Waiting.{after_answers, answers, refusing}
use Rattle.cg_group_rules.specs.ParkedJoin.{refused_call}
use Rattle.cg_group_rules.proofs.Rejoining.{joins_displaced}
use Rattle.cg_group_rules.proofs.member_join.refuse_older.Goals as goal

pub returns-in_ok-refuse_call : goal.returns-in_ok-refuse_call
returns-in_ok-refuse_call c =
    λ now.
    let id = c.args.id.now in
    let ms : List Member = c.args.members.now in
    let old = c.args.replies.now in
    c.in_ok-refuse_call.ensures
    ∙ ap (λ rs. rs ++ refused_call Joins (find_member id ms)) (c.in_ok-refuse_syncs.ensures ∙ ap (λ (xs : List Member). old ++ answers Syncs (refusing RebalanceInProgress) xs) c.as_slice.ensures.value)
    ∙ ap (λ rs. (old ++ answers Syncs (refusing RebalanceInProgress) ms) ++ rs) (joins_displaced now id ms)
    ∙ ap (λ b. (old ++ (if b then answers Syncs (refusing RebalanceInProgress) ms else [])) ++ displaced (find_member id (if b then after_answers Syncs now ms else ms))) (sym c.if-begins.true)
