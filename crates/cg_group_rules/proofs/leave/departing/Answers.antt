use Rattle.std.proofs.Common.{◌≡◌, true, Ok, rules, sym, ap, ◌∙◌}
use Rattle.std.specs.List.{list_any}
use Rattle.cg_group_rules.specs.Leave.{leave_held, leave_taken}
use Rattle.cg_group_state.specs.Checks.{◌>>=◌}
use Rattle.cg_group_rules.proofs.Leavers.{leave_left, others_left}
use Rattle.cg_group_rules.proofs.Lagging.{lags}
use Rattle.cg_group_rules.proofs.leave.departing.Goals as goal

pub returns-clause-left : goal.returns-clause-left
unfolding leave_held
returns-clause-left c =
    λ now ticket.
    let g = c.args.group.now in
    let m = c.in-Ok.member.now in
    let behind : list_any (lags m.id) g.members ≡ true = sym (c.waits_for_others.ensures ∙ ap (list_any _) c.as_slice.ensures.value) ∙ c.if-not-waits_for_others.false in
    ap (λ o. o >>= λ m. Ok (leave_taken now m.id ticket m g)) c.in-Ok.ensures ∙ ap Ok (leave_left now m.id ticket m g (search rules) behind)

pub returns-clause-others : goal.returns-clause-others
returns-clause-others c = λ passes h. others_left c.args.group.now.members c.in-Ok.member.now passes (search rules) h c.args.r.now.instance c.args.r.now.member c.in-Ok.ensures
