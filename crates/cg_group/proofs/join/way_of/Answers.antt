use Rattle.std.proofs.Common.{◌≡◌, ℕ, true, None, ap, sym, subst, ◌∙◌}
use Rattle.std.specs.Option.{option_copied}
use Rattle.std.specs.Prelude.{is_ok}
use Rattle.cg_group_state.specs.JoinTerms.{is_session_refused}
use Rattle.cg_request.specs.declared.request_fields.JoinRequest.{JoinRequest}
use Rattle.cg_request.specs.declared.ticket.Ticket.{Ticket}
use Rattle.cg_group_rules.specs.JoinChecks.{join_unheld}
use Rattle.cg_group_rules.specs.JoinWays.{IsJoinWay}
use Rattle.cg_group_table.specs.GroupTable.{find_group}
use Rattle.cg_group.specs.Machine.{join}
use Rattle.cg_group.proofs.InPlace.{join_here, on_err}
use Rattle.cg_group.proofs.JoinSteps.{way_held}
use Rattle.cg_group.proofs.NewGroups.{join_absent}
use Rattle.cg_group.proofs.join.way_of.Goals as goal

pub returns-in-Some-unheld_refusal-clause-ok : goal.returns-in-Some-unheld_refusal-clause-ok
returns-in-Some-unheld_refusal-clause-ok c =
    let own = c.args.own.now in
    let none : find_group own c.args.groups.now ≡ None = sym c.find.ensures.found ∙ ap option_copied c.in-None.is in
    λ now ticket.
    join_absent now c.args.r.now c.args.fresh ticket c.args.groups.now own c.requires.named none c.requires.lawful
    ∙ ap (λ n. join_unheld now c.args.r.now c.args.fresh ticket n own) (sym c.len.ensures)
    ∙ ap (λ q. join_unheld now q c.args.fresh ticket c.len.result own) (sym c.r.view_is)
    ∙ c.in-Some-unheld_refusal.ensures now c.args.fresh ticket own

pub returns-in_err-way-in-Some-clause-taken : goal.returns-in_err-way-in-Some-clause-taken
returns-in_err-way-in-Some-clause-taken c =
    let q = c.r.inside.request in
    let T : JoinRequest → Type 0 = λ x. (now : ℕ) (ticket : Ticket) → is_ok (join now x c.args.fresh ticket c.args.groups.now) ≡ true in
    let taken : T q =
    λ now ticket.
    ap is_ok (join_here now q c.args.fresh ticket c.args.groups.now c.args.own.now c.in-Some.group.now (record { named = ap (λ (x : JoinRequest). x.group) c.r.view_is ∙ c.requires.named; found = sym c.find.ensures.found ∙ ap option_copied c.in-Some.is }) (ap is_session_refused c.r.view_is ∙ c.requires.lawful))
    ∙ c.in_err-way-in-Some.ensures.err now ticket in
    on_err _ _ (subst T c.r.view_is taken)

pub returns-in_ok-way-in-Some-clause-ok : goal.returns-in_ok-way-in-Some-clause-ok
returns-in_ok-way-in-Some-clause-ok c =
    let g = c.in-Some.group.now in
    let W : JoinRequest → Type 0 = λ x. IsJoinWay x c.args.fresh g c.in_ok-way-in-Some.way in
    way_held c.args.r.now c.args.fresh c.args.groups.now c.args.own.now g (record { named = c.requires.named; found = sym c.find.ensures.found ∙ ap option_copied c.in-Some.is }) c.requires.lawful c.in_ok-way-in-Some.way (subst W c.r.view_is c.in_ok-way-in-Some.ensures.ok)
