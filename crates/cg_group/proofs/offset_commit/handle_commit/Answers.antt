use Rattle.std.proofs.Common.{◌≡◌, ℕ, true, List, Some, None, Err, length, map, rules, sym, ap, subst, ◌∙◌}
use Rattle.std.specs.Prelude.{is_ok}
use Rattle.cg_names.specs.declared.code.Code.TheVariants.{InvalidGroupId}
use Rattle.cg_group_state.specs.declared.group.Group.{Group}
use Rattle.cg_request.specs.Commits.{kept_entry}
use Rattle.cg_request.specs.declared.ticket.Ticket.{Ticket}
use Rattle.cg_group_rules.specs.OffsetCommit.{commit_at, commit_effects, commit_unheld}
use Rattle.cg_group.specs.InPlace.{IsCommitIn}
use Rattle.cg_group.specs.Machine.{commit, concluded}
use Rattle.cg_group_table.specs.GroupTable.{at_moment, find_group, outcome}
use Rattle.cg_group_table.specs.SessionIndex.{StayParked}
use Rattle.cg_group.proofs.Committers.{commit_is_taken, commit_stored, heard_in_order, stay_committed, unheard_again}
use Rattle.cg_group.proofs.InPlace.{concluded_refused, on_err}
use Rattle.cg_group.proofs.Made.{commit_absent, commit_unnamed}
use Rattle.cg_group.proofs.offset_commit.handle_commit.Goals as goal

pub returns-in_default-clause-ok : goal.returns-in_default-clause-ok
returns-in_default-clause-ok c =
    concluded_refused c.args.now c.args.held.now c.args.ticket (commit c.args.now c.args.r c.args.ticket c.args.held.now) InvalidGroupId c.reply_alone.result
    (commit_unnamed c.args.now c.args.r c.args.ticket c.args.held.now c.in_default.is) c.reply_alone.ensures

-- a group that is not loaded

pub returns-in_err-effects-in-None-clause-taken : goal.returns-in_err-effects-in-None-clause-taken
returns-in_err-effects-in-None-clause-taken c =
    let own = c.in-Some.own in
    let id = c.in-Some-group.id in
    let both : Some own ≡ Some id = sym c.in-Some.is ∙ c.in-Some-group.is in
    let same : own ≡ id = cc in
    let none : find_group id c.args.held.now ≡ None = ap (λ i. find_group i c.args.held.now) (sym same) ∙ c.in-None.ensures.0 in
    let taken : is_ok (commit_unheld c.args.now c.args.r.generation c.args.r.entries c.args.ticket (length c.check_commit-checked.new.held) id) ≡ true = search rules in
    on_err _ _
    (ap is_ok (commit_absent c.args.now c.args.r c.args.ticket c.args.held.now id c.in-Some-group.is none)
    ∙ ap (λ (gs : List Group). is_ok (commit_unheld c.args.now c.args.r.generation c.args.r.entries c.args.ticket (length gs) id)) (sym c.in-None.ensures.1)
    ∙ taken)

pub returns-in-None-clause-ok : goal.returns-in-None-clause-ok
returns-in-None-clause-ok c =
    let own = c.in-Some.own in
    let id = c.in-Some-group.id in
    let both : Some own ≡ Some id = sym c.in-Some.is ∙ c.in-Some-group.is in
    let same : own ≡ id = cc in
    let none : find_group id c.args.held.now ≡ None = ap (λ i. find_group i c.args.held.now) (sym same) ∙ c.in-None.ensures.0 in
    let apart : concluded (at_moment c.args.now c.check_commit-checked.new.held) c.args.ticket (commit_unheld c.args.now c.args.r.generation c.args.r.entries c.args.ticket (length c.check_commit-checked.new.held) id) ≡ outcome (at_moment c.args.now c.commit_apart.new.held) c.in_ok-effects-in-None.effects = search rules in
    ap (concluded (at_moment c.args.now c.args.held.now) c.args.ticket) (commit_absent c.args.now c.args.r c.args.ticket c.args.held.now id c.in-Some-group.is none)
    ∙ ap (λ (gs : List Group). concluded (at_moment c.args.now gs) c.args.ticket (commit_unheld c.args.now c.args.r.generation c.args.r.entries c.args.ticket (length gs) id)) (sym c.in-None.ensures.1)
    ∙ apart

-- a COMMIT that is refused in its group

pub returns-in-Some-Err-clause-ok : goal.returns-in-Some-Err-clause-ok
returns-in-Some-Err-clause-ok c =
    let refused : ((now : ℕ) (ticket : Ticket) → commit now c.args.r ticket c.args.held.now ≡ Err c.in-Some-Err.code) × (c.check_commit-checked.new.held ≡ c.args.held.now) = search rules in
    concluded_refused c.args.now c.args.held.now c.args.ticket (commit c.args.now c.args.r c.args.ticket c.args.held.now) c.in-Some-Err.code c.reply_alone-in-Some-Err.result (refused.0 c.args.now c.args.ticket) c.reply_alone-in-Some-Err.ensures
    ∙ ap (λ (gs : List Group). outcome (at_moment c.args.now gs) c.reply_alone-in-Some-Err.result) (sym refused.1)

-- a COMMIT that passes its checks

pub commit_heard-requires-clause-in_order : goal.commit_heard-requires-clause-in_order
commit_heard-requires-clause-in_order c =
    let at : IsCommitIn c.args.now c.args.r c.args.held.now c.check_commit-checked.new.held c.in-Some.own c.in-Some-Ok.before = search rules in
    heard_in_order c.args.now c.args.r c.args.held.now c.check_commit-checked.new.held c.in-Some.own c.in-Some-Ok.before at

pub returns-in_err-effects-in-Some-Ok-clause-parked : goal.returns-in_err-effects-in-Some-Ok-clause-parked
returns-in_err-effects-in-Some-Ok-clause-parked c =
    let at : IsCommitIn c.args.now c.args.r c.args.held.now c.check_commit-checked.new.held c.in-Some.own c.in-Some-Ok.before = search rules in
    let own = c.in-Some.own in
    let id = c.in-Some-group.id in
    let both : Some own ≡ Some id = sym c.in-Some.is ∙ c.in-Some-group.is in
    let same : own ≡ id = cc in
    let P : List Group → Type 0 = λ gs. StayParked c.args.held.now gs in
    subst P (sym (unheard_again c.args.now c.args.r c.args.held.now c.check_commit-checked.new.held c.in-Some.own c.in-Some-Ok.before at c.commit_heard.new.held (λ k found. c.in_err-effects-in-Some-Ok.ensures.back k (ap (λ i. find_group i c.check_commit-checked.new.held) (sym same) ∙ found)))) (λ q x h. h)

pub returns-in_err-effects-in-Some-Ok-clause-err : goal.returns-in_err-effects-in-Some-Ok-clause-err
returns-in_err-effects-in-Some-Ok-clause-err c =
    let at : IsCommitIn c.args.now c.args.r c.args.held.now c.check_commit-checked.new.held c.in-Some.own c.in-Some-Ok.before = search rules in
    let own = c.in-Some.own in
    let id = c.in-Some-group.id in
    let both : Some own ≡ Some id = sym c.in-Some.is ∙ c.in-Some-group.is in
    let same : own ≡ id = cc in
    let unchanged : (c.commit_heard.new.held ≡ c.args.held.now) × (c.commit_heard.new.offsets ≡ c.args.offsets.now) = (unheard_again c.args.now c.args.r c.args.held.now c.check_commit-checked.new.held c.in-Some.own c.in-Some-Ok.before at c.commit_heard.new.held (λ k found. c.in_err-effects-in-Some-Ok.ensures.back k (ap (λ i. find_group i c.check_commit-checked.new.held) (sym same) ∙ found)), c.in_err-effects-in-Some-Ok.ensures.err) in
    on_err _ _ unchanged

pub returns-in_err-effects-in-Some-Ok-clause-taken : goal.returns-in_err-effects-in-Some-Ok-clause-taken
returns-in_err-effects-in-Some-Ok-clause-taken c =
    let at : IsCommitIn c.args.now c.args.r c.args.held.now c.check_commit-checked.new.held c.in-Some.own c.in-Some-Ok.before = search rules in
    on_err _ _ (commit_is_taken c.args.now c.args.r c.args.held.now c.check_commit-checked.new.held c.in-Some.own c.in-Some-Ok.before at c.args.ticket)

pub returns-clause-ok : goal.returns-clause-ok
returns-clause-ok c =
    let at : IsCommitIn c.args.now c.args.r c.args.held.now c.check_commit-checked.new.held c.in-Some.own c.in-Some-Ok.before = search rules in
    let own = c.in-Some.own in
    let id = c.in-Some-group.id in
    let both : Some own ≡ Some id = sym c.in-Some.is ∙ c.in-Some-group.is in
    let same : own ≡ id = cc in
    let stored = c.in_ok-effects-in-Some-Ok.ensures.ok in
    let e = c.in_ok-effects-in-Some-Ok.effects in
    commit_stored c.args.now c.args.r c.args.held.now c.check_commit-checked.new.held c.in-Some.own c.in-Some-Ok.before at c.args.ticket e (stored.1 ∙ ap (λ i. commit_effects (commit_at c.args.now (map kept_entry c.args.r.entries) i) c.args.ticket) (sym same))
    ∙ ap (λ (gs : List Group). outcome (at_moment c.args.now gs) e) (sym stored.0)

pub returns-clause-parked : goal.returns-clause-parked
returns-clause-parked c =
    let at : IsCommitIn c.args.now c.args.r c.args.held.now c.check_commit-checked.new.held c.in-Some.own c.in-Some-Ok.before = search rules in
    let P : List Group → Type 0 = λ gs. StayParked c.args.held.now gs in
    subst P (sym c.in_ok-effects-in-Some-Ok.ensures.ok.0) (stay_committed c.args.now c.args.r c.args.held.now c.check_commit-checked.new.held c.in-Some.own c.in-Some-Ok.before at)
