use Rattle.std.proofs.Common.{rules, ap, ◌∙◌}
use Rattle.cg_group_state.specs.declared.group.Group.{Group}
use Rattle.cg_request.specs.declared.event.Event.TheVariants as event
use Rattle.cg_group.specs.InPlace.{IsDeparture}
use Rattle.cg_group.specs.Machine.{leave, handled}
use Rattle.cg_group_table.proofs.Mapped.{changed_by}
use Rattle.cg_group_table.specs.SessionIndex.{is_home}
use Rattle.cg_group.proofs.Departures.{departed, departure_taken, keeps_without, tight_departed, without}
use Rattle.cg_group.proofs.InPlace.{concluded_refused, on_err}
use Rattle.cg_group.proofs.KnownSessions.{known-after}
use Rattle.cg_group.proofs.LeaveSteps.{keeps_left, known_left, leaving_is, loaded_left, suits_leaving, taken_left}
use Rattle.cg_group.proofs.leave.handle_leave.Goals as goal

-- a LEAVE that only removes its member

pub returns-in_err-effects-clause-taken : goal.returns-in_err-effects-clause-taken
returns-in_err-effects-clause-taken c =
    let at : IsDeparture c.args.r.now c.args.held.now c.in-Some.own.now c.in-Some.id c.in-Some.parked = search rules in
    on_err _ _ (departure_taken c.args.r.now c.args.held.now c.in-Some.own.now c.in-Some.id c.in-Some.parked at c.args.now c.args.ticket)

pub change-removed-requires-clause-keeps : goal.change-removed-requires-clause-keeps
change-removed-requires-clause-keeps c = λ g after _ is. ap (λ (k : Group). k.id) is ∙ keeps_without c.in-Some.id g

pub returns-in-Some-clause-known : goal.returns-in-Some-clause-known
unfolding handled
returns-in-Some-clause-known c =
    let at : IsDeparture c.args.r.now c.args.held.now c.in-Some.own.now c.in-Some.id c.in-Some.parked = search rules in
    c.settle_older.ensures.known
    (known-after (is_home c.args.homes.now) c.args.now c.args.held.now c.change-removed.new.self (event.Leave c.args.ticket c.args.r.now) c.in_ok-effects.effects tt
    (departed c.args.r.now c.args.held.now c.in-Some.own.now c.in-Some.id c.in-Some.parked at c.args.now c.args.ticket c.change-removed.new.self c.in_ok-effects.effects (λ g found. changed_by _ (without c.in-Some.id) (λ _ _ _ is. is) c.args.held.now c.change-removed.new.self g c.change-removed.result (c.change-removed.ensures.changed g found)) c.in_ok-effects.ensures) c.requires.known)

pub returns-in-Some-clause-tight : goal.returns-in-Some-clause-tight
returns-in-Some-clause-tight c =
    let at : IsDeparture c.args.r.now c.args.held.now c.in-Some.own.now c.in-Some.id c.in-Some.parked = search rules in
    tight_departed c.args.r.now c.args.held.now c.in-Some.own.now c.in-Some.id c.in-Some.parked at c.args.homes.now c.settle_older.new.homes c.change-removed.new.self c.settle_older.ensures.fewer c.settle_older.ensures.filled (λ g found. changed_by _ (without c.in-Some.id) (λ _ _ _ is. is) c.args.held.now c.change-removed.new.self g c.change-removed.result (c.change-removed.ensures.changed g found)) c.settle_older.ensures.gone c.requires.tight

pub returns-in-Some-clause-ok : goal.returns-in-Some-clause-ok
returns-in-Some-clause-ok c =
    let at : IsDeparture c.args.r.now c.args.held.now c.in-Some.own.now c.in-Some.id c.in-Some.parked = search rules in
    departed c.args.r.now c.args.held.now c.in-Some.own.now c.in-Some.id c.in-Some.parked at c.args.now c.args.ticket c.change-removed.new.self c.in_ok-effects.effects (λ g found. changed_by _ (without c.in-Some.id) (λ _ _ _ is. is) c.args.held.now c.change-removed.new.self g c.change-removed.result (c.change-removed.ensures.changed g found)) c.in_ok-effects.ensures

-- any other LEAVE

pub returns-in-Err-clause-ok : goal.returns-in-Err-clause-ok
returns-in-Err-clause-ok c =
    concluded_refused c.args.now c.args.held.now c.args.ticket (leave c.args.now c.args.r.now c.args.ticket c.args.held.now) c.in-Err.code c.reply_alone.result (c.in-Err.ensures c.args.now c.args.ticket) c.reply_alone.ensures

pub step_leaving-requires-clause-loaded : goal.step_leaving-requires-clause-loaded
step_leaving-requires-clause-loaded c = loaded_left c.args.now c.args.r.now c.args.ticket c.args.held.now c.in-Ok.own.now c.in-Ok.ensures

pub step_leaving-requires-clause-keeps : goal.step_leaving-requires-clause-keeps
step_leaving-requires-clause-keeps c = keeps_left c.args.now c.args.r.now c.args.ticket

pub step_leaving-requires-clause-suits : goal.step_leaving-requires-clause-suits
step_leaving-requires-clause-suits c = λ g found. suits_leaving c.args.now c.args.r.now c.args.ticket c.args.held.now c.in-Ok.own.now c.in-Ok.ensures g found

pub step_leaving-requires-clause-leaves : goal.step_leaving-requires-clause-leaves
step_leaving-requires-clause-leaves c = λ g after e found is. known_left c.args.now c.args.r.now c.args.ticket c.args.held.now c.in-Ok.own.now c.in-Ok.ensures g after e found is

pub returns-in_ok-effects-in-Ok-clause-ok : goal.returns-in_ok-effects-in-Ok-clause-ok
returns-in_ok-effects-in-Ok-clause-ok c =
    leaving_is c.args.now c.args.r.now c.args.ticket c.args.held.now c.in-Ok.own.now c.in-Ok.ensures c.step_leaving.new.held c.in_ok-effects-in-Ok.effects c.in_ok-effects-in-Ok.ensures.ok

pub returns-in_err-effects-in-Ok-clause-taken : goal.returns-in_err-effects-in-Ok-clause-taken
returns-in_err-effects-in-Ok-clause-taken c = on_err _ _ (taken_left c.args.now c.args.r.now c.args.ticket c.args.held.now c.in-Ok.own.now c.in-Ok.ensures)
