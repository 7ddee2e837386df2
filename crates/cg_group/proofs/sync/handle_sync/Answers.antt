use Rattle.std.proofs.Common.{◌≡◌, ℕ, Err, is_some, rules, ap}
use Rattle.cg_request.specs.declared.ticket.Ticket.{Ticket}
use Rattle.cg_group_rules.specs.declared.sync.SyncCase.TheVariants.{Current, Parked, Leading}
use Rattle.cg_group.specs.InPlace.{IsSync}
use Rattle.cg_group.specs.Machine.{sync}
use Rattle.cg_group_table.specs.SessionIndex.{is_home}
use Rattle.cg_group.proofs.Displacing.{call_of_sync, keeps_sync, parks_synced, sync_is_parked}
use Rattle.cg_group.proofs.Handing.{keeps_leading, leading_is, parks_leading}
use Rattle.cg_group.proofs.InPlace.{concluded_refused, on_err, sync_is_taken}
use Rattle.cg_group.proofs.sync.handle_sync.Goals as goal

pub returns-in-Err-clause-ok : goal.returns-in-Err-clause-ok
returns-in-Err-clause-ok c =
    let refused : (now : ℕ) (ticket : Ticket) → sync now c.args.r ticket c.args.held.now ≡ Err c.in-Err.code = search rules in
    concluded_refused c.args.now c.args.held.now c.args.ticket (sync c.args.now c.args.r c.args.ticket c.args.held.now) c.in-Err.code c.reply_alone.result (refused c.args.now c.args.ticket) c.reply_alone.ensures

-- a SYNC that gets its assignment at once

pub returns-in-Current-clause-known : goal.returns-in-Current-clause-known
returns-in-Current-clause-known c =
    let at : IsSync c.args.r c.args.held.now c.in-Ok.taken.0.now c.in-Ok.taken.1.now (Current c.in-Current.assignment) = search rules in
    c.sync_in.ensures.known c.args.r (is_home c.args.homes.now) at c.requires.known

-- a SYNC that is only parked

pub park_in-requires-clause-loaded : goal.park_in-requires-clause-loaded
park_in-requires-clause-loaded c =
    let at : IsSync c.args.r c.args.held.now c.in-Ok.taken.0.now c.in-Ok.taken.1.now (Parked c.in-Parked.older) = search rules in
    ap is_some at.named.found

pub park_in-requires-clause-keeps : goal.park_in-requires-clause-keeps
park_in-requires-clause-keeps c = keeps_sync _ _ _

pub park_in-requires-clause-suits : goal.park_in-requires-clause-suits
park_in-requires-clause-suits c =
    let at : IsSync c.args.r c.args.held.now c.in-Ok.taken.0.now c.in-Ok.taken.1.now (Parked c.in-Parked.older) = search rules in
    λ g found. call_of_sync c.args.now c.args.r c.args.ticket c.args.held.now c.in-Ok.taken.0.now c.in-Ok.taken.1.now c.in-Parked.older at g found

pub park_in-requires-clause-parks : goal.park_in-requires-clause-parks
park_in-requires-clause-parks c =
    let at : IsSync c.args.r c.args.held.now c.in-Ok.taken.0.now c.in-Ok.taken.1.now (Parked c.in-Parked.older) = search rules in
    λ g after e found is. parks_synced c.args.now c.args.r c.args.ticket c.args.held.now c.in-Ok.taken.0.now c.in-Ok.taken.1.now c.in-Parked.older at g after e found is

pub returns-in_err-effects-in-Parked-clause-taken : goal.returns-in_err-effects-in-Parked-clause-taken
returns-in_err-effects-in-Parked-clause-taken c =
    let at : IsSync c.args.r c.args.held.now c.in-Ok.taken.0.now c.in-Ok.taken.1.now (Parked c.in-Parked.older) = search rules in
    on_err _ _ (sync_is_taken c.args.r c.args.held.now c.in-Ok.taken.0.now c.in-Ok.taken.1.now (Parked c.in-Parked.older) at c.args.now c.args.ticket)

pub returns-in_ok-effects-in-Parked-clause-ok : goal.returns-in_ok-effects-in-Parked-clause-ok
returns-in_ok-effects-in-Parked-clause-ok c =
    let at : IsSync c.args.r c.args.held.now c.in-Ok.taken.0.now c.in-Ok.taken.1.now (Parked c.in-Parked.older) = search rules in
    sync_is_parked c.args.now c.args.r c.args.ticket c.args.held.now c.in-Ok.taken.0.now c.in-Ok.taken.1.now c.in-Parked.older at c.park_in.new.held c.in_ok-effects-in-Parked.effects c.in_ok-effects-in-Parked.ensures.ok

-- the SYNC of a leader

pub returns-in_err-group-in-Leading-clause-taken : goal.returns-in_err-group-in-Leading-clause-taken
returns-in_err-group-in-Leading-clause-taken c =
    let at : IsSync c.args.r c.args.held.now c.in-Ok.taken.0.now c.in-Ok.taken.1.now Leading = search rules in
    on_err _ _ (sync_is_taken c.args.r c.args.held.now c.in-Ok.taken.0.now c.in-Ok.taken.1.now Leading at c.args.now c.args.ticket)

pub returns-in_err-leader-in-Leading-clause-taken : goal.returns-in_err-leader-in-Leading-clause-taken
returns-in_err-leader-in-Leading-clause-taken c =
    let at : IsSync c.args.r c.args.held.now c.in-Ok.taken.0.now c.in-Ok.taken.1.now Leading = search rules in
    on_err _ _ (sync_is_taken c.args.r c.args.held.now c.in-Ok.taken.0.now c.in-Ok.taken.1.now Leading at c.args.now c.args.ticket)

pub step_parking-requires-clause-keeps : goal.step_parking-requires-clause-keeps
step_parking-requires-clause-keeps c = keeps_leading _ _ _ _

pub step_parking-requires-clause-parks : goal.step_parking-requires-clause-parks
step_parking-requires-clause-parks c =
    let at : IsSync c.args.r c.args.held.now c.in_ok-group-in-Leading.group c.in_ok-leader-in-Leading.leader Leading = search rules in
    λ g after e found is. parks_leading c.args.now c.args.r c.args.ticket c.args.held.now c.in_ok-group-in-Leading.group c.in_ok-leader-in-Leading.leader at g after e found is

pub returns-in_err-effects-in-Leading-clause-taken : goal.returns-in_err-effects-in-Leading-clause-taken
returns-in_err-effects-in-Leading-clause-taken c =
    let at : IsSync c.args.r c.args.held.now c.in_ok-group-in-Leading.group c.in_ok-leader-in-Leading.leader Leading = search rules in
    on_err _ _ (sync_is_taken c.args.r c.args.held.now c.in_ok-group-in-Leading.group c.in_ok-leader-in-Leading.leader Leading at c.args.now c.args.ticket)

pub returns-in_ok-effects-in-Leading-clause-ok : goal.returns-in_ok-effects-in-Leading-clause-ok
returns-in_ok-effects-in-Leading-clause-ok c =
    let at : IsSync c.args.r c.args.held.now c.in_ok-group-in-Leading.group c.in_ok-leader-in-Leading.leader Leading = search rules in
    leading_is c.args.now c.args.r c.args.ticket c.args.held.now c.in_ok-group-in-Leading.group c.in_ok-leader-in-Leading.leader at c.step_parking.new.held c.in_ok-effects-in-Leading.effects c.in_ok-effects-in-Leading.ensures.ok
