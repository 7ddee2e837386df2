use Rattle.std.proofs.Common.{◌≡◌, ℕ, List, Some, Ok, Err, length, rules, ap, sym, subst, ◌∙◌}
use Rattle.std.specs.Prelude.{is_ok}
use Rattle.cg_group_state.specs.MemberId.{drawn, own_name}
use Rattle.cg_group_rules.specs.Join.{update_member_and_rebalance}
use Rattle.cg_group_state.specs.Membership.{find_instance}
use Rattle.cg_group_rules.specs.Rebalance.{turn_of}
use Rattle.cg_request.specs.declared.ticket.Ticket.{Ticket}
use Rattle.cg_group_rules.specs.JoinChecks.{join_placed, join_unheld}
use Rattle.cg_group_rules.specs.ParkedJoin.{entered}
use Rattle.cg_group_rules.specs.JoinWays.{ComesTo, IsEntering, IsNew, IsParked}
use Rattle.cg_group.specs.InPlace.{IsCurrentJoin, IsJoinIn, IsMaking}
use Rattle.cg_group.specs.Machine.{concluded, join}
use Rattle.cg_group_table.specs.GroupTable.{at_moment}
use Rattle.cg_group_table.specs.SessionIndex.{is_home}
use Rattle.cg_group.proofs.Displacing.{keeps_join}
use Rattle.cg_group.proofs.InPlace.{concluded_refused, on_err}
use Rattle.cg_group.proofs.JoinSteps.{joined_is, joined_parks, joined_taken, keeps_again, keeps_placed, parked_is, parked_parks, parked_taken}
use Rattle.cg_group.proofs.NewGroups.{join_absent}
use Rattle.cg_group.proofs.Newcomers.{parks_newcomer}
use Rattle.cg_group.proofs.join.handle_join_checked.Goals as goal

pub returns-in-Refused-clause-ok : goal.returns-in-Refused-clause-ok
returns-in-Refused-clause-ok c =
    let refused : (now : ℕ) (ticket : Ticket) → join now c.args.r c.args.fresh ticket c.args.held.now ≡ Err c.in-Refused.code = search rules in
    concluded_refused c.args.context.now c.args.held.now c.args.context.ticket (join c.args.context.now c.args.r c.args.fresh c.args.context.ticket c.args.held.now) c.in-Refused.code c.reply_alone.result (refused c.args.context.now c.args.context.ticket) c.reply_alone.ensures

pub returns-in-Current-clause-known : goal.returns-in-Current-clause-known
returns-in-Current-clause-known c =
    let at : IsCurrentJoin c.args.r c.args.held.now c.in-Some.own c.in-Current.id.now c.in-Current.reply = search rules in
    c.rejoin_in.ensures.known c.args.r (is_home c.args.homes.now) at c.requires.known

-- a JOIN that makes its group

pub returns-in_err-group-in-Creates-clause-taken : goal.returns-in_err-group-in-Creates-clause-taken
returns-in_err-group-in-Creates-clause-taken c =
    let at : IsMaking c.args.r c.args.held.now c.in-Some.own = search rules in
    let named : c.args.r.group ≡ Some c.in-Some.own = search rules in
    on_err _ _ (ap is_ok (join_absent c.args.context.now c.args.r c.args.fresh c.args.context.ticket c.args.held.now c.in-Some.own named at.absent c.requires.lawful) ∙ at.taken c.args.context.now c.args.fresh c.args.context.ticket c.in-Some.own)

pub returns-in_err-effects-in-Creates-clause-taken : goal.returns-in_err-effects-in-Creates-clause-taken
returns-in_err-effects-in-Creates-clause-taken c =
    let at : IsMaking c.args.r c.args.held.now c.in-Some.own = search rules in
    let named : c.args.r.group ≡ Some c.in-Some.own = search rules in
    on_err _ _ (ap is_ok (join_absent c.args.context.now c.args.r c.args.fresh c.args.context.ticket c.args.held.now c.in-Some.own named at.absent c.requires.lawful) ∙ at.taken c.args.context.now c.args.fresh c.args.context.ticket c.in-Some.own)

pub returns-in_ok-effects-in-Creates-clause-known : goal.returns-in_ok-effects-in-Creates-clause-known
returns-in_ok-effects-in-Creates-clause-known c =
    c.create_in.ensures.known (is_home c.args.homes.now) c.requires.known

pub returns-in_ok-effects-in-Creates-clause-ok : goal.returns-in_ok-effects-in-Creates-clause-ok
returns-in_ok-effects-in-Creates-clause-ok c =
    let at : IsMaking c.args.r c.args.held.now c.in-Some.own = search rules in
    let named : c.args.r.group ≡ Some c.in-Some.own = search rules in
    ap (concluded (at_moment c.args.context.now c.args.held.now) c.args.context.ticket) (join_absent c.args.context.now c.args.r c.args.fresh c.args.context.ticket c.args.held.now c.in-Some.own named at.absent c.requires.lawful ∙ ap (join_unheld c.args.context.now c.args.r c.args.fresh c.args.context.ticket (length c.args.held.now)) (sym c.in_ok-group-in-Creates.ensures.cases))
    ∙ c.in_ok-effects-in-Creates.ensures.ok

-- a JOIN of a known member that is only parked

pub returns-in_err-group-in-Parks-clause-taken : goal.returns-in_err-group-in-Parks-clause-taken
returns-in_err-group-in-Parks-clause-taken c =
    let at : IsJoinIn c.args.r c.args.held.now c.in-Some.own (λ g. IsParked c.args.r g c.in-Parks.id.now c.in-Parks.older) = search rules in
    on_err _ _ (parked_taken c.args.r c.args.held.now c.in-Some.own c.in-Parks.id.now c.in-Parks.older at c.args.context.now c.args.fresh c.args.context.ticket)

pub returns-in_err-id-in-Parks-clause-taken : goal.returns-in_err-id-in-Parks-clause-taken
returns-in_err-id-in-Parks-clause-taken c =
    let at : IsJoinIn c.args.r c.args.held.now c.in-Some.own (λ g. IsParked c.args.r g c.in-Parks.id.now c.in-Parks.older) = search rules in
    on_err _ _ (parked_taken c.args.r c.args.held.now c.in-Some.own c.in-Parks.id.now c.in-Parks.older at c.args.context.now c.args.fresh c.args.context.ticket)

pub returns-in_err-effects-in-Parks-clause-taken : goal.returns-in_err-effects-in-Parks-clause-taken
returns-in_err-effects-in-Parks-clause-taken c =
    let at : IsJoinIn c.args.r c.args.held.now c.in-Some.own (λ g. IsParked c.args.r g c.in-Parks.id.now c.in-Parks.older) = search rules in
    on_err _ _ (parked_taken c.args.r c.args.held.now c.in-Some.own c.in-Parks.id.now c.in-Parks.older at c.args.context.now c.args.fresh c.args.context.ticket)

pub park_in-requires-clause-keeps : goal.park_in-requires-clause-keeps
park_in-requires-clause-keeps c =
    keeps_join c.args.context.now c.args.r c.in_ok-id-in-Parks.id c.args.context.ticket

pub park_in-requires-clause-parks : goal.park_in-requires-clause-parks
park_in-requires-clause-parks c =
    let at : IsJoinIn c.args.r c.args.held.now c.in-Some.own (λ g. IsParked c.args.r g c.in-Parks.id.now c.in-Parks.older) = search rules in
    let A : List ℕ → Type 0 = λ x. IsJoinIn c.args.r c.args.held.now x (λ g. IsParked c.args.r g c.in-Parks.id.now c.in-Parks.older) in
    let B : List ℕ → Type 0 = λ i. IsJoinIn c.args.r c.args.held.now c.in_ok-group-in-Parks.group (λ g. IsParked c.args.r g i c.in-Parks.older) in
    let here = subst B (sym c.in_ok-id-in-Parks.ensures.cases) (subst A (sym c.in_ok-group-in-Parks.ensures.cases) at) in
    λ g after e found is. parked_parks c.args.r c.args.held.now c.in_ok-group-in-Parks.group c.in_ok-id-in-Parks.id c.in-Parks.older here c.args.context.now c.args.fresh c.args.context.ticket g after e found is

pub returns-in_ok-effects-in-Parks-clause-ok : goal.returns-in_ok-effects-in-Parks-clause-ok
returns-in_ok-effects-in-Parks-clause-ok c =
    let at : IsJoinIn c.args.r c.args.held.now c.in-Some.own (λ g. IsParked c.args.r g c.in-Parks.id.now c.in-Parks.older) = search rules in
    let A : List ℕ → Type 0 = λ x. IsJoinIn c.args.r c.args.held.now x (λ g. IsParked c.args.r g c.in-Parks.id.now c.in-Parks.older) in
    let B : List ℕ → Type 0 = λ i. IsJoinIn c.args.r c.args.held.now c.in_ok-group-in-Parks.group (λ g. IsParked c.args.r g i c.in-Parks.older) in
    let here = subst B (sym c.in_ok-id-in-Parks.ensures.cases) (subst A (sym c.in_ok-group-in-Parks.ensures.cases) at) in
    parked_is c.args.r c.args.held.now c.in_ok-group-in-Parks.group c.in_ok-id-in-Parks.id c.in-Parks.older here c.args.context.now c.args.fresh c.args.context.ticket c.park_in.new.held c.in_ok-effects-in-Parks.effects c.in_ok-effects-in-Parks.ensures.ok

-- a JOIN of a known member that joins a rebalance

pub returns-in_err-group-in-Rejoins-clause-taken : goal.returns-in_err-group-in-Rejoins-clause-taken
returns-in_err-group-in-Rejoins-clause-taken c =
    let at : IsJoinIn c.args.r c.args.held.now c.in-Some.own (λ g. ComesTo c.args.r g (λ now ticket. update_member_and_rebalance now c.args.r c.in-Rejoins.id.now ticket g)) = search rules in
    on_err _ _ (joined_taken c.args.r c.args.held.now c.in-Some.own (λ g. ComesTo c.args.r g (λ now ticket. update_member_and_rebalance now c.args.r c.in-Rejoins.id.now ticket g)) at c.args.context.now c.args.fresh c.args.context.ticket (update_member_and_rebalance c.args.context.now c.args.r c.in-Rejoins.id.now c.args.context.ticket) (at.way c.args.context.now c.args.fresh c.args.context.ticket))

pub returns-in_err-id-in-Rejoins-clause-taken : goal.returns-in_err-id-in-Rejoins-clause-taken
returns-in_err-id-in-Rejoins-clause-taken c =
    let at : IsJoinIn c.args.r c.args.held.now c.in-Some.own (λ g. ComesTo c.args.r g (λ now ticket. update_member_and_rebalance now c.args.r c.in-Rejoins.id.now ticket g)) = search rules in
    on_err _ _ (joined_taken c.args.r c.args.held.now c.in-Some.own (λ g. ComesTo c.args.r g (λ now ticket. update_member_and_rebalance now c.args.r c.in-Rejoins.id.now ticket g)) at c.args.context.now c.args.fresh c.args.context.ticket (update_member_and_rebalance c.args.context.now c.args.r c.in-Rejoins.id.now c.args.context.ticket) (at.way c.args.context.now c.args.fresh c.args.context.ticket))

pub returns-in_err-effects-in-Rejoins-clause-taken : goal.returns-in_err-effects-in-Rejoins-clause-taken
returns-in_err-effects-in-Rejoins-clause-taken c =
    let at : IsJoinIn c.args.r c.args.held.now c.in-Some.own (λ g. ComesTo c.args.r g (λ now ticket. update_member_and_rebalance now c.args.r c.in-Rejoins.id.now ticket g)) = search rules in
    on_err _ _ (joined_taken c.args.r c.args.held.now c.in-Some.own (λ g. ComesTo c.args.r g (λ now ticket. update_member_and_rebalance now c.args.r c.in-Rejoins.id.now ticket g)) at c.args.context.now c.args.fresh c.args.context.ticket (update_member_and_rebalance c.args.context.now c.args.r c.in-Rejoins.id.now c.args.context.ticket) (at.way c.args.context.now c.args.fresh c.args.context.ticket))

pub step_parking-requires-clause-keeps : goal.step_parking-requires-clause-keeps
step_parking-requires-clause-keeps c =
    keeps_again c.args.context.now c.args.r c.in_ok-id-in-Rejoins.id c.args.context.ticket

pub step_parking-requires-clause-parks : goal.step_parking-requires-clause-parks
step_parking-requires-clause-parks c =
    let at : IsJoinIn c.args.r c.args.held.now c.in-Some.own (λ g. ComesTo c.args.r g (λ now ticket. update_member_and_rebalance now c.args.r c.in-Rejoins.id.now ticket g)) = search rules in
    let A : List ℕ → Type 0 = λ x. IsJoinIn c.args.r c.args.held.now x (λ g. ComesTo c.args.r g (λ now ticket. update_member_and_rebalance now c.args.r c.in-Rejoins.id.now ticket g)) in
    let B : List ℕ → Type 0 = λ i. IsJoinIn c.args.r c.args.held.now c.in_ok-group-in-Rejoins.group (λ g. ComesTo c.args.r g (λ now ticket. update_member_and_rebalance now c.args.r i ticket g)) in
    let here = subst B (sym c.in_ok-id-in-Rejoins.ensures.cases) (subst A (sym c.in_ok-group-in-Rejoins.ensures.cases) at) in
    λ g after e found is. joined_parks c.args.r c.args.held.now c.in_ok-group-in-Rejoins.group (λ g. ComesTo c.args.r g (λ now ticket. update_member_and_rebalance now c.args.r c.in_ok-id-in-Rejoins.id ticket g)) here c.args.context.now c.args.fresh c.args.context.ticket (update_member_and_rebalance c.args.context.now c.args.r c.in_ok-id-in-Rejoins.id c.args.context.ticket) (here.way c.args.context.now c.args.fresh c.args.context.ticket) g after e found is

pub returns-in_ok-effects-in-Rejoins-clause-ok : goal.returns-in_ok-effects-in-Rejoins-clause-ok
returns-in_ok-effects-in-Rejoins-clause-ok c =
    let at : IsJoinIn c.args.r c.args.held.now c.in-Some.own (λ g. ComesTo c.args.r g (λ now ticket. update_member_and_rebalance now c.args.r c.in-Rejoins.id.now ticket g)) = search rules in
    let A : List ℕ → Type 0 = λ x. IsJoinIn c.args.r c.args.held.now x (λ g. ComesTo c.args.r g (λ now ticket. update_member_and_rebalance now c.args.r c.in-Rejoins.id.now ticket g)) in
    let B : List ℕ → Type 0 = λ i. IsJoinIn c.args.r c.args.held.now c.in_ok-group-in-Rejoins.group (λ g. ComesTo c.args.r g (λ now ticket. update_member_and_rebalance now c.args.r i ticket g)) in
    let here = subst B (sym c.in_ok-id-in-Rejoins.ensures.cases) (subst A (sym c.in_ok-group-in-Rejoins.ensures.cases) at) in
    joined_is c.args.r c.args.held.now c.in_ok-group-in-Rejoins.group (λ g. ComesTo c.args.r g (λ now ticket. update_member_and_rebalance now c.args.r c.in_ok-id-in-Rejoins.id ticket g)) here c.args.context.now c.args.fresh c.args.context.ticket (update_member_and_rebalance c.args.context.now c.args.r c.in_ok-id-in-Rejoins.id c.args.context.ticket) (here.way c.args.context.now c.args.fresh c.args.context.ticket) c.step_parking.new.held c.in_ok-effects-in-Rejoins.effects c.in_ok-effects-in-Rejoins.ensures.ok

-- a JOIN of a new member that is only parked

pub returns-in_err-group-in-Enters-clause-taken : goal.returns-in_err-group-in-Enters-clause-taken
returns-in_err-group-in-Enters-clause-taken c =
    let at : IsJoinIn c.args.r c.args.held.now c.in-Some.own (IsEntering c.args.r c.args.fresh) = search rules in
    on_err _ _ (joined_taken c.args.r c.args.held.now c.in-Some.own (IsEntering c.args.r c.args.fresh) at c.args.context.now c.args.fresh c.args.context.ticket (λ k. turn_of (entered c.args.context.now c.args.r (drawn (own_name c.args.r) c.args.fresh) c.args.context.ticket k)) (at.way.taken c.args.context.now c.args.context.ticket))

pub returns-in_err-id-in-Enters-clause-taken : goal.returns-in_err-id-in-Enters-clause-taken
returns-in_err-id-in-Enters-clause-taken c =
    let at : IsJoinIn c.args.r c.args.held.now c.in-Some.own (IsEntering c.args.r c.args.fresh) = search rules in
    on_err _ _ (joined_taken c.args.r c.args.held.now c.in-Some.own (IsEntering c.args.r c.args.fresh) at c.args.context.now c.args.fresh c.args.context.ticket (λ k. turn_of (entered c.args.context.now c.args.r (drawn (own_name c.args.r) c.args.fresh) c.args.context.ticket k)) (at.way.taken c.args.context.now c.args.context.ticket))

pub returns-in_err-effects-in-Enters-clause-taken : goal.returns-in_err-effects-in-Enters-clause-taken
returns-in_err-effects-in-Enters-clause-taken c =
    let at : IsJoinIn c.args.r c.args.held.now c.in-Some.own (IsEntering c.args.r c.args.fresh) = search rules in
    on_err _ _ (joined_taken c.args.r c.args.held.now c.in-Some.own (IsEntering c.args.r c.args.fresh) at c.args.context.now c.args.fresh c.args.context.ticket (λ k. turn_of (entered c.args.context.now c.args.r (drawn (own_name c.args.r) c.args.fresh) c.args.context.ticket k)) (at.way.taken c.args.context.now c.args.context.ticket))

pub park_in-requires-in-Enters-clause-parks : goal.park_in-requires-in-Enters-clause-parks
park_in-requires-in-Enters-clause-parks c =
    λ g after e found is. parks_newcomer c.args.context.now c.args.r c.in_ok-id-in-Enters.id c.args.context.ticket g after e is

pub returns-in_ok-effects-in-Enters-clause-ok : goal.returns-in_ok-effects-in-Enters-clause-ok
returns-in_ok-effects-in-Enters-clause-ok c =
    let at : IsJoinIn c.args.r c.args.held.now c.in-Some.own (IsEntering c.args.r c.args.fresh) = search rules in
    let A : List ℕ → Type 0 = λ x. IsJoinIn c.args.r c.args.held.now x (IsEntering c.args.r c.args.fresh) in
    let here = subst A (sym c.in_ok-group-in-Enters.ensures.cases) at in
    let named : c.in_ok-id-in-Enters.id ≡ drawn (own_name c.args.r) c.args.fresh = search rules in
    let comes = here.way.taken c.args.context.now c.args.context.ticket ∙ ap (λ i. Ok (turn_of (entered c.args.context.now c.args.r i c.args.context.ticket here.group))) (sym named) in
    joined_is c.args.r c.args.held.now c.in_ok-group-in-Enters.group (IsEntering c.args.r c.args.fresh) here c.args.context.now c.args.fresh c.args.context.ticket (λ k. turn_of (entered c.args.context.now c.args.r c.in_ok-id-in-Enters.id c.args.context.ticket k)) comes c.park_in-in-Enters.new.held c.in_ok-effects-in-Enters.effects c.in_ok-effects-in-Enters.ensures.ok

-- any other JOIN of a new member

pub returns-in_err-group-in-Joins-clause-taken : goal.returns-in_err-group-in-Joins-clause-taken
returns-in_err-group-in-Joins-clause-taken c =
    let at : IsJoinIn c.args.r c.args.held.now c.in-Some.own (IsNew c.args.r c.args.fresh) = search rules in
    on_err _ _ (joined_taken c.args.r c.args.held.now c.in-Some.own (IsNew c.args.r c.args.fresh) at c.args.context.now c.args.fresh c.args.context.ticket (λ k. join_placed c.args.context.now c.args.r (drawn (own_name c.args.r) c.args.fresh) c.args.context.ticket k (find_instance c.args.r.instance k.members)) (at.way.taken c.args.context.now c.args.context.ticket))

pub returns-in_err-id-in-Joins-clause-taken : goal.returns-in_err-id-in-Joins-clause-taken
returns-in_err-id-in-Joins-clause-taken c =
    let at : IsJoinIn c.args.r c.args.held.now c.in-Some.own (IsNew c.args.r c.args.fresh) = search rules in
    on_err _ _ (joined_taken c.args.r c.args.held.now c.in-Some.own (IsNew c.args.r c.args.fresh) at c.args.context.now c.args.fresh c.args.context.ticket (λ k. join_placed c.args.context.now c.args.r (drawn (own_name c.args.r) c.args.fresh) c.args.context.ticket k (find_instance c.args.r.instance k.members)) (at.way.taken c.args.context.now c.args.context.ticket))

pub returns-in_err-effects-in-Joins-clause-taken : goal.returns-in_err-effects-in-Joins-clause-taken
returns-in_err-effects-in-Joins-clause-taken c =
    let at : IsJoinIn c.args.r c.args.held.now c.in-Some.own (IsNew c.args.r c.args.fresh) = search rules in
    on_err _ _ (joined_taken c.args.r c.args.held.now c.in-Some.own (IsNew c.args.r c.args.fresh) at c.args.context.now c.args.fresh c.args.context.ticket (λ k. join_placed c.args.context.now c.args.r (drawn (own_name c.args.r) c.args.fresh) c.args.context.ticket k (find_instance c.args.r.instance k.members)) (at.way.taken c.args.context.now c.args.context.ticket))

pub step_parking-requires-in-Joins-clause-keeps : goal.step_parking-requires-in-Joins-clause-keeps
step_parking-requires-in-Joins-clause-keeps c =
    keeps_placed c.args.context.now c.args.r c.in_ok-id-in-Joins.id c.args.context.ticket

pub step_parking-requires-in-Joins-clause-parks : goal.step_parking-requires-in-Joins-clause-parks
step_parking-requires-in-Joins-clause-parks c =
    let at : IsJoinIn c.args.r c.args.held.now c.in-Some.own (IsNew c.args.r c.args.fresh) = search rules in
    let A : List ℕ → Type 0 = λ x. IsJoinIn c.args.r c.args.held.now x (IsNew c.args.r c.args.fresh) in
    let here = subst A (sym c.in_ok-group-in-Joins.ensures.cases) at in
    let named : c.in_ok-id-in-Joins.id ≡ drawn (own_name c.args.r) c.args.fresh = search rules in
    let comes = here.way.taken c.args.context.now c.args.context.ticket ∙ ap (λ i. Ok (join_placed c.args.context.now c.args.r i c.args.context.ticket here.group (find_instance c.args.r.instance here.group.members))) (sym named) in
    λ g after e found is. joined_parks c.args.r c.args.held.now c.in_ok-group-in-Joins.group (IsNew c.args.r c.args.fresh) here c.args.context.now c.args.fresh c.args.context.ticket (λ k. join_placed c.args.context.now c.args.r c.in_ok-id-in-Joins.id c.args.context.ticket k (find_instance c.args.r.instance k.members)) comes g after e found is

pub returns-in_ok-effects-in-Joins-clause-ok : goal.returns-in_ok-effects-in-Joins-clause-ok
returns-in_ok-effects-in-Joins-clause-ok c =
    let at : IsJoinIn c.args.r c.args.held.now c.in-Some.own (IsNew c.args.r c.args.fresh) = search rules in
    let A : List ℕ → Type 0 = λ x. IsJoinIn c.args.r c.args.held.now x (IsNew c.args.r c.args.fresh) in
    let here = subst A (sym c.in_ok-group-in-Joins.ensures.cases) at in
    let named : c.in_ok-id-in-Joins.id ≡ drawn (own_name c.args.r) c.args.fresh = search rules in
    let comes = here.way.taken c.args.context.now c.args.context.ticket ∙ ap (λ i. Ok (join_placed c.args.context.now c.args.r i c.args.context.ticket here.group (find_instance c.args.r.instance here.group.members))) (sym named) in
    joined_is c.args.r c.args.held.now c.in_ok-group-in-Joins.group (IsNew c.args.r c.args.fresh) here c.args.context.now c.args.fresh c.args.context.ticket (λ k. join_placed c.args.context.now c.args.r c.in_ok-id-in-Joins.id c.args.context.ticket k (find_instance c.args.r.instance k.members)) comes c.step_parking-in-Joins.new.held c.in_ok-effects-in-Joins.effects c.in_ok-effects-in-Joins.ensures.ok
