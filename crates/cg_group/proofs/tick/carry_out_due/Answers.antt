use Rattle.std.proofs.Common.{List, ap, subst, ◌∙◌}
use Rattle.cg_group_state.specs.declared.group.Group.{Group}
use Rattle.cg_request.specs.declared.ticket.Ticket.{Ticket}
use Rattle.cg_group_rules.specs.Tick.{ticked}
use Rattle.cg_group_rules.specs.TickPlan.{carried}
use Rattle.cg_group_rules.proofs.Ticks.{carried_id}
use Rattle.cg_group_table.specs.Kept.{Each}
use Rattle.cg_group_table.specs.SessionIndex.{IsLetGo, is_home}
use Rattle.cg_group_table.proofs.DueGroups.{due_parked, due_stepped, tick_keeps}
use Rattle.cg_group_table.proofs.Mapped.{changed_by}
use Rattle.cg_group.proofs.KnownSessions.{tick_known}
use Rattle.cg_group.proofs.Stepped.{known-stepped, tight-left}
use Rattle.cg_group.proofs.tick.carry_out_due.Goals as goal

pub change-changed-requires-clause-keeps : goal.change-changed-requires-clause-keeps
change-changed-requires-clause-keeps c = λ g after _ is. ap (λ (k : Group). k.id) is ∙ carried_id c.args.now c.args.due.plan g

pub returns-clause-known : goal.returns-clause-known
returns-clause-known c =
    let now = c.args.now in
    let gs = c.args.held.now in
    let g = c.requires.due.group in
    let stepped = due_stepped c.args.now c.args.held.now c.change-changed.new.self c.args.due c.requires.due (λ g found. changed_by _ (carried c.args.now c.args.due.plan) (λ _ _ _ is. is) c.args.held.now c.change-changed.new.self g c.change-changed.result (c.change-changed.ensures.changed g found)) in
    c.settle.ensures.known
    (known-stepped c.args.due.id gs c.change-changed.new.self g c.requires.due.found (ticked now g) (tick_keeps now g) (stepped g c.requires.due.found) (is_home c.args.homes.now) (tick_known now c.args.due.id gs g c.requires.due.found) c.requires.known)

pub returns-clause-tight : goal.returns-clause-tight
returns-clause-tight c =
    let now = c.args.now in
    let gs = c.args.held.now in
    let own = c.args.due.id in
    let g = c.requires.due.group in
    let stepped = due_stepped c.args.now c.args.held.now c.change-changed.new.self c.args.due c.requires.due (λ g found. changed_by _ (carried c.args.now c.args.due.plan) (λ _ _ _ is. is) c.args.held.now c.change-changed.new.self g c.change-changed.result (c.change-changed.ensures.changed g found)) in
    let E : List Ticket → Type 0 = λ ts. Each (λ (t : Ticket). IsLetGo c.settle.new.homes c.change-changed.new.self own t.session) ts in
    tight-left own gs c.change-changed.new.self g c.requires.due.found (ticked now g) (tick_keeps now g) (stepped g c.requires.due.found) c.settle.new.homes (subst E (c.as_slice.ensures.value ∙ due_parked now gs c.args.due c.requires.due g c.requires.due.found) c.settle.ensures.gone)
    c.args.homes.now c.settle.ensures.fewer c.settle.ensures.filled c.requires.tight

pub returns-clause-after : goal.returns-clause-after
returns-clause-after c =
    due_stepped c.args.now c.args.held.now c.change-changed.new.self c.args.due c.requires.due (λ g found. changed_by _ (carried c.args.now c.args.due.plan) (λ _ _ _ is. is) c.args.held.now c.change-changed.new.self g c.change-changed.result (c.change-changed.ensures.changed g found))
