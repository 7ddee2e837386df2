use Rattle.std.proofs.Common.{List, sym, subst, ◌∙◌}
use Rattle.cg_group_state.specs.declared.group.Group.{Group}
use Rattle.cg_group_rules.specs.Rebalance.{turned}
use Rattle.cg_request.specs.declared.ticket.Ticket.{Ticket}
use Rattle.cg_group_table.specs.Kept.{Each}
use Rattle.cg_group_table.specs.SessionIndex.{AreKnown, IsLetGo, IsTight, is_home}
use Rattle.cg_group.proofs.Stepped.{known-stepped, stepped_as, tight-left, unstepped_as}
use Rattle.cg_group.proofs.rebalance_step.step_leaving.Goals as goal

pub returns-in-Ok-clause-known : goal.returns-in-Ok-clause-known
returns-in-Ok-clause-known g c =
    let s = stepped_as (g.C.GroupChange.Becomes c.args.change) c.requires.fails c.args.own.now c.args.held.now c.change.new.self c.requires.loaded c.change.ensures.in_order c.in-Some.stepped c.in-Some.ensures.changed c.in-Ok.effects c.in-Ok.is in
    c.settle.ensures.known
    (known-stepped c.args.own.now c.args.held.now c.change.new.self s.group s.found (turned s.changed.after c.in-Ok.effects) (c.requires.keeps s.group s.changed.after _ s.changed.became) s.changed.put (is_home c.args.homes.now) (c.requires.leaves s.group s.changed.after c.in-Ok.effects s.found s.changed.became) c.requires.known)

pub returns-in-Ok-clause-tight : goal.returns-in-Ok-clause-tight
returns-in-Ok-clause-tight g c =
    let own = c.args.own.now in
    let s = stepped_as (g.C.GroupChange.Becomes c.args.change) c.requires.fails c.args.own.now c.args.held.now c.change.new.self c.requires.loaded c.change.ensures.in_order c.in-Some.stepped c.in-Some.ensures.changed c.in-Ok.effects c.in-Ok.is in
    let E : List Ticket → Type 0 = λ ts. Each (λ (k : Ticket). IsLetGo c.settle.new.homes c.change.new.self own k.session) ts in
    tight-left own c.args.held.now c.change.new.self s.group s.found (turned s.changed.after c.in-Ok.effects) (c.requires.keeps s.group s.changed.after _ s.changed.became) s.changed.put c.settle.new.homes (subst E (c.as_slice.ensures.value ∙ c.in_ok-parked.ensures s.group s.found) c.settle.ensures.gone)
    c.args.homes.now c.settle.ensures.fewer c.settle.ensures.filled c.requires.tight

pub returns-in-Ok-clause-ok : goal.returns-in-Ok-clause-ok
returns-in-Ok-clause-ok g c = stepped_as (g.C.GroupChange.Becomes c.args.change) c.requires.fails c.args.own.now c.args.held.now c.change.new.self c.requires.loaded c.change.ensures.in_order c.in-Some.stepped c.in-Some.ensures.changed c.in-Ok.effects c.in-Ok.is

pub returns-clause-known : goal.returns-clause-known
returns-clause-known g c =
    let P : List Group → Type 0 = λ gs. AreKnown (is_home c.args.homes.now) gs in
    subst P (sym (unstepped_as (g.C.GroupChange.Becomes c.args.change) c.requires.fails c.args.own.now c.args.held.now c.change.new.self c.requires.loaded c.change.ensures.in_order c.in-Some.stepped c.in-Some.ensures.changed c.in-Err.wanting c.in-Err.is)) c.requires.known

pub returns-clause-tight : goal.returns-clause-tight
returns-clause-tight g c =
    let P : List Group → Type 0 = λ gs. IsTight c.args.homes.now gs in
    subst P (sym (unstepped_as (g.C.GroupChange.Becomes c.args.change) c.requires.fails c.args.own.now c.args.held.now c.change.new.self c.requires.loaded c.change.ensures.in_order c.in-Some.stepped c.in-Some.ensures.changed c.in-Err.wanting c.in-Err.is)) c.requires.tight

pub returns-clause-err : goal.returns-clause-err
returns-clause-err g c = unstepped_as (g.C.GroupChange.Becomes c.args.change) c.requires.fails c.args.own.now c.args.held.now c.change.new.self c.requires.loaded c.change.ensures.in_order c.in-Some.stepped c.in-Some.ensures.changed c.in-Err.wanting c.in-Err.is
