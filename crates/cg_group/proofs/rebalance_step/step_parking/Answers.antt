use Rattle.std.proofs.Common.{◌≡◌, ℕ, true, List, Some, rules, sym, subst, ◌∙◌}
use Rattle.cg_group_state.specs.declared.group.Group.{Group}
use Rattle.cg_group_rules.specs.Rebalance.{turned}
use Rattle.cg_request.specs.declared.ticket.Ticket.{Ticket}
use Rattle.cg_group_table.specs.Kept.{Each}
use Rattle.cg_group_table.specs.SessionIndex.{AreKnown, IsLetGo, is_home}
use Rattle.cg_group.proofs.KnownSessions.{known-more}
use Rattle.cg_group.proofs.TightIndex.{noted_named, tight_unchanged}
use Rattle.cg_group.proofs.Stepped.{asked_at, known-parked, on_stepped, stepped_err, stepped_ok, tight-parked}
use Rattle.cg_group.proofs.rebalance_step.step_parking.Goals as goal

pub returns-clause-known : goal.returns-clause-known
returns-clause-known g c =
    let id_is : c.in_ok-id.id ≡ c.args.own.now = search rules in
    let H : List ℕ → Type 0 = λ i. is_home c.note.new.homes c.args.ticket.session i ≡ true in
    let P : List Group → Type 0 = λ gs. AreKnown (is_home c.note.new.homes) gs in
    let before : AreKnown (is_home c.note.new.homes) c.args.held.now = known-more (is_home c.args.homes.now) (is_home c.note.new.homes) c.note.ensures.kept c.args.held.now c.requires.known in
    c.settle_request.ensures.known
    (on_stepped (g.C.GroupChange.Becomes c.args.change) c.requires.fails c.args.own.now c.args.held.now c.change.new.self c.requires.loaded c.change.ensures.in_order c.in-Some.stepped c.in-Some.ensures.changed
    (λ e s. known-parked c.args.own.now c.args.held.now c.change.new.self s.group s.found (turned s.changed.after e) (c.requires.keeps s.group s.changed.after _ s.changed.became) s.changed.put (is_home c.note.new.homes) c.args.ticket (c.requires.parks s.group s.changed.after e s.found s.changed.became) (subst H id_is c.in_ok-note.ensures.here) before)
    (λ same. subst P (sym same) before))

pub returns-clause-tight : goal.returns-clause-tight
returns-clause-tight g c =
    let own = c.args.own.now in
    let id_is : c.in_ok-id.id ≡ own = search rules in
    let noted = noted_named c.args.homes.now c.note.new.homes c.args.ticket.session c.in_ok-id.id own id_is c.note.ensures.fewer in
    let E : List Ticket → Type 0 = λ ts. Each (λ (k : Ticket). IsLetGo c.settle_request.new.homes c.change.new.self own k.session) ts in
    on_stepped (g.C.GroupChange.Becomes c.args.change) c.requires.fails own c.args.held.now c.change.new.self c.requires.loaded c.change.ensures.in_order c.in-Some.stepped c.in-Some.ensures.changed
    (λ e s.
    tight-parked own c.args.held.now c.change.new.self s.group s.found (turned s.changed.after e) (c.requires.keeps s.group s.changed.after _ s.changed.became) s.changed.put c.settle_request.new.homes (subst E (c.as_slice.ensures.value ∙ c.in_ok-parked.ensures s.group s.found) c.settle_request.ensures.gone)
    c.args.homes.now c.note.new.homes c.args.ticket.session c.settle_request.ensures.fewer c.settle_request.ensures.filled noted c.note.ensures.filled c.settle_request.ensures.asked c.requires.tight)
    (λ same.
    tight_unchanged c.args.homes.now c.note.new.homes c.settle_request.new.homes c.args.held.now c.change.new.self c.settle_request.ensures.fewer c.settle_request.ensures.filled (Some own) c.args.ticket.session noted c.note.ensures.filled
    (asked_at c.settle_request.new.homes c.change.new.self own c.args.ticket.session c.settle_request.ensures.asked) c.requires.tight same)

pub returns-clause-ok : goal.returns-clause-ok
returns-clause-ok g c =
    stepped_ok (g.C.GroupChange.Becomes c.args.change) c.requires.fails c.args.own.now c.args.held.now c.change.new.self c.requires.loaded c.change.ensures.in_order c.in-Some.stepped c.in-Some.ensures.changed

pub returns-clause-err : goal.returns-clause-err
returns-clause-err g c =
    stepped_err (g.C.GroupChange.Becomes c.args.change) c.requires.fails c.args.own.now c.args.held.now c.change.new.self c.requires.loaded c.change.ensures.in_order c.in-Some.stepped c.in-Some.ensures.changed
