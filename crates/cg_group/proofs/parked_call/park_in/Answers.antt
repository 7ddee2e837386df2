use Rattle.std.proofs.Common.{◌≡◌, ℕ, true, List, Some, rules, sym, subst}
use Rattle.cg_group_state.specs.declared.group.Group.{Group}
use Rattle.cg_group_table.specs.SessionIndex.{AreKnown, is_home}
use Rattle.cg_group.proofs.Displacing.{known-displaced, tight-displaced}
use Rattle.cg_group.proofs.KnownSessions.{known-more}
use Rattle.cg_group.proofs.Stepped.{asked_at, stepped_as, unstepped_as}
use Rattle.cg_group.proofs.TightIndex.{noted_named, tight_unchanged}
use Rattle.cg_group.proofs.parked_call.park_in.Goals as goal

pub returns-in-Ok-clause-known : goal.returns-in-Ok-clause-known
returns-in-Ok-clause-known g c =
    let id_is : c.in_ok-id.id ≡ c.args.own.now = search rules in
    let H : List ℕ → Type 0 = λ i. is_home c.note.new.homes c.args.ticket.session i ≡ true in
    let s = stepped_as (g.C.GroupChange.Becomes c.args.change) c.requires.fails c.args.own.now c.args.held.now c.change.new.self c.requires.loaded c.change.ensures.in_order c.in-Some.parked c.in-Some.ensures.changed c.in-Ok.effects c.in-Ok.is in
    c.settle_older.ensures.known
    (known-displaced c.args.own.now c.args.held.now c.change.new.self s.group s.changed.after s.found (c.requires.keeps s.group s.changed.after _ s.changed.became) s.changed.put c.args.ticket c.args.older (c.requires.parks s.group s.changed.after c.in-Ok.effects s.found s.changed.became)
    (is_home c.note.new.homes) (subst H id_is c.in_ok-note.ensures.here) (known-more (is_home c.args.homes.now) (is_home c.note.new.homes) c.note.ensures.kept c.args.held.now c.requires.known))

pub returns-in-Ok-clause-tight : goal.returns-in-Ok-clause-tight
returns-in-Ok-clause-tight g c =
    let id_is : c.in_ok-id.id ≡ c.args.own.now = search rules in
    let new = noted_named c.args.homes.now c.note.new.homes c.args.ticket.session c.in_ok-id.id c.args.own.now id_is c.note.ensures.fewer in
    let s = stepped_as (g.C.GroupChange.Becomes c.args.change) c.requires.fails c.args.own.now c.args.held.now c.change.new.self c.requires.loaded c.change.ensures.in_order c.in-Some.parked c.in-Some.ensures.changed c.in-Ok.effects c.in-Ok.is in
    tight-displaced c.args.own.now c.args.held.now c.change.new.self s.group s.changed.after s.found (c.requires.keeps s.group s.changed.after _ s.changed.became) s.changed.put c.args.ticket c.args.older (c.requires.parks s.group s.changed.after c.in-Ok.effects s.found s.changed.became)
    c.args.homes.now c.note.new.homes c.settle_older.new.homes c.settle_older.ensures.fewer c.settle_older.ensures.filled new c.note.ensures.filled c.settle_older.ensures.gone c.requires.tight

pub returns-in-Ok-clause-ok : goal.returns-in-Ok-clause-ok
returns-in-Ok-clause-ok g c =
    stepped_as (g.C.GroupChange.Becomes c.args.change) c.requires.fails c.args.own.now c.args.held.now c.change.new.self c.requires.loaded c.change.ensures.in_order c.in-Some.parked c.in-Some.ensures.changed c.in-Ok.effects c.in-Ok.is

pub returns-in-Err-clause-known : goal.returns-in-Err-clause-known
returns-in-Err-clause-known g c =
    let P : List Group → Type 0 = λ gs. AreKnown (is_home c.note.new.homes) gs in
    let same = unstepped_as (g.C.GroupChange.Becomes c.args.change) c.requires.fails c.args.own.now c.args.held.now c.change.new.self c.requires.loaded c.change.ensures.in_order c.in-Some.parked c.in-Some.ensures.changed c.in-Err.wanting c.in-Err.is in
    c.settle_request.ensures.known (subst P (sym same) (known-more (is_home c.args.homes.now) (is_home c.note.new.homes) c.note.ensures.kept c.args.held.now c.requires.known))

pub returns-in-Err-clause-tight : goal.returns-in-Err-clause-tight
returns-in-Err-clause-tight g c =
    let id_is : c.in_ok-id.id ≡ c.args.own.now = search rules in
    let new = noted_named c.args.homes.now c.note.new.homes c.args.ticket.session c.in_ok-id.id c.args.own.now id_is c.note.ensures.fewer in
    let same = unstepped_as (g.C.GroupChange.Becomes c.args.change) c.requires.fails c.args.own.now c.args.held.now c.change.new.self c.requires.loaded c.change.ensures.in_order c.in-Some.parked c.in-Some.ensures.changed c.in-Err.wanting c.in-Err.is in
    tight_unchanged c.args.homes.now c.note.new.homes c.settle_request.new.homes c.args.held.now c.change.new.self c.settle_request.ensures.fewer c.settle_request.ensures.filled (Some c.args.own.now) c.args.ticket.session new c.note.ensures.filled
    (asked_at c.settle_request.new.homes c.change.new.self c.args.own.now c.args.ticket.session c.settle_request.ensures.asked) c.requires.tight same

pub returns-in-Err-clause-err : goal.returns-in-Err-clause-err
returns-in-Err-clause-err g c =
    unstepped_as (g.C.GroupChange.Becomes c.args.change) c.requires.fails c.args.own.now c.args.held.now c.change.new.self c.requires.loaded c.change.ensures.in_order c.in-Some.parked c.in-Some.ensures.changed c.in-Err.wanting c.in-Err.is
