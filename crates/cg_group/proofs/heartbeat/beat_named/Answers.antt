use Rattle.std.proofs.Common.{◌≡◌, ℕ, Some, None, Err, MatchResult, ok_or, refl, ap, ◌∙◌}
use Rattle.cg_names.specs.declared.code.Code.TheVariants.{InvalidGroupId, UnknownMemberId}
use Rattle.cg_request.specs.declared.ticket.Ticket.{Ticket}
use Rattle.cg_group_table.specs.GroupTable.{find_group}
use Rattle.cg_group.specs.InPlace.{IsBeatIn}
use Rattle.cg_group.specs.Machine.{beat, named_group}
use Rattle.cg_group.proofs.InPlace.{beat_unnamed, beaten_in, beats_hear}
use Rattle.cg_group.proofs.heartbeat.beat_named.Goals as goal

pub returns-in_default : goal.returns-in_default
returns-in_default c = ((λ now ticket. beat_unnamed now c.args.r.now ticket c.args.held.now InvalidGroupId (ap (λ o. named_group o c.args.held.now) c.in_default.is)), refl)

pub hear-requires-clause-hears : goal.hear-requires-clause-hears
hear-requires-clause-hears c = beats_hear _ _ c.args.now c.args.r.now

pub returns-in-None : goal.returns-in-None
returns-in-None c =
    let r = c.args.r.now in
    let gs = c.args.held.now in
    let own = c.in-Some.own in
    (elim (find_group own gs) as (λ o. find_group own gs ≡ o → ((now : ℕ) (ticket : Ticket) → beat now r ticket gs ≡ Err UnknownMemberId) × (c.hear.new.self ≡ gs)) [
      | None ↦ λ none. (λ now ticket. beat_unnamed now r ticket gs UnknownMemberId (ap (λ o. named_group o gs) c.in-Some.is ∙ ap (λ o. ok_or o UnknownMemberId) none), (c.hear.ensures.absent none).1)
      | Some g ↦ λ found. absurd (c.in-None.ensures.changed g found)
    ]) refl

pub returns-in-Some-hear : goal.returns-in-Some-hear
returns-in-Some-hear c =
    let r = c.args.r.now in
    let gs = c.args.held.now in
    let own = c.in-Some.own in
    (elim (find_group own gs) as (λ o. find_group own gs ≡ o → MatchResult c.in-Some-hear.beaten (λ p. IsBeatIn c.args.now r gs c.hear.new.self p.0.now p.1) (λ code. ((now : ℕ) (ticket : Ticket) → beat now r ticket gs ≡ Err code) × (c.hear.new.self ≡ gs))) [
      | None ↦ λ none. let missing = (c.in-Some-hear.ensures.absent none).0 in absurd (cc)
      | Some g ↦ λ found. beaten_in (λ p. p.0.now) (λ p. p.1) c.args.now r gs c.hear.new.self own c.in-Some.is c.hear.ensures.in_order g found c.in-Some-hear.beaten (c.in-Some-hear.ensures.changed g found)
    ]) refl
