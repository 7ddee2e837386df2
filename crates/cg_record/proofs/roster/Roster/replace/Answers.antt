use Rattle.std.proofs.Common.{◌≡◌, false, cond, get_or, ap, ◌∙◌, subst, rules}
use Rattle.cg_record.specs.Rosters.{IsPlace, has_id, may_replace, replaced_in, roster_of}
use Rattle.cg_record.proofs.Replacing.{placed, unplaced}
use Rattle.cg_record.proofs.roster.Roster.replace.Goals as goal

pub invariant_of-self : goal.invariant_of-self
invariant_of-self c =
    let roster = roster_of c.self.inside.protocol c.self.inside.leader c.self.inside.members.items in
    let place : IsPlace c.args.new c.self.inside.members.items c.in-Some.at = subst (λ l. IsPlace c.args.new l c.in-Some.at) c.as_slice.ensures.value c.in-Some.ensures in
    let found : c.index.result.now ≡ get_or c.self.inside.members.items c.in-Some.at c.index.result.now = search rules in
    let leads : c.eq-leads.result ≡ has_id c.self.inside.leader c.index.result.now = search rules in
    let leader : c.lead.new.leader ≡ cond c.eq-leads.result c.args.new.id c.self.inside.leader = c.lead.ensures ∙ ap (λ i. cond c.eq-leads.result i c.self.inside.leader) c.requires in
    (placed c.args.new roster c.in-Some.at c.index.result.now c.eq-leads.result c.lead.new.leader c.seat.new.members.items c.self.invariant place found leads leader c.seat.ensures).0

pub returns-in-Some : goal.returns-in-Some
returns-in-Some c =
    let roster = roster_of c.self.inside.protocol c.self.inside.leader c.self.inside.members.items in
    let place : IsPlace c.args.new c.self.inside.members.items c.in-Some.at = subst (λ l. IsPlace c.args.new l c.in-Some.at) c.as_slice.ensures.value c.in-Some.ensures in
    let found : c.index.result.now ≡ get_or c.self.inside.members.items c.in-Some.at c.index.result.now = search rules in
    let leads : c.eq-leads.result ≡ has_id c.self.inside.leader c.index.result.now = search rules in
    let leader : c.lead.new.leader ≡ cond c.eq-leads.result c.args.new.id c.self.inside.leader = c.lead.ensures ∙ ap (λ i. cond c.eq-leads.result i c.self.inside.leader) c.requires in
    (placed c.args.new roster c.in-Some.at c.index.result.now c.eq-leads.result c.lead.new.leader c.seat.new.members.items c.self.invariant place found leads leader c.seat.ensures).1
    ∙ ap (replaced_in c.args.new) c.self.view_is

pub returns-in-None : goal.returns-in-None
returns-in-None c =
    let none = subst (λ l. may_replace c.args.new l ≡ false) (c.as_slice.ensures.value ∙ ap (λ r. r.members) c.self.view_is) c.in-None.ensures in
    unplaced c.args.new c.args.self.now none
