use Rattle.std.proofs.Common.{◌≡◌, ℕ, List, is_some, Option, Some, None, refl, sym, ap, ◌∙◌, subst}
use Rattle.cg_group_state.specs.declared.group.Group.{Group}
use Rattle.cg_group_state.specs.declared.member.Member.{Member}
use Rattle.cg_group_state.specs.Membership.{find_member, heard, hearing}
use Rattle.cg_group_state.proofs.Recalling.{with_member_none}
use Rattle.cg_group_rules.specs.OffsetCommit.{IsCommit}
use Rattle.cg_group_rules.proofs.Committers.{commit_heard, commit_late, commit_stranger, commit_unchecked, found_some, read_of}
use Rattle.cg_group_rules.proofs.Entering.{is_none}
use Rattle.cg_group_rules.proofs.Strangers.{is_some-map}
use Rattle.cg_group_rules.proofs.offset_commit.hear_member.Goals as goal

pub returns-in-Err : goal.returns-in-Err
returns-in-Err c = (commit_unchecked c.args.r.now c.args.group.now c.requires c.in-Err.code c.in-Err.ensures, refl)

pub returns-then-has : goal.returns-then-has
returns-then-has c =
    let g = c.args.group.now in
    let m = found_some (find_member c.in-Ok.id.now g.members) (sym c.has.ensures ∙ c.if-has.true) in
    (commit_late c.args.r.now g c.requires c.in-Ok.id.now c.in-Ok.ensures m.0 m.1 c.in-Some.code (sym c.late_refusal.ensures ∙ c.in-Some.is), refl)

pub returns-in-Some : goal.returns-in-Some
returns-in-Some c =
    let g = c.args.group.now in
    (commit_stranger c.args.r.now g c.requires c.in-Ok.id.now c.in-Ok.ensures (is_none (find_member c.in-Ok.id.now g.members) (sym c.has.ensures ∙ c.if-has.false)), refl)

pub returns-in-None : goal.returns-in-None
returns-in-None c =
    let g = c.args.group.now in
    let id = c.in-Ok.id.now in
    let none : find_member id g.members ≡ None = is_none (find_member id g.members) (is_some-map (λ (m : Member). m.heard) (find_member id g.members) c.hear.result c.hear.ensures.before (ap is_some c.in-None.is)) in
    (commit_stranger c.args.r.now g c.requires id c.in-Ok.ensures none, ap (λ (ms : List Member). record g { members = ms }) (c.hear.ensures.heard ∙ with_member_none id (heard c.args.now) g.members none))

pub returns-in-Some-hear : goal.returns-in-Some-hear
unfolding hearing
returns-in-Some-hear c =
    let g = c.args.group.now in
    let id = c.in-Ok.id.now in
    let m = read_of (λ (m : Member). m.heard) (find_member id g.members) c.in-Some-hear.before (sym c.in-Some-hear.is ∙ c.hear.ensures.before) in
    let A : Group → Type 0 = λ k. IsCommit c.args.now c.args.r.now g k (Some c.in-Some-hear.before) in
    let B : Option ℕ → Type 0 = λ b. IsCommit c.args.now c.args.r.now g (hearing c.args.now id g) b in
    subst A (sym (ap (λ (ms : List Member). record g { members = ms }) c.hear.ensures.heard))
    (subst B (ap Some m.2) (commit_heard c.args.r.now g c.requires id c.in-Ok.ensures m.0 m.1 c.args.now (sym c.late_refusal.ensures ∙ c.in_default.is)))
