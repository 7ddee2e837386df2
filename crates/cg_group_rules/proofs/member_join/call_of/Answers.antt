use Rattle.std.proofs.Common.{◌≡◌, None, Some, refl, ap, sym, ◌∙◌}
use Rattle.std.specs.Option.{option_copied}
use Rattle.cg_group_state.specs.declared.member.Waits.TheVariants.{Nothing}
use Rattle.cg_group_state.specs.Waiting.{waits_with, recalled}
use Rattle.cg_group_state.specs.Membership.{find_member, with_member}
use Rattle.cg_group_state.proofs.Recalling.{taken_back, with_member_none}
use Rattle.cg_group_rules.proofs.member_join.call_of.Goals as goal

pub returns-in-None : goal.returns-in-None
returns-in-None c =
    λ now w.
    let id = c.args.id.now in
    let ms = c.args.members.now in
    let none : find_member id ms ≡ None = sym c.find.ensures ∙ ap option_copied c.in-None.is in
    ap (with_member id (recalled c.from_millis.result Nothing)) (with_member_none id (waits_with now w) ms none) ∙ with_member_none id (recalled c.from_millis.result Nothing) ms none

pub returns-in-Some : goal.returns-in-Some
returns-in-Some c =
    λ now w.
    let id = c.args.id.now in
    let ms = c.args.members.now in
    let m = c.in-Some.member.now in
    let found : find_member id ms ≡ Some m = sym c.find.ensures ∙ ap option_copied c.in-Some.is in
    taken_back id (waits_with now w) (recalled m.heard m.waits) (λ x. refl) ms m found refl
