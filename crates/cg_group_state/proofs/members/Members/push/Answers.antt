use Rattle.std.proofs.Common.{◌≡◌, ◌<◌, List, ap, false, is_some, length, subst, sym, ◌∙◌}
use Rattle.cg_record.specs.declared.roster.TheConstants.{MEMBERS_MAX}
use Rattle.indexmap.specs.IndexMap.{values}
use Rattle.cg_group_state.specs.declared.member.Member.{Member}
use Rattle.cg_group_state.specs.Membership.{find_instance, find_member}
use Rattle.cg_group_state.proofs.Together.{after_push}
use Rattle.cg_group_state.proofs.members.Members.push.Goals as goal

pub invariant_of-self-2 : goal.invariant_of-self-2
invariant_of-self-2 c =
    let ms = values c.self.inside.by_id in
    let same = c.sharing-member.ensures in
    let fresh : is_some (find_member c.sharing-member.result.id ms) ≡ false =
    ap (λ (m : Member). is_some (find_member m.id ms)) same ∙ subst (λ xs. is_some (find_member c.args.member.id xs) ≡ false) (sym c.self.view_is) c.requires.own_id in
    let free : is_some (find_instance c.sharing-member.result.instance ms) ≡ false =
    ap (λ (m : Member). is_some (find_instance m.instance ms)) same ∙ subst (λ xs. is_some (find_instance c.args.member.instance xs) ≡ false) (sym c.self.view_is) c.requires.own_instance in
    let room : length ms < MEMBERS_MAX = subst (λ (xs : List Member). length xs < MEMBERS_MAX) (sym c.self.view_is) c.requires.room in
    (after_push ms (values c.append_one.new.members) c.sharing-member.result c.in_ok-append_one.ensures.ok room fresh free c.self.invariant.0, c.append_one.ensures.keyed)
