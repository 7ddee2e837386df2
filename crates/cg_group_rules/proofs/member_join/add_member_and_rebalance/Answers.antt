use Rattle.std.proofs.Common.{◌≡◌, ◌++◌, ◌∷◌, [], List, false, is_some, ℕ, filter, not, ap, sym, subst, ◌∙◌}
use Rattle.cg_group_state.specs.declared.group.Group.{Group}
use Rattle.cg_group_state.specs.declared.member.Member.{Member}
use Rattle.cg_group_rules.specs.Join.{admitted, new_member}
use Rattle.cg_group_state.specs.Membership.{find_member, has_id}
use Rattle.cg_group_rules.specs.ParkedJoin.{with_header}
use Rattle.cg_group_rules.proofs.Entered.{expelled}
use Rattle.cg_group_rules.proofs.member_join.add_member_and_rebalance.Goals as goal

pub returns-clause-err : goal.returns-clause-err
unfolding admitted new_member
returns-clause-err c =
    let g : Group = c.args.group.now in
    let a : Group = c.admit.new.group in
    let m : Member = c.new_member-member.result.0 in
    let members : a.members ≡ g.members ++ m ∷ [] = ap (λ (x : Group). x.members) c.in_ok-header.ensures.ok in
    let named : m.id ≡ c.in_ok-own.own = ap (λ (x : Member). x.id) c.new_member-member.ensures.member ∙ sym c.in_ok-own.ensures.cases in
    let P : List ℕ → Type 0 = λ i. is_some (find_member i g.members) ≡ false in
    c.expel.ensures
    ∙ ap (λ (x : Group). with_header c.in_ok-header.header (record x { members = filter (λ o. not (has_id c.in_ok-own.own o)) x.members })) c.in-Err.ensures.err
    ∙ expelled c.in_ok-header.header c.in_ok-own.own m g a members c.in_ok-header.ensures.before named (subst P (sym c.in_ok-own.ensures.cases) c.requires.own_id)
