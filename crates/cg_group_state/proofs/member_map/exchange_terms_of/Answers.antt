use Rattle.std.proofs.Common.{ap, refl, sym, ◌∙◌}
use Rattle.indexmap.specs.IndexMap.{values}
use Rattle.cg_group_state.specs.Membership.{with_member}
use Rattle.cg_group_state.specs.JoinTerms.{updated}
use Rattle.cg_group_state.proofs.Keyed.{changed_keys, changed_values, found_at}
use Rattle.cg_group_state.proofs.Recalling.{taken_back}
use Rattle.cg_group_state.proofs.member_map.exchange_terms_of.Goals as goal

pub returns-in-Some-clause-keyed : goal.returns-in-Some-clause-keyed
returns-in-Some-clause-keyed c = changed_keys c.args.members.now c.requires.keyed c.args.id.now (updated c.sharing_join-join.result) (λ x. refl) c.in-Some.place c.index_mut.result.now _ (sym c.place_of.ensures ∙ c.in-Some.is) c.index_mut.ensures.value c.exchange_terms.ensures.given

pub returns-in-Some-clause-given : goal.returns-in-Some-clause-given
returns-in-Some-clause-given c =
    changed_values c.args.members.now c.requires.keyed c.args.id.now (updated c.args.join) (λ x. refl) c.in-Some.place c.index_mut.result.now _ (sym c.place_of.ensures ∙ c.in-Some.is) c.index_mut.ensures.value (rw c.sharing_join-join.ensures at c.exchange_terms.ensures.given)

pub returns-in-Some-clause-back : goal.returns-in-Some-clause-back
returns-in-Some-clause-back c =
    let id = c.args.id.now in
    let ms = values c.args.members.now in
    let m = c.index_mut.result.now in
    let join = c.sharing_join-join.result in
    let at = sym c.place_of.ensures ∙ c.in-Some.is in
    ap (with_member id (updated c.exchange_terms.result)) (changed_values c.args.members.now c.requires.keyed id (updated join) (λ x. refl) c.in-Some.place m _ at c.index_mut.ensures.value c.exchange_terms.ensures.given)
    ∙ taken_back id (updated join) (updated c.exchange_terms.result) (λ m. refl) ms m (found_at id ms c.in-Some.place m at c.index_mut.ensures.value) (ap (updated c.exchange_terms.result) (sym c.exchange_terms.ensures.given) ∙ c.exchange_terms.ensures.back)
