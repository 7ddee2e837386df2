use Rattle.std.proofs.Common.{option_map, refl, sym, ap, ◌∙◌}
use Rattle.indexmap.specs.IndexMap.{values}
use Rattle.cg_group_state.specs.Membership.{heard}
use Rattle.cg_group_state.specs.declared.member.Member.{Member}
use Rattle.cg_group_state.proofs.Keyed.{changed_keys, changed_values, found_at, found_nowhere}
use Rattle.cg_group_state.proofs.member_map.hear_one.Goals as goal

pub returns-in-None-clause-before : goal.returns-in-None-clause-before
returns-in-None-clause-before c = sym (ap (option_map (λ (m : Member). m.heard)) (found_nowhere c.args.id.now (values c.args.members.now) (sym c.place_of.ensures ∙ c.in-None.is)))

pub returns-in-Some-clause-keyed : goal.returns-in-Some-clause-keyed
returns-in-Some-clause-keyed c = changed_keys c.args.members.now c.requires.keyed c.args.id.now (heard c.args.now) (λ x. refl) c.in-Some.place c.index_mut-member.result.now _ (sym c.place_of.ensures ∙ c.in-Some.is) c.index_mut-member.ensures.value refl

pub returns-in-Some-clause-heard : goal.returns-in-Some-clause-heard
returns-in-Some-clause-heard c = changed_values c.args.members.now c.requires.keyed c.args.id.now (heard c.args.now) (λ x. refl) c.in-Some.place c.index_mut-member.result.now _ (sym c.place_of.ensures ∙ c.in-Some.is) c.index_mut-member.ensures.value refl

pub returns-in-Some-clause-before : goal.returns-in-Some-clause-before
returns-in-Some-clause-before c = sym (ap (option_map (λ (m : Member). m.heard)) (found_at c.args.id.now (values c.args.members.now) c.in-Some.place c.index_mut-member.result.now (sym c.place_of.ensures ∙ c.in-Some.is) c.index_mut-member.ensures.value))
