use Rattle.std.proofs.Common.{refl, sym, ◌∙◌}
use Rattle.cg_group_state.specs.Waiting.{waits_with}
use Rattle.cg_group_state.proofs.Keyed.{changed_keys, changed_values}
use Rattle.cg_group_state.proofs.member_map.wait_one.Goals as goal

pub returns-in-Some-clause-keyed : goal.returns-in-Some-clause-keyed
returns-in-Some-clause-keyed c = changed_keys c.args.members.now c.requires.keyed c.args.id.now (waits_with c.args.now c.args.waits) (λ x. refl) c.in-Some.place c.index_mut.result.now _ (sym c.place_of.ensures ∙ c.in-Some.is) c.index_mut.ensures.value c.begin_to_wait.ensures

pub returns-in-Some-clause-waits : goal.returns-in-Some-clause-waits
returns-in-Some-clause-waits c = changed_values c.args.members.now c.requires.keyed c.args.id.now (waits_with c.args.now c.args.waits) (λ x. refl) c.in-Some.place c.index_mut.result.now _ (sym c.place_of.ensures ∙ c.in-Some.is) c.index_mut.ensures.value c.begin_to_wait.ensures
