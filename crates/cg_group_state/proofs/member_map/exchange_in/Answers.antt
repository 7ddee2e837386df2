use Rattle.std.proofs.Common.{◌≡◌, ap, arith, get_or, length, refl, sym, take, ◌∙◌}
use Rattle.std.proofs.lemmas.Option.{get_or_from_slice_get}
use Rattle.indexmap.specs.IndexMap.{values}
use Rattle.indexmap.proofs.CallerLemmas.{index_map_len-with_value_at, keys-with_value_at}
use Rattle.cg_group_state.specs.declared.member.Member.{Member}
use Rattle.cg_group_state.specs.Assignments.{with_assignments}
use Rattle.cg_group_state.specs.Members.{ids}
use Rattle.cg_group_state.proofs.Exchanges.{IsHalfway, assignment_exchanged, map-with_assignments, member_exchanged}
use Rattle.cg_group_state.proofs.Keyed.{length-values, values-set}
use Rattle.cg_group_state.proofs.member_map.exchange_in.Goals as goal

pub loop-place-init : goal.loop-place-init
unfolding with_assignments
loop-place-init c = record { members = refl; list = refl; same_keys = refl; as_many = refl }

pub loop-place-preserved : goal.loop-place-preserved
loop-place-preserved c =
    let m = c.loop-place.members in
    let i = c.loop-place.place in
    let old : Member = c.index_mut.result.now in
    let new : Member = c.exchange_one.new.member in
    let all = values c.args.members.now in
    let held = values m in
    let given = c.loop-place.assignments in
    let a = c.index-assignments-place.result in
    let long : length all ≡ length c.args.members.now.entries = length-values c.args.members.now.entries in
    let h : IsHalfway c.args.assignments.now all i held given old a = record {
      within = omega (arith, c.loop-place-test.true, c.len-place-end.ensures.len, long);
      as_many = c.requires.same_len;
      held_is = c.loop-place.invariant.members;
      given_is = c.loop-place.invariant.list;
    } in
    let got : get_or held i old ≡ old = get_or_from_slice_get held i old old c.index_mut.ensures.value in
    let made : new ≡ record (get_or held i old) { assignment = get_or given i a } =
    c.exchange_one.ensures.member ∙ ap (λ (x : Member). record x { assignment = get_or given i a }) (sym got) in
    record {
      members = values-set m.entries i new ∙ member_exchanged _ _ _ _ _ _ _ h new made;
      list = assignment_exchanged _ _ _ _ _ _ _ h _ (c.exchange_one.ensures.assignment ∙ ap (λ (x : Member). x.assignment) (sym got));
      same_keys = keys-with_value_at m i new ∙ c.loop-place.invariant.same_keys;
      as_many = index_map_len-with_value_at m i new ∙ c.loop-place.invariant.as_many;
    }

pub returns-clause-keyed : goal.returns-clause-keyed
returns-clause-keyed c =
    c.loop-place.invariant.same_keys
    ∙ c.requires.keyed
    ∙ sym (ap ids c.loop-place.invariant.members ∙ map-with_assignments (λ m. m.id) (λ m a. refl) (take c.loop-place.place c.args.assignments.now) (values c.args.members.now))
