use Rattle.std.proofs.Common.{◌<◌, ap, arith, length, refl, sym, ◌∙◌}
use Rattle.std.proofs.Math.ListN.{set}
use Rattle.std.proofs.lemmas.List.Edits.{map_over_more}
use Rattle.std.proofs.lemmas.Option.{get_or_from_slice_get}
use Rattle.indexmap.specs.IndexMap.{values}
use Rattle.indexmap.proofs.CallerLemmas.{index_map_len-with_value_at, keys-with_value_at}
use Rattle.cg_group_state.specs.Members.{ids}
use Rattle.cg_group_state.specs.Waiting.{after_answer, after_answers}
use Rattle.cg_group_state.proofs.Keeping.{IsLasting, keep-after_answers}
use Rattle.cg_group_state.proofs.Keyed.{ids-halfway, length-values, values-set}
use Rattle.cg_group_state.proofs.member_map.answer_in.Goals as goal

pub loop-place-preserved : goal.loop-place-preserved
loop-place-preserved c =
    let m = c.loop-place.members in
    let i = c.loop-place.place in
    let old = c.index_mut.result.now in
    let new = c.answer_one.new.member in
    let within : i < length (values c.args.members.now) = omega (arith, c.loop-place-test.true, c.len-place-end.ensures.len, length-values c.args.members.now.entries) in
    record {
      answered =
          values-set m.entries i new ∙ ap (set (values m) i) c.answer_one.ensures
          ∙ map_over_more (after_answer c.args.which c.args.now) (values c.args.members.now) (values m) i old within c.loop-place.invariant.answered (sym (get_or_from_slice_get (values m) i old old c.index_mut.ensures.value));
      same_keys = keys-with_value_at m i new ∙ c.loop-place.invariant.same_keys;
      as_many = index_map_len-with_value_at m i new ∙ c.loop-place.invariant.as_many;
    }

lasting : IsLasting (λ m. m.id)
lasting m h w = refl

pub returns-clause-keyed : goal.returns-clause-keyed
unfolding after_answers
returns-clause-keyed c =
    c.loop-place.invariant.same_keys
    ∙ c.requires.keyed
    ∙ sym (ap ids c.loop-place.invariant.answered ∙ ids-halfway (after_answer c.args.which c.args.now) (values c.args.members.now) c.loop-place.place (keep-after_answers (λ m. m.id) lasting c.args.which c.args.now))
