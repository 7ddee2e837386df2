use Rattle.cg_group_state.proofs.Together.{after_all_answers}
use Rattle.indexmap.specs.IndexMap.{values}
use Rattle.cg_group_state.proofs.members.Members.answer.Goals as goal

pub invariant_of-self : goal.invariant_of-self
invariant_of-self c = (after_all_answers c.args.which c.args.now (values c.self.inside.by_id) (values c.answer_in.new.members) c.answer_in.ensures.answered c.self.invariant.0, c.answer_in.ensures.keyed)
