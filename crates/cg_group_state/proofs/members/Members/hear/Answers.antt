use Rattle.cg_group_state.proofs.Together.{after_hearing}
use Rattle.indexmap.specs.IndexMap.{values}
use Rattle.cg_group_state.proofs.members.Members.hear.Goals as goal

pub invariant_of-self : goal.invariant_of-self
invariant_of-self c = (after_hearing c.args.id.now c.args.now (values c.self.inside.by_id) (values c.hear_one.new.members) c.hear_one.ensures.heard c.self.invariant.0, c.hear_one.ensures.keyed)
