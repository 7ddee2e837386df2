use Rattle.cg_group_state.proofs.Together.{after_recalling}
use Rattle.indexmap.specs.IndexMap.{values}
use Rattle.cg_group_state.proofs.members.Members.recall.Goals as goal

pub invariant_of-self : goal.invariant_of-self
invariant_of-self c = (after_recalling c.args.id.now c.args.heard c.args.waits (values c.self.inside.by_id) (values c.recall_one.new.members) c.recall_one.ensures.recalled c.self.invariant.0, c.recall_one.ensures.keyed)
