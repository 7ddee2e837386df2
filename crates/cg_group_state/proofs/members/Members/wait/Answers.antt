use Rattle.cg_group_state.proofs.Together.{after_waiting}
use Rattle.indexmap.specs.IndexMap.{values}
use Rattle.cg_group_state.proofs.members.Members.wait.Goals as goal

pub invariant_of-self : goal.invariant_of-self
invariant_of-self c = (after_waiting c.args.id.now c.args.waits c.args.now (values c.self.inside.by_id) (values c.wait_one.new.members) c.wait_one.ensures.waits c.self.invariant.0, c.wait_one.ensures.keyed)
