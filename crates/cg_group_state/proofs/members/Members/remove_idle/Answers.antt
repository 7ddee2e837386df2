use Rattle.indexmap.specs.IndexMap.{values}
use Rattle.cg_group_state.specs.Staying.{outstays}
use Rattle.cg_group_state.proofs.Together.{after_removing}
use Rattle.cg_group_state.proofs.members.Members.remove_idle.Goals as goal

pub invariant_of-self : goal.invariant_of-self
invariant_of-self c = (after_removing (outstays) (values c.self.inside.by_id) (values c.keep_outstaying.new.members) c.keep_outstaying.ensures.kept c.self.invariant.0, c.keep_outstaying.ensures.keyed)
