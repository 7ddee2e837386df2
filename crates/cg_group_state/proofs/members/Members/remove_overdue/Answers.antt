use Rattle.std.proofs.Common.{not}
use Rattle.indexmap.specs.IndexMap.{values}
use Rattle.cg_group_state.specs.Staying.{is_overdue}
use Rattle.cg_group_state.proofs.Together.{after_removing}
use Rattle.cg_group_state.proofs.members.Members.remove_overdue.Goals as goal

pub invariant_of-self : goal.invariant_of-self
invariant_of-self c = (after_removing (λ m. not (is_overdue c.args.now m)) (values c.self.inside.by_id) (values c.keep_timely.new.members) c.keep_timely.ensures.kept c.self.invariant.0, c.keep_timely.ensures.keyed)
