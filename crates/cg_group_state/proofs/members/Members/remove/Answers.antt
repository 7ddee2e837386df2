use Rattle.std.proofs.Common.{not}
use Rattle.indexmap.specs.IndexMap.{values}
use Rattle.cg_group_state.specs.Membership.{has_id}
use Rattle.cg_group_state.proofs.Together.{after_removing}
use Rattle.cg_group_state.proofs.members.Members.remove.Goals as goal

pub invariant_of-self : goal.invariant_of-self
invariant_of-self c = (after_removing (λ m. not (has_id c.args.id.now m)) (values c.self.inside.by_id) (values c.keep_others.new.members) c.keep_others.ensures.kept c.self.invariant.0, c.keep_others.ensures.keyed)
