use Rattle.cg_group_state.proofs.Together.{after_exchange}
use Rattle.indexmap.specs.IndexMap.{values}
use Rattle.cg_group_state.proofs.members.Members.exchange_assignments.Goals as goal

pub invariant_of-self : goal.invariant_of-self
invariant_of-self c = (after_exchange c.args.assignments.now (values c.self.inside.by_id) (values c.exchange_in.new.members) c.exchange_in.ensures.members c.self.invariant.0, c.exchange_in.ensures.keyed)
