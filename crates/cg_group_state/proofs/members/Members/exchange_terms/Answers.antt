use Rattle.cg_group_state.proofs.Together.{after_update}
use Rattle.indexmap.specs.IndexMap.{values}
use Rattle.cg_group_state.proofs.members.Members.exchange_terms.Goals as goal

pub invariant_of-self : goal.invariant_of-self
invariant_of-self c = (after_update c.args.id.now c.args.join (values c.self.inside.by_id) (values c.exchange_terms_of.new.members) c.exchange_terms_of.ensures.given c.self.invariant.0, c.exchange_terms_of.ensures.keyed)
