use Rattle.std.proofs.Common.{◌∙◌}
use Rattle.cg_group_state.proofs.Keyed.{lookup_keyed}
use Rattle.cg_group_state.proofs.members.Members.find.Goals as goal

pub returns : goal.returns
returns c = rw (← c.self.view_is) (c.get.ensures.value ∙ lookup_keyed c.args.id.now c.self.inside.by_id.entries c.self.invariant.1)
