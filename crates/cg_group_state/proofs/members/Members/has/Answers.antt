use Rattle.std.proofs.Common.{ap, is_some, ◌∙◌}
use Rattle.cg_group_state.proofs.Keyed.{lookup_keyed}
use Rattle.cg_group_state.proofs.members.Members.has.Goals as goal

pub returns : goal.returns
returns c = rw (← c.self.view_is) (c.contains_key.ensures ∙ ap is_some (lookup_keyed c.args.id.now c.self.inside.by_id.entries c.self.invariant.1))
