use Rattle.std.proofs.Common.{ap, ◌∙◌}
use Rattle.cg_group_table.specs.GroupTable.{find_group}
use Rattle.cg_group_table.proofs.Mapped.{lookup-own}
use Rattle.cg_group_table.proofs.loaded_groups.Loaded.find.Goals as goal

pub returns-clause-found : goal.returns-clause-found
returns-clause-found c = c.get.ensures.value ∙ lookup-own c.args.id.now c.self.inside.groups.entries c.self.invariant.0 ∙ ap (find_group c.args.id.now) c.self.view_is
