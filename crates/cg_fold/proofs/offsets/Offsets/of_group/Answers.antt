use Rattle.std.proofs.Common.{◌∙◌}
use Rattle.cg_fold.proofs.Stock.{shelves-group}
use Rattle.cg_fold.proofs.offsets.Offsets.of_group.Goals as goal

pub returns-clause-value : goal.returns-clause-value
returns-clause-value c = c.rows_at.ensures.value ∙ shelves-group c.args.group.now c.self.inside.len c.self.inside.shelves.entries c.args.self.now c.self.invariant c.self.view_is
