use Rattle.std.proofs.Common.{◌∙◌}
use Rattle.cg_fold.proofs.Maps.{remove_entry-filter}
use Rattle.cg_fold.proofs.Put.{tested}
use Rattle.cg_fold.proofs.grouped.take_away.Goals as goal

pub returns-clause-entries : goal.returns-clause-entries
returns-clause-entries g c = c.remove.ensures.entries ∙ remove_entry-filter c.args.group.now c.args.kept.now.entries (tested c.requires)
