use Rattle.std.proofs.Common.{◌∙◌}
use Rattle.cg_fold.specs.Key.{name_cmp}
use Rattle.cg_fold.proofs.Maps.{insert_entry-put}
use Rattle.cg_fold.proofs.grouped.put.Goals as goal

pub returns-clause-ok : goal.returns-clause-ok
returns-clause-ok g c = c.in_ok-insert.ensures.entries ∙ insert_entry-put name_cmp c.args.group c.args.value c.args.kept.now.entries
