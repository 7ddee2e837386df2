use Rattle.cg_fold.proofs.Commits.{are_entries}
use Rattle.cg_fold.proofs.snapshots.commit_of.Goals as goal

pub from_lawful-requires : goal.from_lawful-requires
from_lawful-requires c = are_entries c.args.rows.now c.in_ok-entries.entries.items c.requires.some c.requires.few c.requires.metadata c.requires.sorted c.in_ok-entries.ensures
