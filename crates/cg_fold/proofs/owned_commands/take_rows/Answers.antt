use Rattle.cg_fold.proofs.Popped.{commits_absent}
use Rattle.cg_fold.proofs.owned_commands.take_rows.Goals as goal

pub returns-in-None : goal.returns-in-None
returns-in-None c = commits_absent c.args.group.now c.args.rows c.args.commands.now.items c.in-None.is
