use Rattle.cg_group.proofs.LawfulCommits.{commits_are_lawful}
use Rattle.cg_group.proofs.laws.commits_are_lawful.Goals as goal

pub returns : goal.returns
returns c = commits_are_lawful c.args.events.now c.events_are_requests.ensures
