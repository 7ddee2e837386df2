use Rattle.cg_fold.proofs.Kept.{state-commit}
use Rattle.cg_fold.proofs.durable.Durable.take_commit.Goals as goal

pub returns-clause-ok : goal.returns-clause-ok
returns-clause-ok c =
    state-commit c.args.commit c.self.inside.records.entries c.self.inside.offsets c.take_commit_in.new.self c.args.self.now c.in_ok-take_commit_in.ensures.ok c.self.view_is
