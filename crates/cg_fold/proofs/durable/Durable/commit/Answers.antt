use Rattle.cg_fold.proofs.Kept.{state-commit}
use Rattle.cg_fold.proofs.durable.Durable.commit.Goals as goal

pub returns-clause-ok : goal.returns-clause-ok
returns-clause-ok c =
    state-commit c.args.commit.now c.self.inside.records.entries c.self.inside.offsets c.commit.new.self c.args.self.now c.in_ok-commit.ensures.ok c.self.view_is
