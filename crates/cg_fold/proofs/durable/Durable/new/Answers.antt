use Rattle.cg_fold.proofs.Kept.{state-nil}
use Rattle.cg_fold.proofs.durable.Durable.new.Goals as goal

pub returns : goal.returns
returns c = state-nil _ _ c.new.ensures.empty c.new-2.ensures
