use Rattle.cg_fold.proofs.Stock.{shelves-len}
use Rattle.cg_fold.proofs.offsets.Offsets.len.Goals as goal

pub returns : goal.returns
returns c = shelves-len c.self.inside.len c.self.inside.shelves.entries c.args.self.now c.self.invariant c.self.view_is
