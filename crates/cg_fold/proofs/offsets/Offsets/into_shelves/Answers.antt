use Rattle.std.proofs.Common.{subst}
use Rattle.cg_fold.specs.Shelf.{AreShelves}
use Rattle.cg_fold.proofs.Stock.{shelves-len}
use Rattle.cg_fold.proofs.offsets.Offsets.into_shelves.Goals as goal

pub returns-clause-are : goal.returns-clause-are
returns-clause-are c =
    subst (λ n. AreShelves n c.self.inside.shelves.entries) (shelves-len c.self.inside.len c.self.inside.shelves.entries c.args.self c.self.invariant c.self.view_is) c.self.invariant
