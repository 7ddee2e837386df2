use Rattle.cg_time.proofs.Moments.{earliest-fork}
use Rattle.cg_time.proofs.tree.Tree.fork.Goals as goal

pub invariant_of-result : goal.invariant_of-result
invariant_of-result g c =
    let is = earliest-fork c.args.left c.args.entry c.args.right in
    (c.requires, cc (is, c.earlier-earliest.ensures, c.earlier.ensures, c.earliest.ensures, c.earliest-2.ensures))
