use Rattle.std.proofs.Common.{◌<◌, sym, rules, append-nil}
use Rattle.cg_time.proofs.Moments.{none_due}
use Rattle.cg_time.proofs.tree.Tree.+push_due.Goals as goal

-- the branch is not entered before its earliest moment
pub returns-then-lt-clause-ok : goal.returns-then-lt-clause-ok
returns-then-lt-clause-ok g t c =
    let late : c.args.now < c.in_Some-branch.branch.now.earliest = search rules in
    let none = none_due c.args.now c.args.self.now (rw c.in_Some-branch.ensures.earliest at late) in
    rw none (sym (append-nil c.args.keys.now.items))
