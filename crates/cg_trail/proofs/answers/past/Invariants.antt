use Rattle.std.proofs.Common.{List, ◌++◌, ◌↔◌, drop}
use Rattle.cg_trail.specs.Entries.{Answer}
use Rattle.cg_trail.specs.Trails.{ArePicked}
use Rattle.cg_trail.proofs.answers.past.Given as goal

abbrev pub invariant-loop-reply : goal.invariant-loop-reply
invariant-loop-reply l = (others : List Answer) → ArePicked l.fn.answers (l.replies ++ others) ↔ ArePicked l.left (drop l.reply-index l.replies ++ others)
