use Rattle.std.proofs.Common.{[], codes}
use Rattle.cg_line.specs.Replies.{fetched_word}
use Rattle.cg_line.specs.Words.{spaced}
use Rattle.cg_line.proofs.Spaced.{listed_put}
use Rattle.cg_line.proofs.printer.put_fetched_line.Goals as goal

pub returns-clause-ok : goal.returns-clause-ok
unfolding spaced
returns-clause-ok c =
    listed_put fetched_word c.args.out.now.items c.extend_from_slice.new.self.items c.put_fetched.new.out.items (codes "FETCHED") [] c.args.partitions.now
    c.in_ok-extend_from_slice.ensures.items (rw c.as_slice.ensures at c.in_ok-put_fetched.ensures.ok)
