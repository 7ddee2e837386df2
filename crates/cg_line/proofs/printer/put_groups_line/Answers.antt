use Rattle.std.proofs.Common.{[], codes}
use Rattle.cg_line.specs.Replies.{listing_word}
use Rattle.cg_line.specs.Words.{spaced}
use Rattle.cg_line.proofs.Spaced.{listed_put}
use Rattle.cg_line.proofs.printer.put_groups_line.Goals as goal

pub returns-clause-ok : goal.returns-clause-ok
unfolding spaced
returns-clause-ok c =
    listed_put listing_word c.args.out.now.items c.extend_from_slice.new.self.items c.put_listings.new.out.items (codes "GROUPS") [] c.args.groups.now
    c.in_ok-extend_from_slice.ensures.items (rw c.as_slice.ensures at c.in_ok-put_listings.ensures.ok)
