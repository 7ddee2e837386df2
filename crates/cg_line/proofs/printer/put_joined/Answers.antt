use Rattle.std.proofs.Common.{[], ◌∷◌, codes}
use Rattle.std.specs.Fmt.{decimal}
use Rattle.cg_line.specs.Replies.{joined_line, joined_word}
use Rattle.cg_line.specs.Words.{name_word}
use Rattle.cg_line.proofs.Spaced.{listed_put}
use Rattle.cg_line.proofs.printer.put_joined.Goals as goal

pub returns-clause-ok : goal.returns-clause-ok
unfolding joined_line
returns-clause-ok c =
    let j = c.args.joined.now in
    listed_put joined_word c.args.out.now.items c.put_joined_head.new.out.items c.put_joined_members.new.out.items (codes "JOINED")
    (decimal j.generation ∷ name_word j.kind ∷ name_word j.protocol ∷ name_word j.leader ∷ j.member ∷ []) j.members
    c.in_ok-put_joined_head.ensures.ok (rw c.as_slice.ensures at c.in_ok-put_joined_members.ensures.ok)
