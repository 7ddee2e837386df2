use Rattle.std.proofs.Common.{[], ◌∷◌, codes}
use Rattle.std.specs.Fmt.{decimal}
use Rattle.cg_line.specs.Replies.{held_line, described_word, state_word}
use Rattle.cg_line.specs.Words.{name_word}
use Rattle.cg_line.proofs.Spaced.{listed_put}
use Rattle.cg_line.proofs.printer.put_held.Goals as goal

pub returns-clause-ok : goal.returns-clause-ok
unfolding held_line
returns-clause-ok c =
    let d = c.args.described.now in
    listed_put described_word c.args.out.now.items c.put_held_head.new.out.items c.put_described_members.new.out.items (codes "GROUP")
    (state_word d.phase ∷ decimal d.generation ∷ name_word d.kind ∷ name_word d.protocol ∷ []) d.members
    c.in_ok-put_held_head.ensures.ok (rw c.as_slice.ensures at c.in_ok-put_described_members.ensures.ok)
