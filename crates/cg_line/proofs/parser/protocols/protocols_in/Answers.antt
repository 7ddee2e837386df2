use Rattle.std.proofs.Common.{map}
use Rattle.cg_line.proofs.Keyed.{protocols_lawful}
use Rattle.cg_line.proofs.parser.protocols.protocols_in.Goals as goal

pub unreachable-requires : goal.unreachable-requires
unreachable-requires c = (rw c.in-None.is at c.in_ok-protocols.ensures.ok) (rw c.in_ok-each_in.ensures (protocols_lawful (map (λ w. w.now) c.args.words.now) c.requires))
