use Rattle.std.proofs.Common.{inl, inr}
use Rattle.cg_line.proofs.Digits.{no-fault}
use Rattle.cg_line.proofs.parser.bytes.decoded.Goals as goal

pub want_of_memory-requires : goal.want_of_memory-requires
want_of_memory-requires c = elim c.in-Err.ensures.err [ inl memory ↦ memory | inr fault ↦ absurd (no-fault _ _ c.requires fault) ]
