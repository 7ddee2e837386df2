use Rattle.std.proofs.Common.{map}
use Rattle.cg_line.proofs.Keyed.{sync_entries_lawful}
use Rattle.cg_line.proofs.parser.sync_entries.sync_entries_in.Goals as goal

pub unreachable-requires : goal.unreachable-requires
unreachable-requires c = c.in-Err.ensures.cases.0 (rw c.in_ok-each_in.ensures (sync_entries_lawful (map (λ w. w.now) c.args.words.now) c.requires))
