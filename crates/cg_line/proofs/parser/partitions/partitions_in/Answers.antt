use Rattle.std.proofs.Common.{map}
use Rattle.cg_line.proofs.Placed.{partitions_lawful, partition_words_parts}
use Rattle.cg_line.proofs.parser.partitions.partitions_in.Goals as goal

pub each_in-requires : goal.each_in-requires
each_in-requires c = (partition_words_parts (map (λ w. w.now) c.args.words.now) c.requires).each

pub unreachable-requires : goal.unreachable-requires
unreachable-requires c = c.in-Err.ensures.cases.0 (rw c.in_ok-each_in.ensures (partitions_lawful (map (λ w. w.now) c.args.words.now) c.requires))
