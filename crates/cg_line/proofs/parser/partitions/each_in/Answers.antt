use Rattle.cg_line.proofs.Each.{each_seen}
use Rattle.cg_line.specs.Parsing.{is_partition}
use Rattle.cg_line.proofs.parser.partitions.each_in.Goals as goal

pub partition_in-requires : goal.partition_in-requires
partition_in-requires c = each_seen is_partition (λ w. w.now) c.args.words.now c.loop-word.word-index _ c.loop-word-test.true c.requires
