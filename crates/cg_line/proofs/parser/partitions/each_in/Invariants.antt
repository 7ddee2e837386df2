use Rattle.std.proofs.Common.{◌≡◌, map, take}
use Rattle.cg_line.specs.Parsing.{partition_in}
use Rattle.cg_line.proofs.parser.partitions.each_in.Given as goal

abbrev pub invariant-loop-word : goal.invariant-loop-word
invariant-loop-word l = l.partitions.items ≡ map partition_in (map (λ w. w.now) (take l.word-index l.words))
