use Rattle.std.proofs.Common.{◌≡◌, ◌++◌, codes, take}
use Rattle.std.specs.List.{flat_map}
use Rattle.cg_line.specs.Replies.{fetched_word}
use Rattle.cg_line.proofs.printer.entry.put_fetched.Given as goal

abbrev pub invariant-loop-partition : goal.invariant-loop-partition
invariant-loop-partition l = l.out.items ≡ l.fn.out.items ++ flat_map (λ x. codes " " ++ fetched_word x) (take l.partition-index l.partitions)
