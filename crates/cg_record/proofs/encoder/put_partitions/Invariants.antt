use Rattle.std.proofs.Common.{◌≡◌, ◌++◌, take}
use Rattle.std.specs.List.{flat_map, AllByRecursion}
use Rattle.cg_record.specs.Lawful.{IsKey}
use Rattle.cg_record.specs.Spelling.{key_text}
use Rattle.cg_record.proofs.encoder.put_partitions.Given as goal

abbrev pub invariant-loop-partition : goal.invariant-loop-partition
invariant-loop-partition l = (l.out.items ≡ l.fn.out.items ++ flat_map key_text (take l.partition-index l.partitions)) × AllByRecursion IsKey (take l.partition-index l.partitions)
