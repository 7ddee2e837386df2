use Rattle.cg_record.specs.Reading.{partition_at}
use Rattle.cg_record.proofs.Again.{IsChecked}
use Rattle.cg_record.proofs.removed.check_partitions.Given as goal

abbrev pub invariant-loop-i : goal.invariant-loop-i
invariant-loop-i l = IsChecked partition_at l.count l.i l.bytes l.rest
