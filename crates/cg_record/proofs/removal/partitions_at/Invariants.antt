use Rattle.std.proofs.Common.{◌≡◌, ◌-◌, []}
use Rattle.cg_record.specs.Reading.{partitions_at}
use Rattle.cg_record.proofs.removal.partitions_at.Given as goal

abbrev pub invariant-loop : goal.invariant-loop
invariant-loop l = partitions_at (l.count - l.counter) l.partitions.items l.rest ≡ partitions_at l.count [] l.bytes
