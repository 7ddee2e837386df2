use Rattle.std.proofs.Common.{◌≡◌, ℕ, List, [], Ok}
use Rattle.cg_record.specs.declared.topic_partition.TopicPartition.{TopicPartition}
use Rattle.cg_record.specs.Partitions.{are_one, topic_partition}
use Rattle.cg_record.specs.Reading.{partition_at, partitions_at}
use Rattle.cg_record.proofs.Again.{IsUnmet}
use Rattle.cg_record.proofs.removed.is_repeated.Given as goal

abbrev pub invariant-loop : goal.invariant-loop
invariant-loop l = (whole : List TopicPartition) (end : List ℕ) → partitions_at l.count [] l.start ≡ Ok (whole, end) → IsUnmet partition_at l.count l.counter (λ other. are_one other (topic_partition l.topic l.partition)) whole end l.rest
