-- Partitions of topics, their order, and lists of them.
use Rattle.std.specs.Prelude.{ℕ, Bool, ◌&&◌, ◌==◌, List}
use Rattle.std.specs.Cmp.Lexicographic.{slice_cmp}
use Rattle.std.specs.Ordering.{nat_cmp, on, then_cmp}
use Rattle.std.specs.Str.{bytes_eq}
use Rattle.std.specs.declared.cmp.Ordering.{Ordering}
use Rattle.cg_record.specs.declared.entries.TheConstants.{ENTRIES_MAX}
use Rattle.cg_record.specs.declared.topic_partition.TopicPartition.{TopicPartition}
use Rattle.cg_record.specs.Distinct.{AreDistinct}

-- this partition of this topic
abbrev pub topic_partition : List ℕ → ℕ → TopicPartition
topic_partition topic partition = record { topic = topic; partition = partition }

-- both are the same partition of the same topic
abbrev pub are_one : TopicPartition → TopicPartition → Bool
are_one a b = a.partition == b.partition && bytes_eq a.topic b.topic

-- the order of partitions: by topic, then by number
abbrev pub partition_cmp : TopicPartition → TopicPartition → Ordering
partition_cmp = then_cmp (on (λ p. p.topic) (slice_cmp nat_cmp)) (on (λ p. p.partition) nat_cmp)

-- 1 to `ENTRIES_MAX` partitions, all different
abbrev pub ArePartitions : List TopicPartition → Type 0
ArePartitions partitions = AreDistinct are_one 1 ENTRIES_MAX partitions
