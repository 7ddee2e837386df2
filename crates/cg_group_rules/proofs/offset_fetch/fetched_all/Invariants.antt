use Rattle.std.proofs.Common.{◌≡◌, ◌++◌, length, map}
use Rattle.std.specs.Vec.Iter.{into_iter_items, into_iter_len}
use Rattle.cg_group_rules.specs.OffsetFetch.{fetched_partition}
use Rattle.cg_group_rules.proofs.offset_fetch.fetched_all.Given as goal

abbrev pub invariant-loop-partition : goal.invariant-loop-partition
invariant-loop-partition l =
    (l.fetched.items ++ map (fetched_partition l.offsets l.group) (into_iter_items l.partition-iterator) ≡ map (fetched_partition l.offsets l.group) (into_iter_items l.initial.partition-iterator))
    × (into_iter_len l.partition-iterator ≡ length (into_iter_items l.partition-iterator))
