use Rattle.std.proofs.Common.{◌≡◌, ◌≤◌, ◌*◌, length, take}
use Rattle.std.specs.List.{flat_map}
use Rattle.cg_record.specs.declared.sizes.TheConstants.{KEY_BYTES_MAX}
use Rattle.cg_record.specs.Spelling.{key_text}
use Rattle.cg_record.proofs.sizes.partitions_size.Given as goal

abbrev pub invariant-loop-partition : goal.invariant-loop-partition
invariant-loop-partition l = (l.total ≡ length (flat_map key_text (take l.partition-index l.partitions))) × (l.total ≤ l.partition-index * KEY_BYTES_MAX)
