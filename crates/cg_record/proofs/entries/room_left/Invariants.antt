use Rattle.std.proofs.Common.{◌≡◌, ◌-◌, take}
use Rattle.cg_record.specs.declared.entries.TheConstants.{COMMIT_METADATA_BYTES_MAX}
use Rattle.cg_record.specs.Keys.{metadata_bytes}
use Rattle.cg_record.proofs.entries.room_left.Given as goal

abbrev pub invariant-loop-entry : goal.invariant-loop-entry
invariant-loop-entry l = l.room ≡ COMMIT_METADATA_BYTES_MAX - metadata_bytes (take l.entry-index l.entries)
