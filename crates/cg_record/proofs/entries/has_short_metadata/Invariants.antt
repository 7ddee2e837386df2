use Rattle.std.proofs.Common.{◌≡◌, ◌≤◌, ◌*◌, take}
use Rattle.cg_record.specs.declared.metadata.TheConstants.{METADATA_BYTES_MAX}
use Rattle.cg_record.specs.Keys.{metadata_bytes}
use Rattle.cg_record.proofs.entries.has_short_metadata.Given as goal

abbrev pub invariant-loop-entry : goal.invariant-loop-entry
invariant-loop-entry l = (l.total ≡ metadata_bytes (take l.entry-index l.entries)) × (l.total ≤ l.entry-index * METADATA_BYTES_MAX)
