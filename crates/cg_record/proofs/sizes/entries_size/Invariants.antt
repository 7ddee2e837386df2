use Rattle.std.proofs.Common.{◌≡◌, ◌≤◌, ◌+◌, ◌*◌, length, take}
use Rattle.std.specs.List.{flat_map}
use Rattle.cg_record.specs.declared.metadata.TheConstants.{METADATA_BYTES_MAX}
use Rattle.cg_record.specs.declared.sizes.TheConstants.{BARE_ENTRY_BYTES_MAX}
use Rattle.cg_record.specs.Keys.{metadata_bytes}
use Rattle.cg_record.specs.Spelling.{entry_text}
use Rattle.cg_record.proofs.sizes.entries_size.Given as goal

abbrev pub invariant-loop-entry : goal.invariant-loop-entry
invariant-loop-entry l = record {
  size : l.total ≡ length (flat_map entry_text (take l.entry-index l.entries));
  bound : l.total ≤ l.entry-index * BARE_ENTRY_BYTES_MAX + metadata_bytes (take l.entry-index l.entries);
  metadata : metadata_bytes (take l.entry-index l.entries) ≤ l.entry-index * METADATA_BYTES_MAX;
}
