use Rattle.std.proofs.Common.{◌≡◌, ◌++◌, take}
use Rattle.std.specs.List.{flat_map, AllByRecursion}
use Rattle.cg_record.specs.Lawful.{IsEntry}
use Rattle.cg_record.specs.Spelling.{entry_text}
use Rattle.cg_record.proofs.encoder.put_entries.Given as goal

abbrev pub invariant-loop-entry : goal.invariant-loop-entry
invariant-loop-entry l = (l.out.items ≡ l.fn.out.items ++ flat_map entry_text (take l.entry-index l.entries)) × AllByRecursion IsEntry (take l.entry-index l.entries)
