use Rattle.cg_record.specs.Reading.{entry_at}
use Rattle.cg_record.proofs.Again.{IsChecked}
use Rattle.cg_record.proofs.command_check.check_entries.Given as goal

abbrev pub invariant-loop-i : goal.invariant-loop-i
invariant-loop-i l = IsChecked entry_at l.count l.i l.bytes l.rest
