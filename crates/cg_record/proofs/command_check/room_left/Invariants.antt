use Rattle.std.proofs.Common.{◌≡◌, ℕ, List, [], Ok}
use Rattle.cg_record.specs.declared.entry.Entry.{Entry}
use Rattle.cg_record.specs.Reading.{entries_at}
use Rattle.cg_record.proofs.Again.{IsSummed}
use Rattle.cg_record.proofs.command_check.room_left.Given as goal

abbrev pub invariant-loop : goal.invariant-loop
invariant-loop l = (whole : List Entry) (end : List ℕ) → entries_at l.count [] l.start ≡ Ok (whole, end) → IsSummed l.count l.counter whole end l.rest l.room
