use Rattle.std.proofs.Common.{◌≡◌, ◌-◌, []}
use Rattle.cg_record.specs.Reading.{entries_at}
use Rattle.cg_record.proofs.command_decoder.entries_at.Given as goal

abbrev pub invariant-loop : goal.invariant-loop
invariant-loop l = entries_at (l.count - l.counter) l.entries.items l.rest ≡ entries_at l.count [] l.bytes
