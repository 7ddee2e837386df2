use Rattle.std.proofs.Common.{◌≡◌, ◌-◌, []}
use Rattle.cg_record.specs.Reading.{members_at}
use Rattle.cg_record.proofs.group_decoder.members_at.Given as goal

abbrev pub invariant-loop : goal.invariant-loop
invariant-loop l = members_at (l.count - l.counter) l.members.items l.rest ≡ members_at l.count [] l.bytes
