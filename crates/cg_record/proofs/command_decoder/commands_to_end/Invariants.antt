use Rattle.std.proofs.Common.{length}
use Rattle.cg_record.specs.Reading.{commands_to_end}
use Rattle.cg_record.proofs.Steps.{IsLeft}
use Rattle.cg_record.proofs.command_decoder.commands_to_end.Given as goal

abbrev pub invariant-loop-rest : goal.invariant-loop-rest
invariant-loop-rest l = IsLeft l.version l.bytes l.commands.items l.rest (commands_to_end l.version (length l.bytes) l.bytes)

abbrev pub decreases-loop-rest : goal.decreases-loop-rest
decreases-loop-rest l = length l.rest
