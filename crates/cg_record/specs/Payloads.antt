-- Payloads and their commands.
use Rattle.std.specs.Prelude.{◌≡◌, ℕ, List, [], Result, Ok, Err}
use Rattle.cg_record.specs.Reading.{commands_of}
use Rattle.cg_record.specs.Spelling.{spelling}
use Rattle.cg_record.specs.declared.command.Command.{Command}
use Rattle.cg_record.specs.declared.fault.RecordFault.{RecordFault}

-- the decoded commands; none if there is a fault
abbrev pub what_is_read : Result (List Command) RecordFault → List Command
what_is_read (Ok commands) = commands
what_is_read (Err fault) = []

-- the commands of a payload; none if it cannot be decoded
abbrev pub told : List ℕ → List Command
told bytes = what_is_read (commands_of bytes)

-- the payload is the encoding that `write` makes of its commands
abbrev pub IsText : List ℕ → Type 0
IsText bytes = bytes ≡ spelling (told bytes)
