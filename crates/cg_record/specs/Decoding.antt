-- The commands that a decoder has not handed out yet.
use Rattle.std.specs.Prelude.{ℕ, List, ◌++◌, length, Result, Ok}
use Rattle.cg_record.specs.declared.command.Command.{Command}
use Rattle.cg_record.specs.declared.fault.RecordFault.{RecordFault}
use Rattle.cg_record.specs.declared.format.Version.{Version}
use Rattle.cg_record.specs.Fields.{◌>>=◌}
use Rattle.cg_record.specs.Reading.{commands_to_end}

-- the commands up to the end of the bytes, or the first fault
abbrev pub left_in : Version → List ℕ → Result (List Command) RecordFault
left_in version bytes = commands_to_end version (length bytes) bytes

-- these commands, and those that are left after them, or the first fault
abbrev pub after_front : List Command → Result (List Command) RecordFault → Result (List Command) RecordFault
after_front front left = left >>= λ others. Ok (front ++ others)
