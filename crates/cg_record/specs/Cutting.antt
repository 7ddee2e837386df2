-- Payloads that are cut off.
use Rattle.std.specs.Prelude.{◌≡◌, ◌⊎◌, ℕ, ◌<◌, List, length, take, Err}
use Rattle.cg_record.specs.declared.command.Command.{Command}
use Rattle.cg_record.specs.declared.fault.RecordFault.TheVariants.{Short}
use Rattle.cg_record.specs.declared.format.Version.{Version}
use Rattle.cg_record.specs.Reading.{commands_of}
use Rattle.cg_record.specs.Spelling.{payload}

-- the bytes end inside a field, or are the payload of the first of the commands
abbrev pub IsCutShort : Version → List Command → List ℕ → Type 0
IsCutShort version commands bytes = (commands_of bytes ≡ Err Short) ⊎ ((k : ℕ) × (k < length commands) × (bytes ≡ payload version (take k commands)))
