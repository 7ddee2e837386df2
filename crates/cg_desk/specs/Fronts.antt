-- The commands of one batch: the longest prefix of the queue that fits one frame.
use Rattle.std.specs.Prelude.{◌≡◌, ℕ, suc, ◌+◌, List, [], ◌∷◌, length, nat_le, if◌then◌else◌, Option, Some, None}
use Rattle.cg_frame.specs.declared.segment.TheConstants.{LARGEST_PAYLOAD_BYTES}
use Rattle.cg_record.specs.declared.command.Command.{Command}
use Rattle.cg_record.specs.Spelling.{command_text, spelling}

-- how many of the commands fit a payload after its first `used` bytes
unfoldable pub fitting : ℕ → List Command → ℕ
fitting used [] = 0
fitting used (c ∷ cs) =
    if nat_le (used + length (command_text c)) LARGEST_PAYLOAD_BYTES
    then suc (fitting (used + length (command_text c)) cs)
    else 0

-- how many of the commands fit one frame: a payload begins with one byte for the version
abbrev pub in_frame : List Command → ℕ
in_frame commands = fitting 1 commands

-- the commands of a draft; without a draft, no commands
abbrev pub spelled : Option (List Command) → List Command
spelled None = []
spelled (Some commands) = commands

-- the first of the commands after the draft does not fit the frame, or there is none
abbrev pub IsFull : Option (List Command) → List Command → Type 0
IsFull draft behind = fitting (length (spelling (spelled draft))) behind ≡ 0
