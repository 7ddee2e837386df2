-- Which commands fit one frame, the room of a store, and when a store refuses a batch.
use Rattle.std.specs.Prelude.{◌≤◌, ℕ, ◌+◌, List, length, Bool, ◌&&◌, nat_eq, nat_le, Option, Some, None, if◌then◌else◌}
use Rattle.cg_frame.specs.declared.segment.TheConstants.{LARGEST_PAYLOAD_BYTES}
use Rattle.cg_log.specs.Room.{Room, has_room as log_has_room, room_after as log_room_after, calls_for as log_calls_for}
use Rattle.cg_log.specs.declared.numbers.TheConstants.{COMMAND_NUMBER_MAX}
use Rattle.cg_record.specs.declared.command.Command.{Command}
use Rattle.cg_record.specs.Spelling.{spelling}
use Rattle.cg_store.specs.declared.fault.StoreFault.{StoreFault}
use Rattle.cg_store.specs.declared.fault.StoreFault.TheVariants.{Full, OutOfOrder, Failed}

-- at least one command, and a payload that fits one frame
pub record IsBatch (commands : List Command) : Type 0 where
  pub some : 1 ≤ length commands
  pub small : length (spelling commands) ≤ LARGEST_PAYLOAD_BYTES

-- there is room for the frame, and there are command numbers left after `front`
abbrev pub has_room : Room → ℕ → List Command → Bool
has_room room front commands = log_has_room room (length (spelling commands)) && nat_le (front + length commands) COMMAND_NUMBER_MAX

-- the room after an append of these commands
abbrev pub room_after : Room → List Command → Room
room_after room commands = log_room_after room (length (spelling commands))

-- the most calls of the disk that an append of these commands makes: four where their frame fits without a new segment
abbrev pub calls_for : Room → List Command → ℕ
calls_for room commands = log_calls_for room (length (spelling commands))

-- the fault that needs neither memory nor the disk, if there is one, in the order Failed, OutOfOrder, Full
unfoldable pub refusal_of : Bool → Room → ℕ → ℕ → List Command → Option StoreFault
refusal_of failed room front first commands =
    if failed then Some Failed
    else (if nat_eq first (front + 1) then (if has_room room front commands then None else Some Full) else Some OutOfOrder)
