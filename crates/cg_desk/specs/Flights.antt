-- The state of the batch that was taken last.
use Rattle.std.specs.Prelude.{ℕ, Bool, true, false, List, []}
use Rattle.cg_record.specs.declared.command.Command.{Command}
use Rattle.cg_desk.specs.declared.flight.Flight.{Flight}
use Rattle.cg_desk.specs.declared.flight.Flight.TheVariants as flight

-- no batch is unsettled; one with these commands is in flight; or one with these commands was given back
pub data Course : Type 0 where
  Idle : Course
  Away : (commands : List Command) → Course
  Returned : (commands : List Command) → Course

-- the state that contracts see
abbrev pub course_of : Flight → Course
course_of flight.Idle = Idle
course_of (flight.Away commands) = Away commands
course_of (flight.Returned returned) = Returned returned.batch.commands

-- the commands of a batch that is not settled
abbrev pub unsettled : Course → List Command
unsettled Idle = []
unsettled (Away commands) = commands
unsettled (Returned commands) = commands

-- the number of the first command of a batch that was given back; otherwise the next number
abbrev pub first_of : Flight → ℕ → ℕ
first_of flight.Idle next = next
first_of (flight.Away commands) next = next
first_of (flight.Returned returned) next = returned.batch.first

-- a batch is in flight
abbrev pub is_away : Course → Bool
is_away Idle = false
is_away (Away commands) = true
is_away (Returned commands) = false

-- a batch was given back
abbrev pub is_returned : Course → Bool
is_returned Idle = false
is_returned (Away commands) = false
is_returned (Returned commands) = true
