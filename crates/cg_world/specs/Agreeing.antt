-- The invariant of the desk, the batch on its way, and the store.
use Rattle.std.specs.Prelude.{◌≡◌, ◌+◌, ◌≤◌, ℕ, Bool, true, false, List, [], length, Option, None, Some}
use Rattle.cg_record.specs.declared.command.Command.{Command}
use Rattle.cg_store.specs.declared.batch.Batch.{Batch}
use Rattle.cg_store.specs.Receipts.{batch_of}
use Rattle.cg_desk.specs.Desks.{State, Loading, Serving, Failed, settled_of}
use Rattle.cg_desk.specs.Flights.{Course, Idle, Away, Returned}
use Rattle.cg_world.specs.declared.transit.Transit.{Transit}
use Rattle.cg_world.specs.declared.transit.Transit.TheVariants.{Empty, Taken, Appended}
pub use Rattle.cg_desk.specs.Desks.{is_serving}

-- the batch in flight, as its desk knows it: the number of its first command, and the commands
abbrev pub flying_in : Course → ℕ → Option (ℕ × List Command)
flying_in Idle settled = None
flying_in (Away commands) settled = Some (settled + 1, commands)
flying_in (Returned commands) settled = None

abbrev pub flying : State → Option (ℕ × List Command)
flying Loading = None
flying (Failed n s) = None
flying (Serving b) = flying_in b.course b.settled

-- the batch on its way
abbrev pub seen : Batch → ℕ × List Command
seen batch = (batch.first, batch.commands)

abbrev pub moving : Transit → Option (ℕ × List Command)
moving Empty = None
moving (Taken batch) = Some (seen batch)
moving (Appended receipt) = Some (seen (batch_of receipt))

-- the commands that are in the store and not settled
abbrev pub stored_in : Transit → List Command
stored_in Empty = []
stored_in (Taken batch) = []
stored_in (Appended receipt) = (batch_of receipt).commands

-- a desk, the batch on its way, how many commands the store has, and whether its disk has failed
pub record Agree (desk : State) (transit : Transit) (front : ℕ) (failed : Bool) : Type 0 where
  -- the batch on its way is the one in flight
  pub way : moving transit ≡ flying desk
  -- the store has the settled commands, and the batch that was appended
  pub stored : is_serving desk ≡ true → front ≡ settled_of desk + length (stored_in transit)
  pub enough : settled_of desk ≤ front
  -- a store has failed where its desk has, and nowhere else
  pub serves : is_serving desk ≡ true → failed ≡ false
  pub rests : is_serving desk ≡ false → failed ≡ true
