-- Runs: steps in their order, each with its note.
use Rattle.std.specs.Prelude.{ℕ, Bool, true, false, ◌++◌, List, [], ◌∷◌}
use Rattle.std.specs.Option.{option_to_list}
use Rattle.cg_request.specs.declared.event.Event.{Event}
use Rattle.cg_group.specs.Laws.{commands_of}
use Rattle.cg_record.specs.declared.command.Command.{Command}
use Rattle.cg_desk.specs.Desks.{State, Loading, Serving, Failed}
use Rattle.cg_desk.specs.Books.{Books}
use Rattle.cg_desk.specs.Flights.{unsettled}
use Rattle.cg_desk.specs.declared.outgoing.Outgoing.{Outgoing}
use Rattle.cg_world.specs.Sights.{Sight}
use Rattle.cg_world.specs.Turns.{IsNoteOf, event_at, out_of, turn}
use Rattle.cg_world.specs.declared.step.Step.{Step}
use Rattle.cg_world.specs.declared.step.StepNote.{StepNote}

-- the world after the steps
unfoldable pub after_run : List (Step × StepNote) → Sight → Sight
after_run [] w = w
after_run (p ∷ ps) w = after_run ps (turn p.0 p.1 w).after

-- what leaves in each of the steps
unfoldable pub outs_of : List (Step × StepNote) → Sight → List (List Outgoing)
outs_of [] w = []
outs_of (p ∷ ps) w = out_of (turn p.0 p.1 w) ∷ outs_of ps (turn p.0 p.1 w).after

-- each note is possible for its step
unfoldable pub AreNotes : List (Step × StepNote) → Sight → Type 0
AreNotes [] w = Unit {0}
AreNotes (p ∷ ps) w = IsNoteOf p.0 w p.1 × AreNotes ps (turn p.0 p.1 w).after

-- the events of the machine among the steps
unfoldable pub events_of : List (Step × StepNote) → Sight → List (Event × ℕ)
events_of [] w = []
events_of (p ∷ ps) w = option_to_list (event_at p.0 w.desk) ++ events_of ps (turn p.0 p.1 w).after

-- the commands that are numbered and not in the store
abbrev pub unstored_in : Bool → Books → List Command
unstored_in true b = b.queue
unstored_in false b = unsettled b.course ++ b.queue

abbrev pub unstored_at : Bool → State → List Command
unstored_at stored Loading = []
unstored_at stored (Failed n s) = []
unstored_at stored (Serving b) = unstored_in stored b

abbrev pub unstored : Sight → List Command
unstored w = unstored_at w.appended w.desk

-- the commands that events make in the machine of a desk that serves
abbrev pub made_at : List (Event × ℕ) → State → List Command
made_at events Loading = []
made_at events (Failed n s) = []
made_at events (Serving b) = commands_of events b.machine

-- the commands that a step makes, and those that a run makes
abbrev pub made_in : Step → State → List Command
made_in step s = made_at (option_to_list (event_at step s)) s

unfoldable pub made_by : List (Step × StepNote) → Sight → List Command
made_by [] w = []
made_by (p ∷ ps) w = made_in p.0 w.desk ++ made_by ps (turn p.0 p.1 w).after

-- the commands that a run may store: those that are numbered and not in the store when it begins, and those that it
-- makes
unfoldable pub to_store : List (Step × StepNote) → Sight → List Command
to_store ps w = unstored w ++ made_by ps w
