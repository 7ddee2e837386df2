-- The replies of a run, step by step.
use Rattle.std.proofs.Common.{ℕ, ◌++◌, List, [], ◌∷◌}
use Rattle.std.specs.Prelude.{Option, None, Some}
use Rattle.cg_request.specs.declared.event.Event.{Event}
use Rattle.cg_group.specs.Machine.{step}
use Rattle.cg_group_table.specs.GroupTable.{Outcome}
use Rattle.cg_desk.specs.Books.{Books}
use Rattle.cg_desk.specs.Desks.{State, Loading, Serving, Failed}
use Rattle.cg_desk.specs.Held.{holding}
use Rattle.cg_desk.specs.Origins.{origin_of}
use Rattle.cg_desk.specs.declared.pending_replies.HeldStep.{HeldStep}
use Rattle.cg_world.specs.Replying.{asker}
use Rattle.cg_world.specs.Sights.{Sight}
use Rattle.cg_world.specs.Turns.{event_of, turn}
use Rattle.cg_world.specs.declared.step.Step.{Step}
use Rattle.cg_world.specs.declared.step.StepNote.{StepNote}

-- the replies of an event
abbrev pub replies_to : Option (Event × ℕ) → Books → List HeldStep
replies_to None b = []
replies_to (Some e) b = let o : Outcome = step b.machine e.0 e.1 in holding (origin_of b.numbered (asker e.0) o.effects) o.effects.replies

abbrev pub replies_in : Step → State → List HeldStep
replies_in s Loading = []
replies_in s (Failed n m) = []
replies_in s (Serving b) = replies_to (event_of s b) b

-- the replies that the steps of a run make
unfoldable pub replies_by : List (Step × StepNote) → Sight → List HeldStep
replies_by [] w = []
replies_by (p ∷ ps) w = replies_in p.0 w.desk ++ replies_by ps (turn p.0 p.1 w).after
