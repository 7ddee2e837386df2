-- The replies of a run, and when they leave.
use Rattle.std.specs.Prelude.{◌≡◌, ◌+◌, ℕ, Bool, true, ◌++◌, List, [], ◌∷◌, length, Option, None, Some}
use Rattle.cg_fold.specs.Durable.{State as Durable}
use Rattle.cg_request.specs.declared.event.Event.{Event}
use Rattle.cg_request.specs.declared.event.Event.TheVariants as event
use Rattle.cg_request.specs.declared.ticket.Ticket.{Ticket}
use Rattle.cg_group.specs.Laws.{after_all, commands_of}
use Rattle.cg_group.specs.Machine.{step}
use Rattle.cg_group_table.specs.GroupTable.{Machine, Outcome}
use Rattle.cg_group_table.specs.Recovery.{revive}
use Rattle.cg_store.specs.Carried.{AreMade}
use Rattle.cg_desk.specs.Books.{Books}
use Rattle.cg_desk.specs.Desks.{State, Loading, Serving, Failed, held_of, opened, settled_of}
use Rattle.cg_desk.specs.Held.{holding, leaving_of}
use Rattle.cg_desk.specs.Origins.{origin_of}
use Rattle.cg_desk.specs.declared.pending_replies.HeldStep.{HeldStep}
use Rattle.cg_desk.specs.declared.outgoing.Outgoing.{Outgoing}
use Rattle.cg_world.specs.Agreeing.{is_serving}
pub use Rattle.cg_world.specs.Orderly.{due, AreInOrder, IsOrderlyDesk, IsOrderlyAt}
use Rattle.cg_world.specs.Runs.{AreNotes, after_run, events_of, made_by}
use Rattle.cg_world.specs.Sights.{Sight}
use Rattle.cg_world.specs.Turns.{turn}
use Rattle.cg_world.specs.declared.step.Step.{Step}
use Rattle.cg_world.specs.declared.step.StepNote.{StepNote}

-- the ticket of the request that an event takes, if it takes one
abbrev pub asker : Event → Option Ticket
asker (event.Join ticket r fresh) = Some ticket
asker (event.Sync ticket r) = Some ticket
asker (event.Beat ticket r) = Some ticket
asker (event.Leave ticket r) = Some ticket
asker (event.Commit ticket r) = Some ticket
asker (event.Fetch ticket r) = Some ticket
asker (event.Delete ticket id) = Some ticket
asker (event.Drop ticket r) = Some ticket
asker (event.Describe ticket id) = Some ticket
asker (event.List ticket) = Some ticket
asker (event.Gone session) = None
asker event.Tick = None

-- the replies of these events, each with its need: the number of the last command made up to the end of its event; and with
-- the commands of its event, which the reply to the event's own request counts; commands are counted on from `numbered`
unfoldable pub replies_made : ℕ → List (Event × ℕ) → Machine → List HeldStep
replies_made numbered [] s = []
replies_made numbered (e ∷ es) s =
    let o : Outcome = step s e.0 e.1 in
    holding (origin_of numbered (asker e.0) o.effects) o.effects.replies ++ replies_made (numbered + length o.effects.commands) es o.after

-- the replies of events that reach a desk
abbrev pub replies_at : List (Event × ℕ) → State → List HeldStep
replies_at events Loading = []
replies_at events (Failed n m) = []
replies_at events (Serving b) = replies_made b.numbered events b.machine

-- what leaves in a run, except what the desk refuses at once
unfoldable pub left_by : List (Step × StepNote) → Sight → List Outgoing
left_by [] w = []
left_by (p ∷ ps) w = (turn p.0 p.1 w).left ++ left_by ps (turn p.0 p.1 w).after

-- the desk of this world is orderly
abbrev pub IsOrderly : Sight → Type 0
IsOrderly w = IsOrderlyAt w.desk

-- the release law: up to a failure of the disk, what has left in a run are the replies, held at its beginning or made by
-- its events, whose need is settled at its end, in the order in which they were made
abbrev pub LeavesWhenSettled : List (Step × StepNote) → Sight → Type 0
LeavesWhenSettled ps w =
    is_serving (after_run ps w).desk ≡ true
    → left_by ps w ≡ leaving_of (due (settled_of (after_run ps w).desk) (held_of w.desk ++ replies_at (events_of ps w) w.desk))

-- The release law holds of every run after an opening, whatever its disk. Each prefix of a run is a run, so each reply
-- leaves in the first step after which its need is settled.
pub record RepliesLeaveWhenSettled : Type 0 where
  pub opened : (n : ℕ) (state : Durable) (now : ℕ) → AreMade state → IsOrderlyAt (Serving (opened n (revive state now)))
  pub stays : (ps : List (Step × StepNote)) (w : Sight) → IsOrderly w → AreNotes ps w → IsOrderly (after_run ps w)
  pub leave : (ps : List (Step × StepNote)) (w : Sight) → IsOrderly w → AreNotes ps w → LeavesWhenSettled ps w

-- The commands of a run are those that its events make in the machine; and as long as the desk serves, its machine is the
-- one that these events make, and its number of commands has risen by theirs.
pub record RunsMakeHistories : Type 0 where
  pub commands : (ps : List (Step × StepNote)) (b : Books) (stored : Bool) →
      let w : Sight = record { desk = Serving b; appended = stored } in made_by ps w ≡ commands_of (events_of ps w) b.machine
  pub machine : (ps : List (Step × StepNote)) (b c : Books) (stored : Bool) →
      let w : Sight = record { desk = Serving b; appended = stored } in
      (after_run ps w).desk ≡ Serving c → c.machine ≡ after_all (events_of ps w) b.machine
  pub numbered : (ps : List (Step × StepNote)) (b c : Books) (stored : Bool) →
      let w : Sight = record { desk = Serving b; appended = stored } in
      (after_run ps w).desk ≡ Serving c → c.numbered ≡ b.numbered + length (commands_of (events_of ps w) b.machine)
