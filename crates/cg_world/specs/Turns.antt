-- What each step does to a world.
use Rattle.std.specs.Prelude.{◌≡◌, ℕ, Bool, true, false, ◌++◌, List, [], length, Option, Some, None, is_some, if◌then◌else◌}
use Rattle.cg_request.specs.declared.event.Event.{Event}
use Rattle.cg_request.specs.declared.event.Event.TheVariants as event
use Rattle.cg_request.specs.Request.{asked}
use Rattle.cg_record.specs.declared.command.Command.{Command}
use Rattle.cg_desk.specs.Books.{Books, is_short, taking}
use Rattle.cg_desk.specs.Desks.{Answer, State, Loading, Serving, Failed, failing_on, gone_on, is_out, numbered_of, request_on, return_to, settle_on, settled_of, tick_on}
use Rattle.cg_desk.specs.Flights.{Idle, unsettled}
use Rattle.cg_desk.specs.declared.outgoing.Outgoing.{Outgoing}
use Rattle.cg_world.specs.Agreeing.{is_serving}
use Rattle.cg_world.specs.Sights.{Sight}
use Rattle.cg_world.specs.declared.step.Step.{Step}
use Rattle.cg_world.specs.declared.step.Step.TheVariants.{Request, Gone, Tick, Take, Append, Settle, CompactStart, CompactRead, CompactWrite, CompactSwitch}
use Rattle.cg_world.specs.declared.step.StepNote.{StepNote}
use Rattle.cg_world.specs.declared.step.StepNote.TheVariants.{Done, Nothing, InFlight, Full, Device}
use Rattle.cg_world.specs.declared.step.StepNote.TheVariants as step_note

-- Events: the steps that reach the machine.

-- the event that a step brings to a desk that serves; a Request or a Tick brings no event if command numbers are short
abbrev pub event_of : Step → Books → Option (Event × ℕ)
event_of (Request ticket r now fresh) b = if is_short b then None else Some (asked r ticket fresh, now)
event_of (Gone session now) b = Some (event.Gone session, now)
event_of (Tick now) b = if is_short b then None else Some (event.Tick, now)
event_of step b = None

-- no event reaches a desk that does not serve
abbrev pub event_at : Step → State → Option (Event × ℕ)
event_at step Loading = None
event_at step (Failed n s) = None
event_at step (Serving b) = event_of step b

-- The batch in flight.

-- the commands of the batch in flight
abbrev pub in_flight : State → List Command
in_flight Loading = []
in_flight (Failed n s) = []
in_flight (Serving b) = unsettled b.course

-- the batch in flight was taken and is not appended yet
abbrev pub is_taken : Sight → Bool
is_taken w = if w.appended then false else is_out w.desk

-- takes the next batch
abbrev pub take_from : State → State
take_from Loading = Loading
take_from (Failed n s) = Failed n s
take_from (Serving b) = Serving (taking b)

-- Effects of a step.

-- the world after a step; the refusals that the desk gives at once; and the replies whose commands are settled
pub record Turn : Type 0 where
  pub after : Sight
  pub at_once : List Outgoing
  pub left : List Outgoing

-- nothing leaves
abbrev pub quiet : Sight → Turn
quiet w = record { after = w; at_once = []; left = [] }

-- the desk handled an event, or refused a request that was no event
abbrev pub answered : Bool → Sight → Answer → Turn
answered true w a = record { after = record w { desk = a.after }; at_once = []; left = a.out }
answered false w a = record { after = record w { desk = a.after }; at_once = a.out; left = [] }

-- takes a batch
abbrev pub taken : StepNote → Sight → Turn
taken Done w = quiet (record w { desk = take_from w.desk })
taken note w = quiet w

-- the disk failed: the desk refuses what is pending, and the batch or its receipt is dropped
abbrev pub broken : Sight → Turn
broken w = record { after = record { desk = Failed (numbered_of w.desk) (settled_of w.desk); appended = false }; at_once = failing_on w.desk; left = [] }

-- appends the batch; or gives it back; or the disk fails
abbrev pub appended : StepNote → Sight → Turn
appended Done w = quiet (record w { appended = true })
appended Full w = quiet (record w { desk = return_to w.desk })
appended Device w = broken w
appended note w = quiet w

-- settles the batch
abbrev pub settled : StepNote → Sight → Turn
settled Done w = answered true (record w { appended = false }) (settle_on w.desk (length (in_flight w.desk)))
settled note w = quiet w

-- a step of a compaction changes nothing here, unless the disk fails
abbrev pub compacted : StepNote → Sight → Turn
compacted Device w = broken w
compacted note w = quiet w

-- what a step does, given its note
unfoldable pub turn : Step → StepNote → Sight → Turn
turn (Request ticket r now fresh) note w = answered (is_some (event_at (Request ticket r now fresh) w.desk)) w (request_on w.desk (record { ticket = ticket }) (asked r ticket fresh) now)
turn (Gone session now) note w = answered true w (gone_on w.desk session now)
turn (Tick now) note w = answered true w (tick_on w.desk now)
turn Take note w = taken note w
turn Append note w = appended note w
turn Settle note w = settled note w
turn CompactStart note w = compacted note w
turn CompactRead note w = compacted note w
turn CompactWrite note w = compacted note w
turn CompactSwitch note w = compacted note w

-- all that leaves in a step
abbrev pub out_of : Turn → List Outgoing
out_of t = t.at_once ++ t.left

-- Notes of a step.

-- no command waits for a batch
abbrev pub IsIdle : State → Type 0
IsIdle Loading = Unit {0}
IsIdle (Failed n s) = Unit {0}
IsIdle (Serving b) = (b.course ≡ Idle) × (b.queue ≡ [])

abbrev pub IsTakeNote : Sight → StepNote → Type 0
IsTakeNote w Done = (is_out w.desk ≡ false) × (¬ IsIdle w.desk)
IsTakeNote w Nothing = IsIdle w.desk
IsTakeNote w InFlight = is_out w.desk ≡ true
IsTakeNote w note = ⊥

-- whether a batch is appended depends on the store too
abbrev pub IsAppendNote : Sight → StepNote → Type 0
IsAppendNote w Done = is_taken w ≡ true
IsAppendNote w Nothing = is_taken w ≡ false
IsAppendNote w Full = is_taken w ≡ true
IsAppendNote w Device = is_taken w ≡ true
IsAppendNote w note = ⊥

abbrev pub IsSettleNote : Sight → StepNote → Type 0
IsSettleNote w Done = w.appended ≡ true
IsSettleNote w Nothing = w.appended ≡ false
IsSettleNote w note = ⊥

-- a step of a compaction is refused Failed exactly where the desk has failed
abbrev pub IsCompactNote : Sight → StepNote → Type 0
IsCompactNote w Nothing = ⊥
IsCompactNote w InFlight = ⊥
IsCompactNote w Full = ⊥
IsCompactNote w step_note.Failed = is_serving w.desk ≡ false
IsCompactNote w note = is_serving w.desk ≡ true

-- when a step has this note, so far as the desk and the batch in flight decide it; `IsStoreTurn` has the store's part
unfoldable pub IsNoteOf : Step → Sight → StepNote → Type 0
IsNoteOf (Request ticket r now fresh) w note = note ≡ Done
IsNoteOf (Gone session now) w note = note ≡ Done
IsNoteOf (Tick now) w note = note ≡ Done
IsNoteOf Take w note = IsTakeNote w note
IsNoteOf Append w note = IsAppendNote w note
IsNoteOf Settle w note = IsSettleNote w note
IsNoteOf CompactStart w note = IsCompactNote w note
IsNoteOf CompactRead w note = IsCompactNote w note
IsNoteOf CompactWrite w note = IsCompactNote w note
IsNoteOf CompactSwitch w note = IsCompactNote w note
