-- The desk by its phase, and what each of its calls does.
use Rattle.std.specs.Prelude.{◌≡◌, ◌+◌, ℕ, ⊤, Bool, true, false, List, [], ◌∷◌, length, if◌then◌else◌, Option, None}
use Rattle.std.specs.FinMap as finmap
use Rattle.cg_request.specs.declared.event.Event.{Event}
use Rattle.cg_request.specs.declared.event.Event.TheVariants as event
use Rattle.cg_group_state.specs.declared.reply.Reply.TheVariants.{Refused}
use Rattle.cg_group_table.specs.GroupTable.{Machine}
use Rattle.cg_group.specs.Machine.{member_count}
use Rattle.cg_names.specs.declared.code.Code.TheVariants.{CoordinatorLoadInProgress, CoordinatorNotAvailable}
use Rattle.cg_store.specs.declared.batch.Batch.{Batch}
use Rattle.cg_desk.specs.Books.{Books, Served, IsInFlight, IsReason, IsTake, failing, is_short, returning, served, settling}
use Rattle.cg_desk.specs.Flights.{Idle, is_away, is_returned}
use Rattle.cg_desk.specs.Outgoings.{answer}
use Rattle.cg_desk.specs.States.{phase_state}
use Rattle.cg_desk.specs.Tokens.{call_of}
use Rattle.cg_desk.specs.declared.desk.Counts.{Counts}
use Rattle.cg_desk.specs.declared.desk.Desk.{Desk}
use Rattle.cg_desk.specs.declared.fault.SettleFault.{SettleFault}
use Rattle.cg_desk.specs.declared.fault.SettleFault.TheVariants.{NotInFlight}
use Rattle.cg_desk.specs.declared.pending_replies.HeldStep.{HeldStep}
use Rattle.cg_desk.specs.declared.outgoing.Outgoing.{Outgoing}
use Rattle.cg_desk.specs.declared.token.ReplyToken.{ReplyToken}
pub use Rattle.cg_desk.specs.States.{State, Loading, Serving, Failed}

-- the state of a desk
abbrev pub state_of : Desk → State
state_of desk = phase_state desk.phase

-- the desk has loaded, and its disk has not failed
abbrev pub is_serving : State → Bool
is_serving Loading = false
is_serving (Failed n s) = false
is_serving (Serving b) = true

-- the desk serves, and command numbers are short
abbrev pub is_short_at : State → Bool
is_short_at Loading = false
is_short_at (Failed n s) = false
is_short_at (Serving b) = is_short b

-- a desk after a call, and the replies that left in the call
pub record Answer : Type 0 where
  pub after : State
  pub out : List Outgoing

abbrev pub serving : Served → Answer
serving s = record { after = Serving s.books; out = s.out }

-- a call that changes nothing and releases no reply
abbrev pub at_rest : State → Answer
at_rest state = record { after = state; out = [] }

-- a desk that has just recovered the state that this many commands make
abbrev pub opened : ℕ → Machine → Books
opened number machine = record { machine = machine; numbered = number; settled = number; queue = []; course = Idle; held = []; replied = []; parked = [] }

-- a request, as an event with the ticket of this token: refused with 14 while loading, and with 15 after a failure or
-- if command numbers are short
unfoldable pub request_on : State → ReplyToken → Event → ℕ → Answer
request_on Loading token e now = record { after = Loading; out = answer (call_of token) (Refused CoordinatorLoadInProgress) 0 ∷ [] }
request_on (Failed n s) token e now = record { after = Failed n s; out = answer (call_of token) (Refused CoordinatorNotAvailable) 0 ∷ [] }
request_on (Serving b) token e now =
    if is_short b
    then record { after = Serving b; out = answer (call_of token) (Refused CoordinatorNotAvailable) 0 ∷ [] }
    else serving (served b (token ∷ []) e now)

-- a Tick; it does nothing if command numbers are short
unfoldable pub tick_on : State → ℕ → Answer
tick_on Loading now = at_rest Loading
tick_on (Failed n s) now = at_rest (Failed n s)
tick_on (Serving b) now = if is_short b then at_rest (Serving b) else serving (served b [] event.Tick now)

-- a session is closed
unfoldable pub gone_on : State → ℕ → ℕ → Answer
gone_on Loading session now = at_rest Loading
gone_on (Failed n s) session now = at_rest (Failed n s)
gone_on (Serving b) session now = serving (served b [] (event.Gone session) now)

-- the result of a take, and the desk after it; only a desk that serves has a batch
abbrev pub IsTakenFrom : State → Option Batch → State → Type 0
IsTakenFrom Loading o after = (o ≡ None) × (after ≡ Loading)
IsTakenFrom (Failed n s) o after = (o ≡ None) × (after ≡ Failed n s)
IsTakenFrom (Serving b) o Loading = ⊥
IsTakenFrom (Serving b) o (Failed n s) = ⊥
IsTakenFrom (Serving b) o (Serving c) = IsTake b o c

-- nothing is there to take: the desk does not serve, or no command is queued, given back or in flight
abbrev pub HasNothing : State → Type 0
HasNothing Loading = ⊤
HasNothing (Failed n s) = ⊤
HasNothing (Serving b) = (b.course ≡ Idle) × (b.queue ≡ [])

-- a batch is in flight
abbrev pub is_out : State → Bool
is_out Loading = false
is_out (Failed n s) = false
is_out (Serving b) = is_away b.course

-- a batch was given back
abbrev pub is_back : State → Bool
is_back Loading = false
is_back (Failed n s) = false
is_back (Serving b) = is_returned b.course

-- this batch is in flight
abbrev pub IsOut : State → Batch → Type 0
IsOut Loading batch = ⊥
IsOut (Failed n s) batch = ⊥
IsOut (Serving b) batch = IsInFlight b batch

-- the reason why a batch is refused
abbrev pub IsReasonAt : State → Batch → SettleFault → Type 0
IsReasonAt Loading batch fault = fault ≡ NotInFlight
IsReasonAt (Failed n s) batch fault = fault ≡ NotInFlight
IsReasonAt (Serving b) batch fault = IsReason b batch fault

-- takes back the batch in flight
abbrev pub return_to : State → State
return_to Loading = Loading
return_to (Failed n s) = Failed n s
return_to (Serving b) = Serving (returning b)

-- the batch in flight, of this many commands, is settled
unfoldable pub settle_on : State → ℕ → Answer
settle_on Loading count = at_rest Loading
settle_on (Failed n s) count = at_rest (Failed n s)
settle_on (Serving b) count = serving (settling b count)

-- the replies that leave when the disk fails: every pending request is refused with 15
unfoldable pub failing_on : State → List Outgoing
failing_on Loading = []
failing_on (Failed n s) = []
failing_on (Serving b) = failing b

-- the number of the last command
abbrev pub numbered_of : State → ℕ
numbered_of Loading = 0
numbered_of (Failed n s) = n
numbered_of (Serving b) = b.numbered

-- the number of the last settled command
abbrev pub settled_of : State → ℕ
settled_of Loading = 0
settled_of (Failed n s) = s
settled_of (Serving b) = b.settled

-- what a desk has: groups, members and offsets of its machine, pending requests, and settled commands
abbrev pub counts_of : State → Counts
counts_of Loading = record { groups = 0; members = 0; offsets = 0; pending = 0; settled = 0 }
counts_of (Failed n s) = record { groups = 0; members = 0; offsets = 0; pending = 0; settled = s }
counts_of (Serving b) = record {
  groups = length b.machine.groups;
  members = member_count b.machine.groups;
  offsets = finmap.len b.machine.offsets;
  pending = length b.replied + length b.parked;
  settled = b.settled;
}

-- the held steps, in the order in which they were made
abbrev pub held_of : State → List HeldStep
held_of Loading = []
held_of (Failed n s) = []
held_of (Serving b) = b.held
