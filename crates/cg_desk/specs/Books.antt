-- What contracts see of a desk that serves, and what each call does.
use Rattle.std.specs.Prelude.{◌≡◌, ◌+◌, ◌-◌, ◌*◌, ℕ, Bool, List, [], ◌++◌, length, map, take, drop, nat_lt, true, false, Option, Some, None}
use Rattle.cg_group_state.specs.declared.effects.Effects.{Effects}
use Rattle.cg_request.specs.declared.event.Event.{Event}
use Rattle.cg_request.specs.declared.ticket.Ticket.{Ticket}
use Rattle.cg_group.specs.Machine.{step}
use Rattle.cg_group_table.specs.GroupTable.{Machine, Outcome}
use Rattle.cg_group_state.specs.Waiting.{waiting_calls}
use Rattle.cg_record.specs.declared.command.Command.{Command}
use Rattle.cg_store.specs.declared.batch.Batch.{Batch}
use Rattle.cg_log.specs.declared.numbers.TheConstants.{COMMAND_NUMBER_MAX}
use Rattle.cg_desk.specs.Answering.{after_answering, answering, refusal}
use Rattle.cg_desk.specs.Fronts.{in_frame}
use Rattle.cg_desk.specs.Held.{calls_of, holding, released, replies_of, still_held}
use Rattle.cg_desk.specs.Origins.{origin_of, own_of}
use Rattle.cg_desk.specs.Flights.{Course, Idle, Away, Returned, is_away, unsettled}
use Rattle.cg_desk.specs.Tokens.{tokens_for, without_all}
use Rattle.cg_desk.specs.declared.number_reserve.TheConstants.{SPARE_NUMBERS, SPARE_NUMBERS_PER_GROUP}
use Rattle.cg_desk.specs.declared.fault.SettleFault.{SettleFault}
use Rattle.cg_desk.specs.declared.fault.SettleFault.TheVariants.{Memory, NotInFlight, Foreign}
use Rattle.cg_desk.specs.declared.pending_replies.HeldStep.{HeldStep}
use Rattle.cg_desk.specs.declared.outgoing.Outgoing.{Outgoing}
use Rattle.cg_desk.specs.declared.token.ReplyToken.{ReplyToken}

-- the machine; the numbers of the last command and of the last settled command; the commands that were never taken; the
-- state of the last batch; the held replies; the tokens of their requests, and those of the parked requests
pub record Books : Type 0 where
  pub machine : Machine
  pub numbered : ℕ
  pub settled : ℕ
  pub queue : List Command
  pub course : Course
  pub held : List HeldStep
  pub replied : List ReplyToken
  pub parked : List ReplyToken

-- a desk after a call, and the replies that left in the call
pub record Served : Type 0 where
  pub books : Books
  pub out : List Outgoing

-- fewer command numbers are left than are kept in reserve
abbrev pub is_short : Books → Bool
is_short b = nat_lt (COMMAND_NUMBER_MAX - b.numbered) (SPARE_NUMBERS + SPARE_NUMBERS_PER_GROUP * length b.machine.groups)

-- numbers the commands of a step of this request, if it is one, then holds its replies, with the number of the last
-- command as their need
abbrev pub numbering : Books → Option Ticket → Effects → Books
numbering b own effects = record b {
  numbered = b.numbered + length effects.commands;
  queue = b.queue ++ effects.commands;
  held = b.held ++ holding (origin_of b.numbered own effects) effects.replies;
}

-- the tokens of the requests that these replies answer go to those of the held replies; the others stay parked
abbrev pub moving : Books → List Ticket → List ReplyToken → Books
moving b calls tokens = record b { replied = b.replied ++ tokens_for calls tokens; parked = without_all calls tokens }

-- a step of the machine, and the token of the request that it comes from, if there is one
abbrev pub stepped : Books → Outcome → List ReplyToken → Books
stepped b o handed = numbering (moving (record b { machine = o.after }) (calls_of o.effects.replies) (handed ++ b.parked)) (own_of handed) o.effects

-- releases the replies whose commands are settled, each with the token of its request
unfoldable pub letting_go : Books → Served
letting_go b = record {
  books = record b {
    held = still_held b.settled b.held;
    replied = after_answering (released b.settled b.held) b.replied;
  };
  out = answering (released b.settled b.held) b.replied;
}

-- a step of the machine, after which the replies whose commands are settled leave
unfoldable pub served : Books → List ReplyToken → Event → ℕ → Served
served b handed event now = letting_go (stepped b (step b.machine event now) handed)

-- the batch in flight, of this many commands, is settled
unfoldable pub settling : Books → ℕ → Served
settling b count = letting_go (record b { settled = b.settled + count; course = Idle })

-- refuses with 15 the requests with a held reply, in the order of the replies, then the parked ones, by group and
-- joining order
unfoldable pub failing : Books → List Outgoing
failing b = map refusal (calls_of (replies_of b.held) ++ waiting_calls b.machine.groups)

-- the commands of the next batch, if any: those that were given back, or the longest prefix of the queue that fits one
-- frame
abbrev pub next_batch : Course → List Command → List Command
next_batch Idle queue = take (in_frame queue) queue
next_batch (Away commands) queue = []
next_batch (Returned commands) queue = commands

-- the queue without the commands of the next batch
abbrev pub queue_after : Course → List Command → List Command
queue_after Idle queue = drop (in_frame queue) queue
queue_after (Away commands) queue = queue
queue_after (Returned commands) queue = queue

-- takes the next batch
unfoldable pub taking : Books → Books
taking b = record b { course = Away (next_batch b.course b.queue); queue = queue_after b.course b.queue }

-- the result of a take, and the desk after it: no batch exactly if no command is queued, since each command fits a
-- frame
abbrev pub IsTake : Books → Option Batch → Books → Type 0
IsTake b None c = (b.course ≡ Idle) × (b.queue ≡ []) × (c ≡ b)
IsTake b (Some batch) c = (batch.first ≡ b.settled + 1) × (batch.commands ≡ next_batch b.course b.queue) × (c ≡ taking b)

-- takes back the batch in flight
abbrev pub returning : Books → Books
returning b = record b { course = Returned (unsettled b.course) }

-- the batch is the one in flight: the same commands, under the same numbers
abbrev pub IsFlying : Course → ℕ → Batch → Type 0
IsFlying course settled batch = (course ≡ Away batch.commands) × (batch.first ≡ settled + 1)

abbrev pub IsInFlight : Books → Batch → Type 0
IsInFlight b batch = IsFlying b.course b.settled batch

-- the fault is the reason why a batch is refused; out of memory is reported only for the batch in flight
abbrev pub IsWhy : Course → ℕ → Batch → SettleFault → Type 0
IsWhy course settled batch Memory = IsFlying course settled batch
IsWhy course settled batch NotInFlight = is_away course ≡ false
IsWhy course settled batch Foreign = (is_away course ≡ true) × (¬ IsFlying course settled batch)

abbrev pub IsReason : Books → Batch → SettleFault → Type 0
IsReason b batch fault = IsWhy b.course b.settled batch fault
