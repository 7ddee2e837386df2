-- The laws of the desk.
use Rattle.std.specs.Prelude.{◌≡◌, ◌≤◌, ◌<◌, ◌+◌, ℕ, false, List, [], ◌∷◌, ◌++◌, length, map, take, Option}
use Rattle.std.specs.List.{sum_by}
use Rattle.cg_fold.specs.Durable.{State as Durable}
use Rattle.cg_frame.specs.declared.segment.TheConstants.{LARGEST_PAYLOAD_BYTES}
use Rattle.cg_request.specs.declared.request.Request.{Request}
use Rattle.cg_request.specs.declared.event.Event.{Event}
use Rattle.cg_request.specs.declared.event.Event.TheVariants.{Gone, Tick}
use Rattle.cg_request.specs.declared.ticket.Ticket.{Ticket}
use Rattle.cg_request.specs.Request.{asked}
use Rattle.cg_group_state.specs.Members.{AreDistinct}
use Rattle.cg_group_table.specs.Kept.{AreRecords, Each}
use Rattle.cg_group_table.specs.Recovery.{revive}
use Rattle.cg_group.specs.Machine.{step}
use Rattle.cg_record.specs.declared.command.Command.{Command}
use Rattle.cg_record.specs.Spelling.{spelling}
use Rattle.cg_store.specs.Carried.{AreMade}
use Rattle.cg_store.specs.declared.batch.Batch.{Batch}
use Rattle.cg_desk.specs.Answering.{refusal}
use Rattle.cg_desk.specs.Bags.{AreSameTickets, bag_of, bag_of_replies, bag_of_tokens, together}
use Rattle.cg_desk.specs.Balanced.{IsBalanced, IsBalancedAt}
use Rattle.cg_desk.specs.Books.{Books, failing, served, settling, stepped}
use Rattle.cg_desk.specs.Desks.{State, Loading, Serving, Failed, IsTakenFrom, gone_on, numbered_of, opened, request_on, return_to, settle_on, settled_of, tick_on}
use Rattle.cg_desk.specs.Fronts.{in_frame}
use Rattle.cg_desk.specs.Held.{released}
use Rattle.cg_desk.specs.Origins.{origin_of, own_of, sent}
use Rattle.cg_desk.specs.Outgoings.{made_of}
use Rattle.cg_desk.specs.Tokens.{call_of, has_token}
use Rattle.cg_desk.specs.declared.outgoing.Outgoing.{Outgoing}
use Rattle.cg_desk.specs.declared.token.ReplyToken.{ReplyToken}

-- Each request gets at most one reply, and is pending until then.

-- the tokens of pending requests
abbrev pub tokens_of : State → List ReplyToken
tokens_of Loading = []
tokens_of (Failed numbered settled) = []
tokens_of (Serving b) = b.replied ++ b.parked

-- the tickets that were pending before a call and the one that it took are those of the replies that left in it and
-- those that are pending after it
abbrev pub AreKept : List ReplyToken → List ReplyToken → List Outgoing → List ReplyToken → Type 0
AreKept before taken out after =
    AreSameTickets (together (bag_of_replies out) (bag_of_tokens after)) (together (bag_of_tokens before) (bag_of_tokens taken))

-- every one of the requests is refused with 15, once
pub record AreRefusedOnce (tokens : List ReplyToken) (out : List Outgoing) : Type 0 where
  pub calls : List Ticket
  pub refused : out ≡ map refusal calls
  pub once : AreSameTickets (bag_of calls) (bag_of_tokens tokens)

-- every call of a desk keeps its tickets; no reply leaves where a batch is taken or given back, and none is pending after
-- a failure or a closing
pub record TicketsAreKept : Type 0 where
  pub request : (s : State) (token : ReplyToken) (e : Event) (now : ℕ) → AreKept (tokens_of s) (token ∷ []) (request_on s token e now).out (tokens_of (request_on s token e now).after)
  pub tick : (s : State) (now : ℕ) → AreKept (tokens_of s) [] (tick_on s now).out (tokens_of (tick_on s now).after)
  pub gone : (s : State) (session now : ℕ) → AreKept (tokens_of s) [] (gone_on s session now).out (tokens_of (gone_on s session now).after)
  pub take : (s after : State) (o : Option Batch) → IsTakenFrom s o after → AreKept (tokens_of s) [] [] (tokens_of after)
  pub give_back : (s : State) → AreKept (tokens_of s) [] [] (tokens_of (return_to s))
  pub settle : (s : State) (count : ℕ) → AreKept (tokens_of s) [] (settle_on s count).out (tokens_of (settle_on s count).after)
  pub fail : (s : State) (out : List Outgoing) → AreRefusedOnce (tokens_of s) out → AreKept (tokens_of s) [] out (tokens_of (Failed (numbered_of s) (settled_of s)))
  pub close : (s : State) (out : List Outgoing) → AreRefusedOnce (tokens_of s) out → AreKept (tokens_of s) [] out []

-- A batch is as long as one frame allows.

-- this many commands are the longest prefix whose encoding fits one frame
pub record IsLongestFront (count : ℕ) (commands : List Command) : Type 0 where
  pub within : count ≤ length commands
  pub fits : 1 ≤ count → length (spelling (take count commands)) ≤ LARGEST_PAYLOAD_BYTES
  pub longest : (more : ℕ) → count < more → more ≤ length commands → LARGEST_PAYLOAD_BYTES < length (spelling (take more commands))

abbrev pub BatchesAreLongest : Type 0
BatchesAreLongest = (commands : List Command) → IsLongestFront (in_frame commands) commands

-- Every desk is balanced throughout its life.

-- lawful commands make lawful records, which a desk requires of the state that it loads
abbrev pub CommandsMakeRecords : Type 0
CommandsMakeRecords = (state : Durable) → AreMade state → AreRecords state

-- a desk that has just recovered is balanced, and each of its functions keeps it balanced
pub record DesksStayBalanced : Type 0 where
  pub loaded : (number : ℕ) (durable : Durable) (now : ℕ) → AreRecords durable → IsBalancedAt (Serving (opened number (revive durable now)))
  pub request : (s : State) (r : Request) (token : ReplyToken) (fresh : List ℕ) (now : ℕ) → IsBalancedAt s → IsBalancedAt (request_on s token (asked r (call_of token) fresh) now).after
  pub tick : (s : State) (now : ℕ) → IsBalancedAt s → IsBalancedAt (tick_on s now).after
  pub gone : (s : State) (session now : ℕ) → IsBalancedAt s → IsBalancedAt (gone_on s session now).after
  pub take : (s after : State) (o : Option Batch) → IsTakenFrom s o after → IsBalancedAt s → IsBalancedAt after
  pub give_back : (s : State) → IsBalancedAt s → IsBalancedAt (return_to s)
  pub settle : (s : State) (count : ℕ) → IsBalancedAt s → IsBalancedAt (settle_on s count).after

-- the replies that a step makes, as they leave
abbrev pub made_in : Books → List ReplyToken → Event → ℕ → List Outgoing
made_in b handed e now = map (sent (origin_of b.numbered (own_of handed) (step b.machine e now).effects)) (step b.machine e now).effects.replies

-- the numbers of the replies that a request makes are together at most the commands that it makes, if no pending request
-- has its ticket; the replies that a Tick or a closed session makes have no number but 0
pub record CommandsAreCountedOnce : Type 0 where
  pub request : (b : Books) (r : Request) (token : ReplyToken) (fresh : List ℕ) (now : ℕ) → IsBalanced b → has_token (call_of token) (tokens_of (Serving b)) ≡ false
      → sum_by made_of (made_in b (token ∷ []) (asked r (call_of token) fresh) now) ≤ length (step b.machine (asked r (call_of token) fresh) now).effects.commands
  pub tick : (b : Books) (now : ℕ) → sum_by made_of (made_in b [] Tick now) ≡ 0
  pub gone : (b : Books) (session now : ℕ) → sum_by made_of (made_in b [] (Gone session) now) ≡ 0

-- in each group that a balanced desk serves, no two members have one id or one instance
abbrev pub DesksHaveDistinctMembers : Type 0
DesksHaveDistinctMembers = (b : Books) → IsBalanced b → Each (λ g. AreDistinct g.members) b.machine.groups

-- every held reply whose need is settled leaves after a step, with the ticket of its request
abbrev pub AllLeave : Books → List ReplyToken → Event → ℕ → Type 0
AllLeave b handed e now = (served b handed e now).out ≡ released b.settled (stepped b (step b.machine e now) handed).held

-- each reply whose commands are settled finds its request; and the requests that a failure refuses are the pending ones,
-- each once
pub record RepliesFindTheirCalls : Type 0 where
  pub request : (b : Books) (r : Request) (token : ReplyToken) (fresh : List ℕ) (now : ℕ) → IsBalanced b → AllLeave b (token ∷ []) (asked r (call_of token) fresh) now
  pub tick : (b : Books) (now : ℕ) → IsBalanced b → AllLeave b [] Tick now
  pub gone : (b : Books) (session now : ℕ) → IsBalanced b → AllLeave b [] (Gone session) now
  pub settle : (b : Books) (count : ℕ) → IsBalanced b → (settling b count).out ≡ released (b.settled + count) b.held
  pub fail : (b : Books) → IsBalanced b → AreRefusedOnce (tokens_of (Serving b)) (failing b)
