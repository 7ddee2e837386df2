-- Each pending request has one token: its reply is held, or it is parked in the machine.
use Rattle.std.specs.Prelude.{ℕ, List}
use Rattle.std.specs.List.{sum_by}
use Rattle.cg_request.specs.declared.event.Event.{Event}
use Rattle.cg_request.specs.declared.ticket.Ticket.{Ticket}
use Rattle.cg_group.specs.Machine.{step}
use Rattle.cg_group_table.specs.GroupTable.{Machine}
use Rattle.cg_group_state.specs.Waiting.{waiting_calls}
use Rattle.cg_desk.specs.Books.{Books}
use Rattle.cg_desk.specs.Held.{calls_of, replies_of}
use Rattle.cg_desk.specs.Bags.{AreSameTickets, bag_of, bag_of_tokens, together}
use Rattle.cg_desk.specs.declared.token.ReplyToken.{ReplyToken}

-- the sum of the weights of tickets
abbrev pub weight_calls : (Ticket → ℕ) → List Ticket → ℕ
weight_calls weight calls = sum_by weight calls

-- each held reply has its token, and each parked request has its own
abbrev pub IsOwed : Books → Type 0
IsOwed b = AreSameTickets (bag_of_tokens b.replied) (bag_of (calls_of (replies_of b.held))) × AreSameTickets (bag_of_tokens b.parked) (bag_of (waiting_calls b.machine.groups))

-- the requests that were parked before an event and the one that it comes from are those that it answers and those that
-- are parked after it
abbrev pub KeepsCalls : Machine → List ReplyToken → Event → ℕ → Type 0
KeepsCalls s handed e now =
    AreSameTickets (together (bag_of (calls_of (step s e now).effects.replies)) (bag_of (waiting_calls (step s e now).after.groups))) (together (bag_of (waiting_calls s.groups)) (bag_of_tokens handed))
