-- Tickets counted with repeats, in no order. A bag is known by the sum of each weight over its tickets.
use Rattle.std.specs.Prelude.{◌≡◌, ◌+◌, ℕ, List}
use Rattle.std.specs.List.{sum_by}
use Rattle.cg_request.specs.declared.ticket.Ticket.{Ticket}
use Rattle.cg_desk.specs.Outgoings.{ticket_of}
use Rattle.cg_desk.specs.Tokens.{call_of}
use Rattle.cg_desk.specs.declared.outgoing.Outgoing.{Outgoing}
use Rattle.cg_desk.specs.declared.token.ReplyToken.{ReplyToken}

abbrev pub Bag : Type 0
Bag = (Ticket → ℕ) → ℕ

-- the tickets of a list
abbrev pub bag_of : List Ticket → Bag
bag_of tickets weight = sum_by weight tickets

-- the tickets of tokens
abbrev pub bag_of_tokens : List ReplyToken → Bag
bag_of_tokens tokens weight = sum_by (λ (token : ReplyToken). weight (call_of token)) tokens

-- the tickets of replies that leave
abbrev pub bag_of_replies : List Outgoing → Bag
bag_of_replies out weight = sum_by (λ (outgoing : Outgoing). weight (ticket_of outgoing)) out

-- the tickets of both
abbrev pub together : Bag → Bag → Bag
together these those weight = these weight + those weight

-- these are the same tickets, counted with repeats: no weight tells them apart
abbrev pub AreSameTickets : Bag → Bag → Type 0
AreSameTickets these those = (weight : Ticket → ℕ) → these weight ≡ those weight
