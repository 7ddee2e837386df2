-- The sums of a weight over tokens and over replies.
use Rattle.std.specs.Prelude.{ℕ, List}
use Rattle.std.specs.List.{sum_by}
use Rattle.cg_request.specs.declared.ticket.Ticket.{Ticket}
use Rattle.cg_desk.specs.Outgoings.{ticket_of}
use Rattle.cg_desk.specs.Tokens.{call_of}
use Rattle.cg_desk.specs.declared.outgoing.Outgoing.{Outgoing}
use Rattle.cg_desk.specs.declared.token.ReplyToken.{ReplyToken}

abbrev pub weight_of : (Ticket → ℕ) → List ReplyToken → ℕ
weight_of weight tokens = sum_by (λ (token : ReplyToken). weight (call_of token)) tokens

abbrev pub weight_out : (Ticket → ℕ) → List Outgoing → ℕ
weight_out weight out = sum_by (λ (outgoing : Outgoing). weight (ticket_of outgoing)) out
