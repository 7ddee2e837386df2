-- The tickets of tokens, and looking for a token by its ticket.
use Rattle.std.specs.Prelude.{ℕ, Bool, ◌&&◌, nat_eq, List, [], ◌∷◌, ◌++◌, Option, Some, None, is_some, if◌then◌else◌}
use Rattle.std.specs.List.{position, remove}
use Rattle.cg_request.specs.declared.ticket.Ticket.{Ticket}
use Rattle.cg_desk.specs.declared.token.ReplyToken.{ReplyToken}

-- the ticket of the pending request; in the names of this crate a call is a request of a client
abbrev pub call_of : ReplyToken → Ticket
call_of token = token.ticket

-- the second ticket is this ticket
abbrev pub is_ticket : Ticket → Ticket → Bool
is_ticket ticket other = nat_eq other.session ticket.session && nat_eq other.number ticket.number

-- the token has this ticket
abbrev pub is_for : Ticket → ReplyToken → Bool
is_for ticket token = is_ticket ticket (call_of token)

-- one of the tokens has this ticket
unfoldable pub has_token : Ticket → List ReplyToken → Bool
has_token ticket tokens = is_some (position (is_for ticket) tokens)

-- the tokens without the one at this position, if one is given
abbrev pub without_place : Option ℕ → List ReplyToken → List ReplyToken
without_place None tokens = tokens
without_place (Some at) tokens = remove tokens at

-- the tokens without the first one that has this ticket
unfoldable pub without : Ticket → List ReplyToken → List ReplyToken
without ticket tokens = without_place (position (is_for ticket) tokens) tokens

-- the token with this ticket
abbrev pub token_of : Ticket → ReplyToken
token_of ticket = record { ticket = ticket }

-- the same, if it is one of these
abbrev pub token_for : Ticket → List ReplyToken → List ReplyToken
token_for ticket tokens = if has_token ticket tokens then token_of ticket ∷ [] else []

-- the tokens of the requests with these tickets, in the order of the tickets
unfoldable pub tokens_for : List Ticket → List ReplyToken → List ReplyToken
tokens_for [] tokens = []
tokens_for (t ∷ ts) tokens = token_for t tokens ++ tokens_for ts (without t tokens)

-- the tokens of the others
unfoldable pub without_all : List Ticket → List ReplyToken → List ReplyToken
without_all [] tokens = tokens
without_all (t ∷ ts) tokens = without_all ts (without t tokens)
