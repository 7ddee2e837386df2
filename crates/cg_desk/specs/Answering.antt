-- Replies that leave: each takes the token of its request with it.
use Rattle.std.specs.Prelude.{List, [], ◌∷◌, ◌++◌, if◌then◌else◌}
use Rattle.cg_group_state.specs.declared.reply.Reply.TheVariants.{Refused}
use Rattle.cg_request.specs.declared.ticket.Ticket.{Ticket}
use Rattle.cg_names.specs.declared.code.Code.TheVariants.{CoordinatorNotAvailable}
use Rattle.cg_desk.specs.Outgoings.{answer, ticket_of}
use Rattle.cg_desk.specs.Tokens.{call_of, has_token, without}
use Rattle.cg_desk.specs.declared.outgoing.Outgoing.{Outgoing}
use Rattle.cg_desk.specs.declared.token.ReplyToken.{ReplyToken}

-- a reply leaves if its request has a token
abbrev pub answering_one : Outgoing → List ReplyToken → List Outgoing
answering_one r tokens = if has_token (ticket_of r) tokens then r ∷ [] else []

-- the replies leave in their order, each if its request still has a token
unfoldable pub answering : List Outgoing → List ReplyToken → List Outgoing
answering [] tokens = []
answering (r ∷ rs) tokens = answering_one r tokens ++ answering rs (without (ticket_of r) tokens)

-- the tokens that remain after these replies
unfoldable pub after_answering : List Outgoing → List ReplyToken → List ReplyToken
after_answering [] tokens = tokens
after_answering (r ∷ rs) tokens = after_answering rs (without (ticket_of r) tokens)

-- a refusal with 15, which made no command
abbrev pub refusal : Ticket → Outgoing
refusal ticket = answer ticket (Refused CoordinatorNotAvailable) 0

-- a token whose request is refused with 15
abbrev pub refused : ReplyToken → Outgoing
refused token = refusal (call_of token)
