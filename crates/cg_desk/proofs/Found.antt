-- The token that a search for a ticket finds.
use Rattle.std.proofs.Common.{◌≡◌, ℕ, true, List, get_or, Some, ap, ◌∙◌, eqb}
use Rattle.std.specs.List.{position}
use Rattle.std.proofs.lemmas.Bool.{eqb-true, and_parts}
use Rattle.std.proofs.lemmas.List.Quantifiers.{position-Some}
use Rattle.cg_request.specs.declared.ticket.Ticket.{Ticket}
use Rattle.cg_desk.specs.Tokens.{call_of, is_for}
use Rattle.cg_desk.specs.declared.token.ReplyToken.{ReplyToken}

pub for_ticket : (ticket : Ticket) (token : ReplyToken) → is_for ticket token ≡ true → call_of token ≡ ticket
for_ticket ticket token is =
    let call = call_of token in
    let parts = and_parts (eqb call.session ticket.session) (eqb call.number ticket.number) is in
    ap (λ (s : ℕ). let t : Ticket = record { session = s; number = call.number } in t) (eqb-true call.session ticket.session parts.0)
    ∙ ap (λ (n : ℕ). let t : Ticket = record { session = ticket.session; number = n } in t) (eqb-true call.number ticket.number parts.1)

pub for_call : (tokens : List ReplyToken) (ticket : Ticket) (at : ℕ) (token : ReplyToken) → position (is_for ticket) tokens ≡ Some at → token ≡ get_or tokens at token → call_of token ≡ ticket
for_call tokens ticket at token found value =
    for_ticket ticket token (ap (is_for ticket) value ∙ (position-Some (is_for ticket) tokens at token found).1)
