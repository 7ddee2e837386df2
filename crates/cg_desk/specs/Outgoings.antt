-- What contracts see of a reply that leaves.
use Rattle.std.specs.Prelude.{ℕ}
use Rattle.cg_group_state.specs.declared.reply.Reply.{Reply}
use Rattle.cg_request.specs.declared.ticket.Ticket.{Ticket}
use Rattle.cg_desk.specs.declared.outgoing.Outgoing.{Outgoing}

-- the ticket of its request
abbrev pub ticket_of : Outgoing → Ticket
ticket_of outgoing = outgoing.ticket

-- the reply
abbrev pub reply_of : Outgoing → Reply
reply_of outgoing = outgoing.reply

-- how many commands the request made in the step that made the reply
abbrev pub made_of : Outgoing → ℕ
made_of outgoing = outgoing.made

-- this reply to the request with this ticket, which made this many commands
abbrev pub answer : Ticket → Reply → ℕ → Outgoing
answer ticket reply made = record { ticket = ticket; reply = reply; made = made }
