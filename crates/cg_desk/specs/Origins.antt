-- The step that made replies, and which of them counts its commands.
use Rattle.std.specs.Prelude.{ℕ, ◌+◌, Bool, false, List, [], ◌∷◌, length, if◌then◌else◌, Option, None, Some}
use Rattle.cg_group_state.specs.declared.effects.Effects.{Effects}
use Rattle.cg_group_state.specs.declared.reply.Reply.{Reply}
use Rattle.cg_request.specs.declared.ticket.Ticket.{Ticket}
use Rattle.cg_desk.specs.Outgoings.{answer}
use Rattle.cg_desk.specs.Tokens.{call_of, is_ticket}
use Rattle.cg_desk.specs.declared.origin.Origin.{Origin}
use Rattle.cg_desk.specs.declared.outgoing.Outgoing.{Outgoing}
use Rattle.cg_desk.specs.declared.token.ReplyToken.{ReplyToken}

-- the ticket of the request that a step takes, if it takes one
abbrev pub own_of : List ReplyToken → Option Ticket
own_of [] = None
own_of (token ∷ tokens) = Some (call_of token)

-- the step of this request, if it is one, that made these effects after this many commands
abbrev pub origin_of : ℕ → Option Ticket → Effects → Origin
origin_of numbered own effects = record { need = numbered + length effects.commands; own = own; made = length effects.commands }

-- it is the ticket of the request that a step took
abbrev pub is_own : Ticket → Option Ticket → Bool
is_own ticket None = false
is_own ticket (Some own) = is_ticket own ticket

-- how many commands the reply to this ticket made: those of the step, if it is the step's own ticket
abbrev pub made_for : Origin → Ticket → ℕ
made_for origin ticket = if is_own ticket origin.own then origin.made else 0

-- a reply of a step as it leaves
abbrev pub sent : Origin → Ticket × Reply → Outgoing
sent origin r = answer r.0 r.1 (made_for origin r.0)
