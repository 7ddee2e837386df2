-- The entries of a trail: the event of each, and the replies to these events.
use Rattle.std.specs.Prelude.{ℕ, List, [], ◌∷◌, map}
use Rattle.std.specs.List.{flat_map}
use Rattle.cg_group.specs.Machine.{step}
use Rattle.cg_group_table.specs.GroupTable.{Machine, Outcome}
use Rattle.cg_group_state.specs.declared.reply.Reply.{Reply}
use Rattle.cg_request.specs.Request.{asked}
use Rattle.cg_request.specs.declared.event.Event.{Event}
use Rattle.cg_request.specs.declared.event.Event.TheVariants as event
use Rattle.cg_request.specs.declared.ticket.Ticket.{Ticket}
use Rattle.cg_trail.specs.declared.trail_entry.TrailEntry.{TrailEntry}
use Rattle.cg_trail.specs.declared.trail_entry.TrailEntry.TheVariants.{Request, Tick}

-- a reply, with the ticket of its call
abbrev pub Answer : Type 0
Answer = Ticket × Reply

-- the event of an entry, and its moment
abbrev pub event_of : TrailEntry → Event × ℕ
event_of (Request e) = (asked e.request e.ticket e.fresh, e.now)
event_of (Tick e) = (event.Tick, e.now)

-- the events of entries, in their order
abbrev pub events_of : List TrailEntry → List (Event × ℕ)
events_of entries = map event_of entries

-- the replies that an entry records
abbrev pub recorded : TrailEntry → List Answer
recorded (Request e) = e.replies
recorded (Tick e) = e.replies

-- the recorded replies of entries, in their order
abbrev pub all_recorded : List TrailEntry → List Answer
all_recorded entries = flat_map recorded entries

-- the machine and the effects after the event of an entry
abbrev pub step_of : Machine → TrailEntry → Outcome
step_of s e = step s (event_of e).0 (event_of e).1

-- the replies that the machine makes to these events, event by event
unfoldable pub replies_of : List (Event × ℕ) → Machine → List (List Answer)
replies_of [] s = []
replies_of (e ∷ es) s = (step s e.0 e.1).effects.replies ∷ replies_of es (step s e.0 e.1).after
