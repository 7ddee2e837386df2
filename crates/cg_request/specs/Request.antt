-- Requests as events of the machine.
use Rattle.std.specs.Prelude.{ℕ, List}
use Rattle.cg_request.specs.declared.request.Request.{Request}
use Rattle.cg_request.specs.declared.request.Request.TheVariants as request
use Rattle.cg_request.specs.declared.event.Event.{Event}
use Rattle.cg_request.specs.declared.event.Event.TheVariants as event
use Rattle.cg_request.specs.declared.ticket.Ticket.{Ticket}

-- the event of a request under a ticket; a JOIN keeps the UUID
abbrev pub asked : Request → Ticket → List ℕ → Event
asked (request.Join r) ticket fresh = event.Join ticket r fresh
asked (request.Sync r) ticket fresh = event.Sync ticket r
asked (request.Beat r) ticket fresh = event.Beat ticket r
asked (request.Leave r) ticket fresh = event.Leave ticket r
asked (request.Commit r) ticket fresh = event.Commit ticket r
asked (request.Fetch r) ticket fresh = event.Fetch ticket r
asked (request.Delete id) ticket fresh = event.Delete ticket id
asked (request.Drop r) ticket fresh = event.Drop ticket r
asked (request.Describe id) ticket fresh = event.Describe ticket id
asked request.List ticket fresh = event.List ticket
