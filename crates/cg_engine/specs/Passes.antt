-- The model of a pass.
use Rattle.std.specs.Prelude.{ℕ, ◌+◌, nat_lt, if◌then◌else◌}
use Rattle.cg_desk.specs.declared.outgoing.Outgoing.{Outgoing}
use Rattle.cg_request.specs.declared.ticket.Ticket.{Ticket}
use Rattle.cg_engine.specs.Units.{count_of}
use Rattle.cg_engine.specs.declared.engine_limits.TheConstants.{CALLS_MAX}
use Rattle.cg_engine.specs.declared.kind.CallKind.{CallKind}
use Rattle.cg_engine.specs.declared.trail.noted.Noted.{Noted}
use Rattle.cg_engine.specs.declared.pass.SessionPass.{SessionPass}
use Rattle.cg_engine.specs.declared.pending_call.BegunCall.{BegunCall}
use Rattle.cg_engine.specs.declared.pending_call.BegunCall.TheVariants.{Ended, Waits}
use Rattle.cg_engine.specs.declared.pending_call.PendingCall.{PendingCall}

abbrev pub number_of : {L : Type 0} → SessionPass L → ℕ
number_of pass = pass.number

-- how many calls were made
abbrev pub calls_of : {L : Type 0} → SessionPass L → ℕ
calls_of pass = pass.calls

-- the units of the answers so far
abbrev pub units_of : {L : Type 0} → SessionPass L → ℕ
units_of pass = count_of pass.units

-- the answers that the pass noted, for the test of a trail
abbrev pub noted_of : {L : Type 0} → SessionPass L → Noted
noted_of pass = pass.noted

-- how many commands were loaded, as the last answer said
abbrev pub opening_of : {L : Type 0} → SessionPass L → ℕ
opening_of pass = pass.opening

-- the ticket of the next call
abbrev pub next_ticket : {L : Type 0} → SessionPass L → Ticket
next_ticket pass = record { session = number_of pass; number = calls_of pass + 1 }

-- how many calls were made after one more: one that is refused since the pass has made its last call does not count
abbrev pub calls_after : ℕ → ℕ
calls_after calls = if nat_lt calls CALLS_MAX then calls + 1 else calls

-- the pass that made a call which waits for its answer, as it was before the call: its number, how many calls it had made, the
-- units of its answers and what it noted
abbrev pub pending_number : {L : Type 0} → PendingCall L → ℕ
pending_number call = call.caller.number

abbrev pub pending_calls : {L : Type 0} → PendingCall L → ℕ
pending_calls call = call.caller.calls

abbrev pub pending_units : {L : Type 0} → PendingCall L → ℕ
pending_units call = count_of call.caller.units

abbrev pub pending_noted : {L : Type 0} → PendingCall L → Noted
pending_noted call = call.caller.noted

-- the ticket and the kind of the call
abbrev pub pending_ticket : {L : Type 0} → PendingCall L → Ticket
pending_ticket call = call.ticket

abbrev pub pending_kind : {L : Type 0} → PendingCall L → CallKind
pending_kind call = call.kind

-- what holds of a call that was begun: one thing if it ended, another if it waits
abbrev pub MatchBegun : {L : Type 0} → BegunCall L → (SessionPass L → Outgoing → Type 0) → (PendingCall L → Type 0) → Type 0
MatchBegun (Ended pass outgoing) ended waits = ended pass outgoing
MatchBegun (Waits call) ended waits = waits call

-- what holds of a call that was begun if it ended
abbrev pub IfEnded : {L : Type 0} → BegunCall L → (SessionPass L → Outgoing → Type 0) → Type 0
IfEnded (Ended pass outgoing) ended = ended pass outgoing
IfEnded (Waits call) ended = Unit {0}

-- what holds of a call that was begun if it waits
abbrev pub IfWaits : {L : Type 0} → BegunCall L → (PendingCall L → Type 0) → Type 0
IfWaits (Ended pass outgoing) waits = Unit {0}
IfWaits (Waits call) waits = waits call
