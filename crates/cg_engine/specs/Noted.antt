-- The answers that a pass notes, for the test of a trail.
use Rattle.std.specs.Prelude.{◌≡◌, ◌⊎◌, Bool, false, List, [], ◌∷◌, ◌++◌, if◌then◌else◌}
use Rattle.cg_desk.specs.Refusals.{is_refusal}
use Rattle.cg_group_state.specs.declared.reply.Reply.{Reply}
use Rattle.cg_group_state.specs.declared.reply.Reply.TheVariants as reply
use Rattle.cg_request.specs.declared.ticket.Ticket.{Ticket}
use Rattle.cg_trail.specs.Entries.{Answer}
use Rattle.cg_trail.specs.Trails.{TrailParts, AreAnswers}
use Rattle.cg_engine.specs.declared.trail.noted.Noted.{Noted}
use Rattle.cg_engine.specs.declared.trail.noted.Noted.TheVariants.{Off, Kept, Lost}

-- 14, 15, -1 or 42
abbrev pub is_refused : Reply → Bool
is_refused (reply.Joined joined) = false
is_refused (reply.Synced assignment) = false
is_refused reply.Done = false
is_refused (reply.Fetched partitions) = false
is_refused (reply.Described described) = false
is_refused (reply.Groups groups) = false
is_refused (reply.Refused code) = is_refusal code

-- what is noted of an answer
abbrev pub noted_from : Ticket → Reply → List Answer
noted_from ticket r = if is_refused r then [] else (ticket, r) ∷ []

-- a pass that notes its answers has one more, or lacks one from now on
abbrev pub IsNoted : Noted → Ticket → Reply → Noted → Type 0
IsNoted Off ticket r now = now ≡ Off
IsNoted (Kept answers) ticket r now = (now ≡ Kept (answers ++ noted_from ticket r)) ⊎ (now ≡ Lost)
IsNoted Lost ticket r now = now ≡ Lost

-- no answer is missing, and they are replies of the trail, each a different one, in the order of the trail
abbrev pub AreIn : Noted → TrailParts → Type 0
AreIn Off t = ⊥
AreIn (Kept answers) t = AreAnswers answers t
AreIn Lost t = ⊥
