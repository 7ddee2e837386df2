-- Replies that wait for their commands: those of one step wait together.
use Rattle.std.specs.Prelude.{ℕ, List, [], ◌∷◌, take, drop, map, nat_le, nat_lt, Bool, false}
use Rattle.std.specs.List.{flat_map, prefix_len}
use Rattle.cg_group_state.specs.declared.reply.Reply.{Reply}
use Rattle.cg_request.specs.declared.ticket.Ticket.{Ticket}
use Rattle.cg_desk.specs.Origins.{sent}
use Rattle.cg_desk.specs.declared.pending_replies.HeldStep.{HeldStep}
use Rattle.cg_desk.specs.declared.origin.Origin.{Origin}
use Rattle.cg_desk.specs.declared.outgoing.Outgoing.{Outgoing}

-- the replies of a step as they are held; a step without replies adds nothing
abbrev pub holding : Origin → List (Ticket × Reply) → List HeldStep
holding origin [] = []
holding origin (r ∷ rs) = record { origin = origin; replies = r ∷ rs } ∷ []

-- the length of the longest prefix of the held steps whose commands are settled
abbrev pub ready : ℕ → List HeldStep → ℕ
ready settled held = prefix_len (λ (step : HeldStep). nat_le step.origin.need settled) held

-- the first held step depends on a command that is not settled, so all held replies wait
abbrev pub is_waiting : ℕ → List HeldStep → Bool
is_waiting settled [] = false
is_waiting settled (step ∷ steps) = nat_lt settled step.origin.need

-- the replies of held steps, in their order
abbrev pub replies_of : List HeldStep → List (Ticket × Reply)
replies_of held = flat_map (λ (step : HeldStep). step.replies) held

-- the replies of held steps as they leave, in their order
abbrev pub leaving_of : List HeldStep → List Outgoing
leaving_of held = flat_map (λ (step : HeldStep). map (sent step.origin) step.replies) held

-- the replies that leave
abbrev pub released : ℕ → List HeldStep → List Outgoing
released settled held = leaving_of (take (ready settled held) held)

-- the steps that stay held
abbrev pub still_held : ℕ → List HeldStep → List HeldStep
still_held settled held = drop (ready settled held) held

-- the tickets of replies
abbrev pub calls_of : List (Ticket × Reply) → List Ticket
calls_of replies = map (λ (r : Ticket × Reply). r.0) replies

-- the replies of the step that was held last
unfoldable pub last_replies : List HeldStep → List (Ticket × Reply)
last_replies [] = []
last_replies (step ∷ []) = step.replies
last_replies (step ∷ next ∷ steps) = last_replies (next ∷ steps)
