-- Parked calls. A member has at most one; when it gets its reply, the member counts as heard.
use Rattle.std.specs.Prelude.{ℕ, Bool, List, map, Option, Some, None, is_some, option_map, option_to_list, ◌==◌, if◌then◌else◌}
use Rattle.std.specs.List.{filter_map, flat_map}
use Rattle.cg_group_state.specs.declared.calls.Calls.{Calls}
use Rattle.cg_group_state.specs.declared.calls.Calls.TheVariants.{Joins, Syncs, Any, OfSession}
use Rattle.cg_group_state.specs.declared.group.Group.{Group}
use Rattle.cg_group_state.specs.declared.member.Member.{Member}
use Rattle.cg_group_state.specs.declared.member.Waits.{Waits}
use Rattle.cg_group_state.specs.declared.member.Waits.TheVariants.{Nothing, Join, Sync}
use Rattle.cg_group_state.specs.declared.reply.Reply.{Reply}
use Rattle.cg_group_state.specs.declared.reply.Reply.TheVariants.{Refused}
use Rattle.cg_request.specs.declared.ticket.Ticket.{Ticket}
use Rattle.cg_names.specs.declared.code.Code.{Code}

-- the call, if it came on this session
abbrev pub on_session : ℕ → Ticket → Option Ticket
on_session session t = if t.session == session then Some t else None

-- the parked call, if it is one of these
abbrev pub called : Calls → Waits → Option Ticket
called Joins Nothing = None
called Joins (Join t) = Some t
called Joins (Sync t) = None
called Syncs Nothing = None
called Syncs (Join t) = None
called Syncs (Sync t) = Some t
called Any Nothing = None
called Any (Join t) = Some t
called Any (Sync t) = Some t
called (OfSession s) Nothing = None
called (OfSession s) (Join t) = on_session s t
called (OfSession s) (Sync t) = on_session s t

-- the member has a parked call that is one of these
abbrev pub is_waiting : Calls → Member → Bool
is_waiting which m = is_some (called which m.waits)

-- a member whose parked call got its reply: it has no parked call, and was heard now
abbrev pub answered : ℕ → Member → Member
answered now m = record m { heard = now; waits = Nothing }

-- the member as it was when it was last heard at this moment and had this parked call
abbrev pub recalled : ℕ → Waits → Member → Member
recalled heard waits m = record m { heard = heard; waits = waits }

-- the member after these calls got their replies
abbrev pub after_answer : Calls → ℕ → Member → Member
after_answer which now m = if is_waiting which m then answered now m else m

-- the members after these calls got their replies
unfoldable pub after_answers : Calls → ℕ → List Member → List Member
after_answers which now members = map (after_answer which now) members

-- the reply to the member's parked call, if it is one of these
abbrev pub answer : Calls → (Member → Reply) → Member → List (Ticket × Reply)
answer which reply m = option_to_list (option_map (λ t. (t, reply m)) (called which m.waits))

-- the replies to these calls, in joining order
unfoldable pub answers : Calls → (Member → Reply) → List Member → List (Ticket × Reply)
answers which reply members = flat_map (answer which reply) members

-- the same refusal for every call
abbrev pub refusing : Code → Member → Reply
refusing code m = Refused code

-- all parked calls, by group and joining order
unfoldable pub waiting_calls : List Group → List Ticket
waiting_calls groups = filter_map (λ m. called Any m.waits) (flat_map (λ g. g.members) groups)

-- the member with this parked call; if an older call was parked, that call gets a reply, and so the member counts as
-- heard
abbrev pub waits_with : ℕ → Waits → Member → Member
waits_with now waits m = record m { heard = if is_waiting Any m then now else m.heard; waits = waits }
