-- Which members stay in a group: what an event comes to is worked out with them, before the others are removed.
use Rattle.std.specs.Prelude.{Bool, true, not, ◌&&◌, ◌||◌, is_some, List, filter, ℕ, ◌+◌, nat_le}
use Rattle.cg_group_state.specs.declared.member.Member.{Member}
use Rattle.cg_group_state.specs.declared.who_stays.Staying.{Staying}
use Rattle.cg_group_state.specs.declared.who_stays.Staying.TheVariants.{All, Without, Unexpired, Outstaying}
use Rattle.cg_group_state.specs.Membership.{has_id}
use Rattle.cg_group_state.specs.Waiting.{is_waiting}
use Rattle.cg_group_state.specs.declared.calls.Calls.TheVariants.{Any}

-- the member has no parked call, and was not heard for its session timeout
abbrev pub is_overdue : ℕ → Member → Bool
is_overdue now m = not (is_waiting Any m) && nat_le (m.heard + m.session) now

-- at the deadline a static member stays (KIP-345), and so does one with a parked call
abbrev pub outstays : Member → Bool
outstays m = is_some m.instance || is_waiting Any m

-- the member is one of those that stay
abbrev pub stays : Staying → Member → Bool
stays All m = true
stays (Without id) m = not (has_id id.now m)
stays (Unexpired now) m = not (is_overdue now m)
stays (Outstaying now calls) m = not (is_overdue now m) && (is_some m.instance || is_waiting calls m)

-- the members that stay, in joining order
abbrev pub remaining : Staying → List Member → List Member
remaining who members = filter (stays who) members
