-- Timeouts (KIP-62): expired sessions, and the deadline of a rebalance.
use Rattle.std.specs.Prelude.{ℕ, Bool, not, ◌&&◌, ◌||◌, ◌+◌, nat_le, max, List, map, fold, if◌then◌else◌}
use Rattle.std.specs.List.{list_any}
use Rattle.cg_group_state.specs.declared.calls.Calls.TheVariants.{Any}
use Rattle.cg_group_state.specs.declared.group.Group.{Group}
use Rattle.cg_group_state.specs.declared.member.Member.{Member}
use Rattle.cg_group_state.specs.declared.turn.Turn.{Turn}
use Rattle.cg_group_rules.specs.Leave.{after_removal}
use Rattle.cg_group_state.specs.Membership.{is_empty, is_preparing, keeping}
use Rattle.cg_group_rules.specs.Rebalance.{complete_join, try_complete_join, turn_of}
use Rattle.cg_group_state.specs.Waiting.{is_waiting}
use Rattle.cg_group_state.specs.Staying.{is_overdue, outstays}

-- the members whose session has expired are removed
unfoldable pub expire_heartbeats : ℕ → Turn → Turn
expire_heartbeats now t =
    if list_any (is_overdue now) t.group.members
    then after_removal now (record t { group = keeping (λ m. not (is_overdue now m)) t.group })
    else try_complete_join now t

-- the greatest rebalance timeout of the members
unfoldable pub greatest_rebalance : List Member → ℕ
greatest_rebalance members = fold max 0 (map (λ m. m.rebalance) members)

-- the rebalance has lasted its greatest rebalance timeout
abbrev pub is_due : ℕ → Group → Bool
is_due now g = is_preparing g.phase && nat_le (g.started + greatest_rebalance g.members) now

-- no member is left, or one has a parked call
abbrev pub can_complete : List Member → Bool
can_complete members = is_empty members || list_any (is_waiting Any) members

-- at the deadline: the rebalance completes, or its time starts again
unfoldable pub ended : ℕ → Turn → Turn
ended now t = if can_complete t.group.members then complete_join now t else record t { group = record t.group { started = now } }

-- at the deadline the dynamic members without a parked call are removed
unfoldable pub at_deadline : ℕ → Turn → Turn
at_deadline now t =
    if is_due now t.group
    then ended now (record t { group = keeping outstays t.group })
    else t

-- a tick, in one group
unfoldable pub ticked : ℕ → Group → Turn
ticked now g = at_deadline now (expire_heartbeats now (turn_of g))
