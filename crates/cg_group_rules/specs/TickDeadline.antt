-- Which groups an event changes. In all other groups it has no effect.
use Rattle.std.specs.Prelude.{ℕ, ◌+◌, ◌-◌, ◌^◌, min, Bool, ◌||◌, List, map, fold, if◌then◌else◌}
use Rattle.std.specs.List.{list_any}
use Rattle.cg_group_state.specs.declared.calls.Calls.TheVariants.{Any, OfSession}
use Rattle.cg_group_state.specs.declared.group.Group.{Group}
use Rattle.cg_group_state.specs.declared.member.Member.{Member}
use Rattle.cg_group_state.specs.Membership.{is_preparing}
use Rattle.cg_group_rules.specs.Rebalance.{is_ready}
use Rattle.cg_group_rules.specs.Tick.{greatest_rebalance, is_due}
use Rattle.cg_group_state.specs.Staying.{is_overdue}
use Rattle.cg_group_state.specs.Waiting.{is_waiting}

-- a tick changes a group with an expired session, or whose rebalance is ready or due
abbrev pub tick_touches : ℕ → Group → Bool
tick_touches now g = list_any (is_overdue now) g.members || (is_ready g || is_due now g)

-- the last moment of all
abbrev pub last_moment : ℕ
last_moment = 2 ^ 64 - 1

-- the moment at which the session of the member expires, or the last moment: a member with a parked call does not expire.
-- `since` is the moment of the last tick: heartbeats after it do not change the entry of a group in the index of deadlines,
-- so who was heard later counts as heard then, and the moment may be too early, but not too late.
abbrev pub expiry : ℕ → Member → ℕ
expiry since m = if is_waiting Any m then last_moment else min (min m.heard since + m.session) last_moment

-- the earliest of these moments
unfoldable pub earliest_expiry : ℕ → List Member → ℕ
earliest_expiry since members = fold min last_moment (map (expiry since) members)

-- the deadline of the rebalance under way, or the last moment
unfoldable pub rebalance_deadline : Group → ℕ
rebalance_deadline g = if is_preparing g.phase then min (g.started + greatest_rebalance g.members) last_moment else last_moment

-- no tick before this moment changes the group, even if its members are heard again at `since` or later
unfoldable pub next_deadline : ℕ → Group → ℕ
next_deadline since g = if is_ready g then 0 else min (earliest_expiry since g.members) (rebalance_deadline g)

-- a closed session changes a group in which a call of it is parked
abbrev pub gone_touches : ℕ → Group → Bool
gone_touches session g = list_any (is_waiting (OfSession session)) g.members
