-- A tick in one group, as it is worked out before the group changes, and then carried out.
use Rattle.std.specs.Prelude.{ℕ, ◌+◌, nat_le, Bool, not, ◌&&◌, ◌||◌, List, [], Option, Some, None, if◌then◌else◌}
use Rattle.std.specs.List.{list_any}
use Rattle.cg_names.specs.declared.code.Code.TheVariants.{RebalanceInProgress}
use Rattle.cg_group_state.specs.declared.calls.Calls.TheVariants.{Syncs}
use Rattle.cg_group_state.specs.declared.effects.Effects.{Effects}
use Rattle.cg_group_state.specs.declared.group.Group.{Group}
use Rattle.cg_group_state.specs.declared.member.Member.{Member}
use Rattle.cg_group_state.specs.declared.who_stays.Staying.TheVariants.{Unexpired}
use Rattle.cg_group_rules.specs.Leave.{has_joined}
use Rattle.cg_group_state.specs.Membership.{is_preparing, keeping}
use Rattle.cg_group_rules.specs.Rebalance.{begun, is_ready}
use Rattle.cg_group_state.specs.Staying.{remaining, is_overdue, outstays}
use Rattle.cg_group_rules.specs.Tick.{greatest_rebalance, is_due}
use Rattle.cg_group_state.specs.Waiting.{answers, refusing}
use Rattle.cg_group_rules.specs.declared.rebalance.Round.{Round}
use Rattle.cg_group_rules.specs.declared.tick.TickPlan.{TickPlan}
use Rattle.cg_group_rules.specs.RebalancePlan.{rounded}

-- a session has expired of members that had joined, so that a rebalance begins
abbrev pub begins_at : ℕ → Group → Bool
begins_at now g = list_any (is_overdue now) g.members && has_joined g.phase

-- the group without the members whose session has expired; a rebalance begins in it if they had joined
abbrev pub thinned : ℕ → Group → Group
thinned now g = if list_any (is_overdue now) g.members then begun (has_joined g.phase) now (keeping (λ m. not (is_overdue now m)) g) else g

-- if a rebalance begins, every parked SYNC of the members that stay gets 27
abbrev pub first_effects : ℕ → Bool → List Member → Effects
first_effects now begins members = record {
  commands = [];
  replies = if begins then answers Syncs (refusing RebalanceInProgress) (remaining (Unexpired now) members) else [];
}

-- the rebalance has lasted its time, once the members whose session has expired are gone
abbrev pub is_over : ℕ → Bool → Group → Bool
is_over now begins g =
    (begins || is_preparing g.phase) && nat_le ((if begins then now else g.started) + greatest_rebalance (remaining (Unexpired now) g.members)) now

-- the group when its rebalance has lasted its time: the rebalance completes with the round, or its time starts again
abbrev pub closed : ℕ → Option Round → Group → Group
closed now None g = record g { started = now }
closed now (Some r) g = rounded now (Some r) g

-- the group at the deadline, if that has come: the members that do not outstay it are removed first
abbrev pub at_end : ℕ → Option Round → Group → Group
at_end now round g = if is_due now g then closed now round (keeping outstays g) else g

-- the group without the expired members: its rebalance completes with the round if all have joined, or reaches its deadline, or
-- goes on
abbrev pub finished : ℕ → Option Round → Group → Group
finished now round g = if is_ready g then rounded now round g else at_end now round g

-- the group after the tick
abbrev pub carried : ℕ → TickPlan → Group → Group
carried now plan g = finished now plan.round (thinned now g)
