-- A rebalance of the members that stay in a group, as its outcome is worked out before the group changes.
use Rattle.std.specs.Prelude.{◌≡◌, ℕ, Bool, true, false, ◌&&◌, ◌||◌, [], Option, Some, None}
use Rattle.std.specs.List.{list_all}
use Rattle.cg_group_state.specs.declared.calls.Calls.TheVariants.{Joins}
use Rattle.cg_group_state.specs.declared.effects.Effects.{Effects}
use Rattle.cg_group_state.specs.declared.group.Group.{Group}
use Rattle.cg_group_state.specs.declared.group.Phase.TheVariants.{Completing}
use Rattle.cg_group_state.specs.declared.who_stays.Staying.{Staying}
use Rattle.cg_group_state.specs.Membership.{is_preparing}
use Rattle.cg_group_rules.specs.Rebalance.{complete_join, turned}
use Rattle.cg_group_state.specs.Staying.{remaining}
use Rattle.cg_group_state.specs.Waiting.{after_answers, is_waiting}
use Rattle.cg_group_rules.specs.declared.rebalance.Round.{Round}
use Rattle.cg_group_rules.specs.declared.join_reply.Told.{Told}

-- the group with those of its members that stay
abbrev pub among : Staying → Group → Group
among who g = record g { members = remaining who g.members }

-- the group in this round
abbrev pub in_round : Round → Group → Group
in_round r g = record g { phase = r.phase; generation = r.generation; protocol = r.protocol; leader = r.leader; emptied = r.emptied }

-- the group as its rebalance completes with the round, if there is one: every parked JOIN has its reply
abbrev pub rounded : ℕ → Option Round → Group → Group
rounded now None g = g
rounded now (Some r) g = in_round r (record g { members = after_answers Joins now g.members })

-- a rebalance begins in the group or is under way, and every member has a parked JOIN
abbrev pub is_complete : Bool → Group → Bool
is_complete begins g = (begins || is_preparing g.phase) && list_all (is_waiting Joins) g.members

-- the round with which a rebalance of the group completes at this moment, if it does, and the effects before and after that
abbrev pub IsPlan : ℕ → Bool → Group → Effects → Option Round → Effects → Type 0
IsPlan now begins g before None after = (is_complete begins g ≡ false) × (after ≡ before)
IsPlan now begins g before (Some r) after = (is_complete begins g ≡ true) × (complete_join now (turned g before) ≡ turned (rounded now (Some r) g) after)

-- a group of which the replies tell this; they tell neither its id nor its phase, nor any moment
abbrev pub told_group : Told → Group
told_group t = record {
  id = [];
  phase = Completing;
  generation = t.generation;
  kind = t.kind.now;
  protocol = t.protocol.now;
  leader = t.leader.now;
  members = remaining t.staying.now t.members.now;
  started = 0;
  emptied = None;
}
