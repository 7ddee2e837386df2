-- What a tick comes to in the groups that it changes.
use Rattle.std.specs.Prelude.{◌≡◌, ℕ, Bool, false, if◌then◌else◌, List, [], ◌∷◌, Some, map}
use Rattle.std.specs.List.{flat_map}
use Rattle.cg_group_state.specs.declared.effects.Effects.{Effects}
use Rattle.cg_group_state.specs.declared.group.Group.{Group}
use Rattle.cg_group_rules.specs.Rebalance.{turn_of}
use Rattle.cg_group_rules.specs.Tick.{ticked}
use Rattle.cg_group_rules.specs.TickPlan.{carried}
use Rattle.cg_group_table.specs.declared.due_groups.Due.{Due}
use Rattle.cg_group_table.specs.GroupChanges.{among, is_one_of}
use Rattle.cg_group_table.specs.GroupTable.{effects_of, find_group}
use Rattle.cg_group_table.specs.Kept.{Ascending, ComeBefore, Each}
use Rattle.cg_group_table.specs.SessionIndex.{parked_calls}

-- a group with this id is loaded, the tick leaves it as the plan says, and these are its parked calls before the tick
pub record IsDue (now : ℕ) (groups : List Group) (due : Due) : Type 0 where
  pub group : Group
  pub found : find_group due.id groups ≡ Some group
  pub planned : (ticked now group).group ≡ carried now due.plan group
  pub parked : due.calls.items ≡ parked_calls group.members

abbrev pub due_ids : List Due → List (List ℕ)
due_ids dues = map (λ (d : Due). d.id) dues

-- these are the groups that the tick changes, in the order of the bytes of their ids: it changes no other group
pub record AreDue (now : ℕ) (groups : List Group) (dues : List Due) : Type 0 where
  pub ascending : Ascending (due_ids dues)
  pub planned : Each (IsDue now groups) dues
  pub others : Each (λ (g : Group). is_one_of (due_ids dues) g.id ≡ false → ticked now g ≡ turn_of g) groups

-- the same, with the effects, where only the groups with these ids have their step
pub record HavePlanned (now : ℕ) (groups : List Group) (ids : List (List ℕ)) (dues : List Due) (effects : Effects) : Type 0 where
  pub before : (id : List ℕ) → ComeBefore ids id → ComeBefore (due_ids dues) id
  pub ascending : Ascending (due_ids dues)
  pub planned : Each (IsDue now groups) dues
  pub others : Each (λ (g : Group). among ids (ticked now) g ≡ among (due_ids dues) (ticked now) g) groups
  pub commands : effects.commands ≡ (effects_of (among ids (ticked now)) groups).commands
  pub replies : effects.replies ≡ (effects_of (among ids (ticked now)) groups).replies

-- the id of a group that passes a test
abbrev pub id_if : Bool → Group → List (List ℕ)
id_if passes g = if passes then g.id ∷ [] else []

-- the ids of the groups that pass a test
abbrev pub ids_of : (Group → Bool) → List Group → List (List ℕ)
ids_of passes groups = flat_map (λ g. id_if (passes g) g) groups
