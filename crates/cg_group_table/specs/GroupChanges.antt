-- Changes of loaded groups: of one in place, and of many by one event.
use Rattle.std.specs.Prelude.{◌≡◌, ◌⊎◌, ℕ, Bool, List, Result, Ok, Err, if◌then◌else◌}
use Rattle.std.specs.List.{list_any}
use Rattle.cg_group_state.specs.declared.effects.Effects.{Effects}
use Rattle.cg_group_state.specs.declared.group.Group.{Group}
use Rattle.cg_group_state.specs.declared.turn.Turn.{Turn}
use Rattle.cg_request.specs.Names.{is_same}
use Rattle.cg_group_state.specs.Membership.{hearing}
use Rattle.cg_group_rules.specs.Rebalance.{turn_of, turned}
use Rattle.cg_group_table.specs.GroupTable.{with_group}

-- a step keeps the id of its group
abbrev pub KeepIds : (Group → Turn) → Type 0
KeepIds turn = (g : Group) → (turn g).group.id ≡ g.id

-- the effects of a step
abbrev pub effects_in : Turn → Effects
effects_in t = record { commands = t.commands; replies = t.replies }

-- a change keeps the id of its group; `becomes` relates the group before and after it, and what it returns
abbrev pub KeepsId : {X : Type 0} → (Group → Group → X → Type 0) → Type 0
KeepsId {X = X} becomes = (g after : Group) (x : X) → becomes g after x → after.id ≡ g.id

-- a change at most marks a member of its group as heard at this moment
abbrev pub OnlyHears : {X : Type 0} → ℕ → (Group → Group → X → Type 0) → Type 0
OnlyHears {X = X} now becomes = (g after : Group) (x : X) → becomes g after x → (after ≡ g) ⊎ ((id : List ℕ) × (after ≡ hearing now id g))

-- a change that fails leaves its group as it was
abbrev pub FailsUnchanged : {X E : Type 0} → (Group → Group → Result X E → Type 0) → Type 0
FailsUnchanged {E = E} becomes = (g after : Group) (x : E) → becomes g after (Err x) → after ≡ g

-- a change that is a step of its group: it comes to a step of this kind, or fails and leaves the group as it was
abbrev pub StepsTo : {E : Type 0} → (Turn → Type 0) → Group → Group → Result Effects E → Type 0
StepsTo kind g after (Ok e) = kind (turned after e)
StepsTo kind g after (Err x) = after ≡ g

-- a loaded group is changed in its place, and the change returns this
pub record IsChanged {X : Type 0} (becomes : Group → Group → X → Type 0) (groups later : List Group) (g : Group) (x : X) : Type 0 where
  pub after : Group
  pub became : becomes g after x
  pub put : later ≡ with_group after groups

-- the id is one of these
abbrev pub is_one_of : List (List ℕ) → List ℕ → Bool
is_one_of ids id = list_any (is_same id) ids

-- the step for the groups with these ids, and no change for the others
abbrev pub among : List (List ℕ) → (Group → Turn) → Group → Turn
among ids turn g = if is_one_of ids g.id then turn g else turn_of g
