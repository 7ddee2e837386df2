-- The loaded groups, the state of the machine, and events that concern all groups.
use Rattle.std.specs.Prelude.{◌≡◌, is_some, true, if◌then◌else◌, ℕ, List, [], ◌∷◌, map, Option, find}
use Rattle.std.specs.List.{flat_map}
use Rattle.std.specs.FinMap as finmap
use Rattle.std.specs.Ordering.{nat_cmp, match_ordering}
use Rattle.std.specs.Cmp.Lexicographic.{slice_cmp}
use Rattle.cg_group_state.specs.declared.effects.Effects.{Effects}
use Rattle.cg_group_state.specs.declared.group.Group.{Group}
use Rattle.cg_group_state.specs.declared.turn.Turn.{Turn}
use Rattle.cg_group_table.specs.Kept.{Ascending, Each}
use Rattle.cg_group_state.specs.Membership.{is_same}
use Rattle.cg_group_state.specs.Offsets.{OffsetMap}

-- the loaded groups by the bytes of their ids, the committed offsets, the last moment, and that of loading
pub record Machine : Type 0 where
  pub groups : List Group
  pub offsets : OffsetMap
  pub last : ℕ
  pub loaded : ℕ

-- the state after an event, and the effects of the event
pub record Outcome : Type 0 where
  pub after : Machine
  pub effects : Effects

-- a state with these groups, offsets and moments
abbrev pub standing : ℕ → ℕ → List Group → OffsetMap → Machine
standing loaded now groups offsets = record { groups = groups; offsets = offsets; last = now; loaded = loaded }

-- the same, where neither the offsets nor the moment of loading matter
abbrev pub at_moment : ℕ → List Group → Machine
at_moment now groups = standing 0 now groups finmap.empty

-- a result: the state after the event, and the effects
abbrev pub outcome : Machine → Effects → Outcome
outcome after effects = record { after = after; effects = effects }

-- the group with this id, if it is loaded
unfoldable pub find_group : List ℕ → List Group → Option Group
find_group id groups = find (λ g. is_same g.id id) groups

-- the groups are in the order of the bytes of their ids, each once
abbrev pub InOrder : List Group → Type 0
InOrder groups = Ascending (map (λ g. g.id) groups)

-- the groups with this one inserted, or in the place of the one with its id
unfoldable pub with_group : Group → List Group → List Group
with_group g [] = g ∷ []
with_group g (h ∷ hs) = match_ordering (slice_cmp nat_cmp g.id h.id) (g ∷ h ∷ hs) (g ∷ hs) (h ∷ with_group g hs)

-- the groups without the one with this id
unfoldable pub without_group : List ℕ → List Group → List Group
without_group id [] = []
without_group id (h ∷ hs) = if is_same h.id id then hs else h ∷ without_group id hs

-- the groups after the step of each
abbrev pub groups_after : (Group → Turn) → List Group → List Group
groups_after turn groups = map (λ g. (turn g).group) groups

-- the effects of all steps, by the bytes of the groups' ids
abbrev pub effects_of : (Group → Turn) → List Group → Effects
effects_of turn groups = record { commands = flat_map (λ g. (turn g).commands) groups; replies = flat_map (λ g. (turn g).replies) groups }

-- an event that is a step of each group
unfoldable pub everywhere : (Group → Turn) → Machine → Outcome
everywhere turn s = record { after = record s { groups = groups_after turn s.groups }; effects = effects_of turn s.groups }

-- the key of each entry is its group's id
abbrev pub StandUnderIds : List (List ℕ × Group) → Type 0
StandUnderIds entries = Each (λ e. e.0 ≡ e.1.id) entries

-- a group with this id is loaded
abbrev pub IsHeld : List Group → List ℕ → Type 0
IsHeld groups id = is_some (find_group id groups) ≡ true
