-- The index of deadlines: for each loaded group a moment before which no tick changes it.
use Rattle.std.specs.Prelude.{◌≡◌, ℕ, ◌≤◌, List, [], ◌∷◌}
use Rattle.cg_group_state.specs.declared.group.Group.{Group}
use Rattle.cg_group_rules.specs.TickDeadline.{next_deadline}

-- one entry for each group, in their order: its id, and a moment before which no tick changes it, even if its members
-- are heard again at `since` or later
abbrev pub AreTimed : ℕ → List (List ℕ × ℕ) → List Group → Type 0
AreTimed since [] [] = Unit {0}
AreTimed since [] (g ∷ gs) = ⊥
AreTimed since (e ∷ es) [] = ⊥
AreTimed since (e ∷ es) (g ∷ gs) = (e.0 ≡ g.id) × (e.1 ≤ next_deadline since g) × AreTimed since es gs
