-- Values by group, and their order.
use Rattle.std.specs.Prelude.{ℕ, Bool, not, List, [], ◌∷◌, Option, Some, None, bytes_eq}

-- a value with the id of its group
abbrev pub OfGroup : Type 0 → Type 0
OfGroup X = List ℕ × X

-- the group of the first entry, if there is one
abbrev pub first_group : {X : Type 0} → List (OfGroup X) → Option (List ℕ)
first_group [] = None
first_group (kept ∷ others) = Some kept.0

-- the group is another one
abbrev pub is_another : List ℕ → List ℕ → Bool
is_another group held = not (bytes_eq held group)
