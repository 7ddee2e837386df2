-- Equality of names, as lists of bytes.
use Rattle.std.specs.Prelude.{ℕ, Bool, true, false, not, ◌&&◌, List, [], ◌∷◌, Option, Some, None, nat_eq}
use Rattle.std.specs.List.{list_any}
use Rattle.std.specs.Cmp.Lexicographic.{pointwise}

-- two names, or two opaque fields, have the same bytes
abbrev pub is_same : List ℕ → List ℕ → Bool
is_same = pointwise nat_eq

-- a name is given, and it is this one
abbrev pub is_named : Option (List ℕ) → List ℕ → Bool
is_named None name = false
is_named (Some given) name = is_same given name

-- no name appears twice
unfoldable pub are_distinct : List (List ℕ) → Bool
are_distinct [] = true
are_distinct (x ∷ xs) = not (list_any (is_same x) xs) && are_distinct xs
