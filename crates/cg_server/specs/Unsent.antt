-- What a connection sends of the bytes that it owes.
use Rattle.std.specs.Prelude.{◌≡◌, ℕ, List, ◌++◌, Option}
use Rattle.std.specs.Io.KnownBytes.{Appends}

-- the first of the bytes that are owed were sent, and the others are left
abbrev pub SendsFirstOf : List ℕ → List ℕ → Option (List ℕ) → Option (List ℕ) → Type 0
SendsFirstOf owed left old new = (said : List ℕ) × Appends old new said × (owed ≡ said ++ left)
