-- A line is words with one space between them; each value has one spelling as a word.
use Rattle.std.specs.Prelude.{ℕ, List, [], ◌∷◌, ◌++◌, codes, Option, None, Some}
use Rattle.hex.specs.Hex.{encode_lower}

-- words with one space between them
unfoldable pub spaced : List (List ℕ) → List ℕ
spaced [] = []
spaced (w ∷ []) = w
spaced (w ∷ v ∷ ws) = w ++ codes " " ++ spaced (v ∷ ws)

-- bytes: 'x' and two lower-case hexadecimal digits for each
abbrev pub bytes_word : List ℕ → List ℕ
bytes_word bytes = codes "x" ++ encode_lower bytes

-- a name, or '-' for no name
abbrev pub name_word : Option (List ℕ) → List ℕ
name_word None = codes "-"
name_word (Some name) = name
