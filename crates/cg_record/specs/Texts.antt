-- The encoding of each field. All numbers are big-endian.
use Rattle.std.specs.Prelude.{ℕ, List, [], ◌∷◌, ◌++◌, length, Option, Some, None}
use Rattle.std.specs.Int.{Width, w16, w32, w64, to_be_bytes}

-- a number of this width
unfoldable pub number : Width → ℕ → List ℕ
number w n = to_be_bytes w n

-- a number in two bytes
abbrev pub two : ℕ → List ℕ
two n = number w16 n

-- a number in four bytes
abbrev pub four : ℕ → List ℕ
four n = number w32 n

-- a number in eight bytes
abbrev pub eight : ℕ → List ℕ
eight n = number w64 n

-- a name: one byte of length, and the name
abbrev pub name_text : List ℕ → List ℕ
name_text name = length name ∷ name

-- an optional name: no name is the length 0
abbrev pub optional_text : Option (List ℕ) → List ℕ
optional_text None = 0 ∷ []
optional_text (Some name) = name_text name

-- opaque bytes: four bytes of length, and the bytes
abbrev pub bytes_text : List ℕ → List ℕ
bytes_text bytes = four (length bytes) ++ bytes
