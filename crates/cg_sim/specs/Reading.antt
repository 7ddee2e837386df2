-- What contracts say of the bytes that a script is read from.
use Rattle.std.specs.Prelude.{All, ◌<◌, ◌≡◌, ◌≢◌, ◌⊎◌, ◌+◌, ◌++◌, ℕ, Bool, true, false, List, [], ◌∷◌, Option, Some, length, take, drop}
use Rattle.std.specs.Io.{IsEmptyOrEndsWith, StopsAt}
use Rattle.std.specs.Io.KnownBytes.{IsAtEnd}
use Rattle.std.specs.Io.BufRead.{take_through}
use Rattle.cg_sim.specs.declared.line.TheConstants.{SCRIPT_LINE_BYTES_MAX}

abbrev line_feed : ℕ
line_feed = 10

-- the first line, with its line feed, of as many bytes as the longest line and one more
unfoldable pub first_line : List ℕ → List ℕ
first_line input = take_through line_feed (take (SCRIPT_LINE_BYTES_MAX + 1) input)

-- a line with its line feed, which is its last byte
abbrev pub EndsLine : List ℕ → Type 0
EndsLine line = (0 < length line) × IsEmptyOrEndsWith line line_feed × StopsAt line line_feed

-- no byte is a line feed
abbrev pub HasNoEnd : List ℕ → Type 0
HasNoEnd line = All (λ b. b ≢ line_feed) line

-- no more bytes belong to the line: it has its line feed, it is longer than a line may be, or no input is left
abbrev pub IsOver : List ℕ → Option (List ℕ) → Type 0
IsOver line left = EndsLine line ⊎ (HasNoEnd line × ((SCRIPT_LINE_BYTES_MAX < length line) ⊎ IsAtEnd left))

-- a read took the first line, and the rest is left; or nothing was left
abbrev pub IsNext : List ℕ → Bool → List ℕ → Option (List ℕ) → Type 0
IsNext left true taken after = (left ≢ []) × (taken ≡ first_line left) × (after ≡ Some (drop (length (first_line left)) left))
IsNext left false taken after = (left ≡ []) × (after ≡ Some [])

-- a line without its line feed, if it has one
abbrev pub IsWithoutEnd : List ℕ → List ℕ → Type 0
IsWithoutEnd line front = (line ≡ front ++ line_feed ∷ []) ⊎ (front ≡ line) × ((p : List ℕ) → line ≢ p ++ line_feed ∷ [])
