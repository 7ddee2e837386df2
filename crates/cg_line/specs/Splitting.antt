-- Text split at a mark: a line into words at spaces, a word into fields at colons.
use Rattle.std.specs.Prelude.{ℕ, ◌==◌, List, [], ◌∷◌, ◌++◌, if◌then◌else◌}

abbrev pub equals : ℕ
equals = 61

abbrev pub colon : ℕ
colon = 58

-- texts with one mark between them
unfoldable pub joined : ℕ → List (List ℕ) → List ℕ
joined mark [] = []
joined mark (w ∷ []) = w
joined mark (w ∷ v ∷ ws) = w ++ mark ∷ joined mark (v ∷ ws)

-- the text before the first mark, or the whole text without a mark
unfoldable pub before : ℕ → List ℕ → List ℕ
before mark [] = []
before mark (b ∷ bs) = if b == mark then [] else b ∷ before mark bs

-- the text after the first mark, or the empty text without a mark
unfoldable pub behind : ℕ → List ℕ → List ℕ
behind mark [] = []
behind mark (b ∷ bs) = if b == mark then bs else behind mark bs

-- a byte put before the first word
abbrev pub with_byte : ℕ → List (List ℕ) → List (List ℕ)
with_byte b [] = []
with_byte b (w ∷ ws) = (b ∷ w) ∷ ws

-- the words between spaces; two spaces with nothing between them give an empty word
unfoldable pub words_of : List ℕ → List (List ℕ)
words_of [] = [] ∷ []
words_of (b ∷ bs) = if b == 32 then [] ∷ words_of bs else with_byte b (words_of bs)
