-- Words on a line.
use Rattle.std.specs.Prelude.{ℕ, Bool, true, false, not, ◌&&◌, ◌==◌, nat_le, List, [], ◌∷◌, length, take, drop, codes, Option, None, Some, if◌then◌else◌}
use Rattle.std.specs.Option.{option_map}
use Rattle.std.specs.List.{list_all}
use Rattle.std.specs.Str.{bytes_eq}
use Rattle.cg_line.specs.Numbers.{is_digit, value_of}
use Rattle.cg_sim.specs.declared.text.TheConstants.{SESSION_DIGITS_MAX}

-- each line of a `do` takes the value of the line above; without a value the whole has none
infixl 10 ◌>>=◌
abbrev pub ◌>>=◌ : {A B : Type 0} → Option A → (A → Option B) → Option B
None >>= f = None
(Some x) >>= f = f x

-- the text before the first mark, and the text after it
unfoldable pub cut_of : ℕ → List ℕ → Option (List ℕ × List ℕ)
cut_of mark [] = None
cut_of mark (b ∷ bs) = if b == mark then Some ([], bs) else option_map (λ parts. (b ∷ parts.0, parts.1)) (cut_of mark bs)

-- the text after `front`, if the text begins with it
unfoldable pub behind_of : List ℕ → List ℕ → Option (List ℕ)
behind_of front text = if bytes_eq (take (length front) text) front then Some (drop (length front) text) else None

-- one to six digits
abbrev pub is_session : List ℕ → Bool
is_session digits = not (length digits == 0) && nat_le (length digits) SESSION_DIGITS_MAX && list_all is_digit digits

-- a blank line, or a comment
abbrev pub is_skipped : List ℕ → Bool
is_skipped [] = true
is_skipped (b ∷ bs) = b == 35

-- a session: 's' and one to six digits
unfoldable pub session_of : List ℕ → Option ℕ
session_of word = do
  digits ← behind_of (codes "s") word
  if is_session digits then Some (value_of digits) else None

-- the member word of a JOIN
unfoldable pub joiner_of : List ℕ → Option (List ℕ)
joiner_of request = do
  call ← behind_of (codes "JOIN ") request
  group ← cut_of 32 call
  member ← cut_of 32 group.1
  Some member.0

-- the word is `-`: no member
abbrev pub is_none_word : Option (List ℕ) → Bool
is_none_word None = false
is_none_word (Some word) = bytes_eq word (codes "-")

-- a request line is a JOIN without a member id
unfoldable pub draws_uuid : List ℕ → Bool
draws_uuid request = is_none_word (joiner_of request)
