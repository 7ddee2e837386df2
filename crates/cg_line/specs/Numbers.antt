-- Numbers on a line: decimal, without leading zeros and without a plus.
use Rattle.std.specs.Prelude.{ℕ, ℤ, pos, negsuc, ◌+◌, ◌-◌, ◌*◌, Bool, false, not, ◌&&◌, ◌==◌, nat_le, List, [], ◌∷◌, drop, Option, Some, None, if◌then◌else◌}
use Rattle.std.specs.List.{list_all, fold}

-- an ASCII digit
abbrev pub is_digit : ℕ → Bool
is_digit b = nat_le 48 b && nat_le b 57

-- the number in base ten of digits that follow a number
abbrev pub value_from : ℕ → List ℕ → ℕ
value_from n digits = fold (λ n d. 10 * n + (d - 48)) n digits

-- the number of digits in base ten
unfoldable pub value_of : List ℕ → ℕ
value_of digits = value_from 0 digits

-- the only spelling of a number: at least one digit, and no leading zero
abbrev pub is_plain : List ℕ → Bool
is_plain [] = false
is_plain (d ∷ []) = is_digit d
is_plain (d ∷ e ∷ ds) = not (d == 48) && list_all is_digit (d ∷ e ∷ ds)

-- a number from 0 to `most`
unfoldable pub is_number : ℕ → List ℕ → Bool
is_number most word = is_plain word && nat_le (value_of word) most

-- the number from 0 to `most` that the word spells
unfoldable pub number_of : ℕ → List ℕ → Option ℕ
number_of most word = if is_number most word then Some (value_of word) else None

-- the word begins with a minus
abbrev pub is_negative : List ℕ → Bool
is_negative [] = false
is_negative (b ∷ bs) = b == 45

-- a number from -2147483648 to 2147483647; zero has no minus
unfoldable pub is_generation : List ℕ → Bool
is_generation word = if is_negative word
    then is_number 2147483648 (drop 1 word) && nat_le 1 (value_of (drop 1 word))
    else is_number 2147483647 word

-- the number of a generation's word
unfoldable pub generation_in : List ℕ → ℤ
generation_in word = if is_negative word then negsuc (value_of (drop 1 word) - 1) else pos (value_of word)
