-- Names and bytes on a line.
use Rattle.std.specs.Prelude.{ℕ, ◌/◌, ◌%◌, Bool, false, ◌&&◌, ◌||◌, ◌==◌, nat_le, List, [], ◌∷◌, length, drop, Option, Some, None, is_none, if◌then◌else◌}
use Rattle.std.specs.List.{list_all}
use Rattle.std.specs.Result.{result_unwrap_or}
use Rattle.hex.specs.Hex.{decode_of}
use Rattle.cg_names.specs.Grammar.{fault_of, is_dash}
use Rattle.cg_line.specs.Numbers.{is_digit}

-- a name of at most `max` bytes
abbrev pub is_name : ℕ → List ℕ → Bool
is_name max word = is_none (fault_of max word)

-- a name of at most `max` bytes, or `-`
unfoldable pub is_optional : ℕ → List ℕ → Bool
is_optional max word = is_dash word || is_name max word

-- the name on the line, or no name for `-`
unfoldable pub optional_in : List ℕ → Option (List ℕ)
optional_in word = if is_dash word then None else Some word

-- a lower-case hexadecimal digit
abbrev pub is_lower_hex_digit : ℕ → Bool
is_lower_hex_digit b = is_digit b || (nat_le 97 b && nat_le b 102)

-- lower-case hexadecimal digits, two for each byte
abbrev pub are_pairs : List ℕ → Bool
are_pairs digits = list_all is_lower_hex_digit digits && length digits % 2 == 0

-- the word begins with 'x'
abbrev pub begins_with_x : List ℕ → Bool
begins_with_x [] = false
begins_with_x (b ∷ bs) = b == 120

-- 'x' and digits in pairs
unfoldable pub is_bytes : List ℕ → Bool
is_bytes word = begins_with_x word && are_pairs (drop 1 word)

-- 'x' and digits for at most `max` bytes
unfoldable pub is_opaque : ℕ → List ℕ → Bool
is_opaque max word = is_bytes word && nat_le (length (drop 1 word) / 2) max

-- the bytes of digits
abbrev pub decoded : List ℕ → List ℕ
decoded digits = result_unwrap_or (decode_of digits) []

-- the bytes of a word
unfoldable pub bytes_in : List ℕ → List ℕ
bytes_in word = decoded (drop 1 word)
