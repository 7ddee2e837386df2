-- The grammar of all names: 1 to `max` bytes of ASCII letters, digits, '.', '_' and '-', and not '-' alone.
use Rattle.std.specs.Prelude.{◌≡◌, ℕ, Bool, false, not, ◌||◌, ◌==◌, nat_lt, List, [], ◌∷◌, length, Option, None, Some, if◌then◌else◌}
use Rattle.std.specs.List.{list_all}
use Rattle.std.specs.Char.{is_ascii_alphabetic, is_ascii_digit}
use Rattle.cg_names.specs.declared.fault.NameFault.{NameFault}
use Rattle.cg_names.specs.declared.fault.NameFault.TheVariants.{Memory, Empty, TooLong, BadByte, Reserved}

-- an ASCII letter, a digit, '.', '_' or '-'
abbrev pub is_name_byte : ℕ → Bool
is_name_byte b = is_ascii_alphabetic b || is_ascii_digit b || b == 46 || b == 95 || b == 45

-- the text '-', which means that no name is given
abbrev pub is_dash : List ℕ → Bool
is_dash (b ∷ []) = b == 45
is_dash _ = false

-- the first fault of a text, in the order of the reports
unfoldable pub fault_of : ℕ → List ℕ → Option NameFault
fault_of max text =
    if length text == 0 then Some Empty
    else (if nat_lt max (length text) then Some TooLong
    else (if not (list_all is_name_byte text) then Some BadByte
    else (if is_dash text then Some Reserved
    else None)))

-- the text is a name of at most `max` bytes
abbrev pub IsName : ℕ → List ℕ → Type 0
IsName max text = fault_of max text ≡ None

-- the fault of the text that a report states; `Memory` is reported only if there is none
abbrev pub told : NameFault → Option NameFault
told Memory = None
told Empty = Some Empty
told TooLong = Some TooLong
told BadByte = Some BadByte
told Reserved = Some Reserved
