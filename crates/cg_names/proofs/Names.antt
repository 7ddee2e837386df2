-- Facts about names: their length, their bytes, and that they are UTF-8.
use Rattle.std.proofs.Common.{◌≡◌, ℕ, ◌≤◌, ◌<◌, true, false, List, [], ◌∷◌, length, Some, IsUtf8, arith}
use Rattle.std.specs.List.{list_all}
use Rattle.std.specs.Str.{IsAscii}
use Rattle.std.proofs.lemmas.Str.{IsUtf8-from_ascii}
use Rattle.std.proofs.lemmas.Str.Ascii.{IsAscii-nil, IsAscii-cons}
use Rattle.std.proofs.lemmas.Bool.{and_parts}
use Rattle.std.proofs.lemmas.Bool.Decides.{nat_tests}
use Rattle.cg_names.specs.Grammar.{IsName, fault_of, told, is_name_byte, is_dash}
use Rattle.cg_names.specs.declared.fault.NameFault.{NameFault}
use Rattle.cg_names.specs.declared.fault.NameFault.TheVariants.{Memory, Empty, TooLong, BadByte, Reserved}

-- the fault of a text is never `Memory`
no_memory : (max : ℕ) (text : List ℕ) → fault_of max text ≡ Some Memory → ⊥
unfolding fault_of
no_memory max text e = grind arith

-- the fault of a text is reported as it is
pub told_fault : (max : ℕ) (text : List ℕ) (fault : NameFault) → fault_of max text ≡ Some fault → fault_of max text ≡ told fault
told_fault max text Memory e = absurd (no_memory max text e)
told_fault max text Empty e = e
told_fault max text TooLong e = e
told_fault max text BadByte e = e
told_fault max text Reserved e = e

-- a name has 1 to `max` bytes
pub length_from_name : (max : ℕ) (text : List ℕ) → IsName max text → (1 ≤ length text) × (length text ≤ max)
unfolding fault_of
length_from_name max text e = (grind (arith, nat_tests), grind (arith, nat_tests))

-- each byte of a name is one of the grammar
pub bytes_from_name : (max : ℕ) (text : List ℕ) → IsName max text → list_all is_name_byte text ≡ true
unfolding fault_of
bytes_from_name max text e = grind arith

-- a name is not '-' alone
pub no_dash_from_name : (max : ℕ) (text : List ℕ) → IsName max text → is_dash text ≡ false
unfolding fault_of
no_dash_from_name max text e = grind arith

name_byte_is_ascii : (b : ℕ) → is_name_byte b ≡ true → b < 128
name_byte_is_ascii b e = grind (arith, nat_tests)

ascii_from_bytes : (text : List ℕ) → list_all is_name_byte text ≡ true → IsAscii text
ascii_from_bytes [] e = IsAscii-nil
ascii_from_bytes (b ∷ bs) e =
    let both = and_parts (is_name_byte b) (list_all is_name_byte bs) e in
    IsAscii-cons b bs (name_byte_is_ascii b both.0) (ascii_from_bytes bs both.1)

-- a name is UTF-8
pub text_from_name : (max : ℕ) (text : List ℕ) → IsName max text → IsUtf8 text
text_from_name max text e = IsUtf8-from_ascii text (ascii_from_bytes text (bytes_from_name max text e))
