-- Decoding of fields from left to right, up to the first fault.
use Rattle.std.specs.Prelude.{ℕ, zero, suc, Bool, ◌&&◌, ◌==◌, nat_lt, nat_le, List, [], ◌∷◌, ◌++◌, length, take, drop, Option, Some, None, Result, Ok, Err, is_none, if◌then◌else◌}
use Rattle.std.specs.Int.{Width, w16, w32, w64, byte_len, from_be_bytes}
use Rattle.cg_names.specs.Grammar.{fault_of}
use Rattle.cg_record.specs.declared.fault.RecordFault.{RecordFault}
use Rattle.cg_record.specs.declared.fault.RecordFault.TheVariants.{Short, BadName, BadLength}

-- a value and the bytes after it, or the first fault
abbrev pub Read : Type 0 → Type 0
Read A = Result (A × List ℕ) RecordFault

infixl 10 ◌>>=◌
abbrev pub ◌>>=◌ : {A B : Type 0} → Result A RecordFault → (A → Result B RecordFault) → Result B RecordFault
(Ok x) >>= f = f x
(Err fault) >>= f = Err fault

-- the decoded value if it passes the test, otherwise this fault
abbrev pub only : {A : Type 0} → (A → Bool) → RecordFault → Read A → Read A
only passes fault read = read >>= λ x. if passes x.0 then Ok x else Err fault

-- the decoded value, converted
abbrev pub made : {A B : Type 0} → (A → B) → Read A → Read B
made make read = read >>= λ x. Ok (make x.0, x.1)

abbrev pub at_most : ℕ → ℕ → Bool
at_most max n = nat_le n max

abbrev pub is_from_to : ℕ → ℕ → ℕ → Bool
is_from_to min max n = nat_le min n && nat_le n max

unfoldable pub byte_at : List ℕ → Read ℕ
byte_at [] = Err Short
byte_at (b ∷ rest) = Ok (b, rest)

unfoldable pub bytes_at : ℕ → List ℕ → Read (List ℕ)
bytes_at n bytes = if nat_lt (length bytes) n then Err Short else Ok (take n bytes, drop n bytes)

-- a number of this width
unfoldable pub number_at : Width → List ℕ → Read ℕ
number_at w bytes = if nat_lt (length bytes) (byte_len w) then Err Short else Ok (from_be_bytes w (take (byte_len w) bytes), drop (byte_len w) bytes)

abbrev pub two_at : List ℕ → Read ℕ
two_at bytes = number_at w16 bytes

abbrev pub four_at : List ℕ → Read ℕ
four_at bytes = number_at w32 bytes

abbrev pub eight_at : List ℕ → Read ℕ
eight_at bytes = number_at w64 bytes

abbrev pub is_name : ℕ → List ℕ → Bool
is_name max text = is_none (fault_of max text)

-- a name of 1 to `max` bytes, with its length byte
unfoldable pub name_at : ℕ → List ℕ → Read (List ℕ)
name_at max bytes = do
  size ← only (is_from_to 1 max) BadName (byte_at bytes)
  only (is_name max) BadName (bytes_at size.0 size.1)

-- a name of this length; the length 0 is no name
abbrev pub named_at : ℕ → ℕ → List ℕ → Read (Option (List ℕ))
named_at max size bytes = if size == 0 then Ok (None, bytes) else made Some (only (is_name max) BadName (bytes_at size bytes))

-- an optional name of at most `max` bytes, with its length byte
unfoldable pub optional_name_at : ℕ → List ℕ → Read (Option (List ℕ))
optional_name_at max bytes = do
  size ← only (at_most max) BadName (byte_at bytes)
  named_at max size.0 size.1

-- at most `max` opaque bytes, with their four-byte length
unfoldable pub text_at : ℕ → List ℕ → Read (List ℕ)
text_at max bytes = do
  size ← only (at_most max) BadLength (four_at bytes)
  bytes_at size.0 size.1

-- n more values after those in front; the decoder of each sees all values before it
unfoldable pub many_at : {X : Type 0} → (List X → List ℕ → Read X) → ℕ → List X → List ℕ → Read (List X)
many_at at zero front bytes = Ok (front, bytes)
many_at at (suc n) front bytes = do
  next ← at front bytes
  many_at at n (front ++ next.0 ∷ []) next.1
