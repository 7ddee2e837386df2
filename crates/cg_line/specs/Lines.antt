-- What a run keeps of a line whose line feed has not been read yet, and what a whole line asks for.
use Rattle.std.specs.Prelude.{◌≡◌, ℕ, ◌+◌, List, [], ◌∷◌, ◌++◌, length}
use Rattle.cg_request.specs.declared.request.Request.{Request}
use Rattle.cg_line.specs.declared.stream.asked_line.Asked.{Asked}
use Rattle.cg_line.specs.declared.stream.asked_line.Asked.TheVariants as asked
use Rattle.cg_line.specs.declared.stream.asked_line.Refusal.TheVariants.{Malformed, Memory}
use Rattle.cg_line.specs.declared.stream.begun.BegunLine.{BegunLine}
use Rattle.cg_line.specs.declared.stream.begun.BegunLine.TheVariants.{Kept, Lost}
use Rattle.cg_line.specs.Requests.{Spells}
use Rattle.cg_line.specs.Running.{HasNoEnd, IsLine, line_feed}

-- the number of bytes so far
abbrev pub begun_len : BegunLine → ℕ
begun_len (Kept bytes) = length bytes.items
begun_len (Lost count) = count

-- the bytes so far are these
abbrev pub IsBegun : BegunLine → List ℕ → Type 0
IsBegun (Kept bytes) line = bytes.items ≡ line
IsBegun (Lost count) line = count ≡ length line

-- these bytes were appended
abbrev pub Adds : BegunLine → List ℕ → BegunLine → Type 0
Adds (Kept old) part (Kept new) = new.items ≡ old.items ++ part
Adds (Kept old) part (Lost count) = count ≡ length old.items + length part
Adds (Lost old) part (Kept new) = ⊥
Adds (Lost old) part (Lost count) = count ≡ old + length part

-- what a line asks for: it is the line of this lawful request; or it is malformed, as it is the line of none; of a failed
-- allocation nothing is said
abbrev pub Asks : List ℕ → Asked → Type 0
Asks line (asked.Request r) = Spells line r
Asks line (asked.Refusal Malformed) = (r : Request) → Spells line r → ⊥
Asks line (asked.Refusal Memory) = Unit {0}

-- without a line feed in the bytes, the line goes on with them
pub record GoesOn (line bytes : List ℕ) (new : BegunLine) : Type 0 where
  pub no_end : HasNoEnd bytes
  pub is_line : IsLine (line ++ bytes)
  pub begun_is : IsBegun new (line ++ bytes)

-- the line ended with the bytes before the first line feed, and the next has no bytes yet
pub record Ended (line bytes : List ℕ) (asked : Asked) (behind : List ℕ) (new : BegunLine) : Type 0 where
  pub front : List ℕ
  pub bytes_are : bytes ≡ front ++ (line_feed ∷ behind)
  pub is_line : IsLine (line ++ front)
  pub asks : Asks (line ++ front) asked
  pub begun_is : IsBegun new []
