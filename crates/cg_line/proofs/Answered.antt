-- What is parsed from the words of a line, and what the line is the spelling of.
use Rattle.std.proofs.Common.{◌≡◌, ℕ, ◌<◌, ◌⊎◌, inl, inr, List, length, refl, arith, Option, Some, None, Result, Ok, Err}
use Rattle.std.specs.Prelude.{IsSome, IfOk}
use Rattle.cg_request.specs.declared.request.Request.{Request}
use Rattle.cg_line.specs.declared.line_fault.LineFault.{LineFault}
use Rattle.cg_line.specs.declared.line_fault.LineFault.TheVariants.{Memory, Malformed, TooLong}
use Rattle.cg_line.specs.declared.parser.word_split.TheConstants.{WORDS_MAX}
use Rattle.cg_line.specs.Parsing.{Reads, request_of}
use Rattle.cg_line.specs.Requests.{Spells}
use Rattle.cg_line.specs.Splitting.{words_of}
use Rattle.cg_line.proofs.Complete.{line_complete, line_few}
use Rattle.cg_line.proofs.Sound.{line_sound}

pub ok_spells : (line : List ℕ) (result : Result Request LineFault) → Reads result (request_of (words_of line)) → IfOk result (λ r. Spells line r)
ok_spells line (Ok r) reads = line_sound line r reads
ok_spells line (Err fault) reads = tt

pub spelled_is_read : (line : List ℕ) (result : Result Request LineFault) → Reads result (request_of (words_of line))
    → (r : Request) → Spells line r → (result ≡ Ok r) ⊎ (result ≡ Err Memory)
spelled_is_read line (Ok x) reads r spells = let read = line_complete line r spells in inl (cc)
spelled_is_read line (Err Memory) reads r spells = inr refl
spelled_is_read line (Err Malformed) reads r spells = let read = line_complete line r spells in absurd (cc)
spelled_is_read line (Err TooLong) reads r spells = absurd reads

pub malformed_spells_none : (line : List ℕ) (result : Result Request LineFault) → Reads result (request_of (words_of line))
    → result ≡ Err Malformed → (r : Request) → Spells line r → ⊥
malformed_spells_none line (Ok x) reads is r spells = cc
malformed_spells_none line (Err Memory) reads is r spells = cc
malformed_spells_none line (Err Malformed) reads is r spells = let read = line_complete line r spells in cc
malformed_spells_none line (Err TooLong) reads is r spells = reads

some_value : (o : Option Request) → IsSome o → (r : Request) × (o ≡ Some r)
some_value (Some r) is = (r, refl)
some_value None is = absurd (cc)

pub memory_spells : (line : List ℕ) (result : Result Request LineFault) → Reads result (request_of (words_of line))
    → result ≡ Err Memory → (r : Request) × Spells line r
memory_spells line (Ok x) reads is = absurd (cc)
memory_spells line (Err Memory) reads is = let found = some_value (request_of (words_of line)) reads in (found.0, line_sound line found.0 found.1)
memory_spells line (Err Malformed) reads is = absurd (cc)
memory_spells line (Err TooLong) reads is = absurd reads

-- more words than WORDS_MAX spell no request
pub many_spell_none : (line : List ℕ) → WORDS_MAX < length (words_of line) → (r : Request) → Spells line r → ⊥
many_spell_none line many r spells = let few = line_few line r spells in omega arith
