-- How a script ends.
use Rattle.std.specs.Prelude.{◌≡◌, ◌⊎◌, ℕ, List, [], ◌++◌, Option}
use Rattle.std.specs.Io.KnownBytes.{Appends}
use Rattle.cg_sim.specs.declared.script.TheConstants.{STATUS_BAD_LINE, STATUS_DONE, STATUS_IO, STATUS_SHORT}
use Rattle.cg_sim.specs.declared.stop.Stop.{Stop}
use Rattle.cg_sim.specs.declared.stop.Stop.TheVariants.{BadLine, Device, Io, Memory}
use Rattle.cg_sim.specs.Telling.{stop_text}

-- the exit status of a script that ends early
abbrev pub status_of : Stop → ℕ
status_of (BadLine number) = STATUS_BAD_LINE
status_of Io = STATUS_IO
status_of Memory = STATUS_SHORT
status_of Device = STATUS_SHORT

-- something was written, and then `last`, which says why the script ended
abbrev pub WritesThen : Option (List ℕ) → Option (List ℕ) → List ℕ → Type 0
WritesThen old new last = (said : List ℕ) × Appends old new (said ++ last)

-- this cause was printed, and has this status; or the status is that of a failed read or write, which has a clause of its own
abbrev pub EndsEarly : Stop → ℕ → Option (List ℕ) → Option (List ℕ) → Type 0
EndsEarly cause status old new = ((status ≡ status_of cause) × Appends old new (stop_text cause)) ⊎ (status ≡ STATUS_IO)

-- the script came to its end; a cause with this status was printed; or the status is that of a failed read or write
abbrev pub Ends : ℕ → Option (List ℕ) → Option (List ℕ) → Type 0
Ends status old new = ((status ≡ STATUS_DONE) × WritesThen old new []) ⊎ ((cause : Stop) × (status ≡ status_of cause) × WritesThen old new (stop_text cause)) ⊎ (status ≡ STATUS_IO)

-- why a line may end the script: memory ran out, the disk failed in a poke, or the line is bad
abbrev pub IsCause : ℕ → Stop → Type 0
IsCause number stop = (stop ≡ Memory) ⊎ (stop ≡ Device) ⊎ (stop ≡ BadLine number)
