-- The calls of a run on its transport.
use Rattle.std.specs.Prelude.{◌≡◌, ℕ, ◌+◌, Bool, true, false, zero, suc, List, [], ◌∷◌, ◌++◌, take, Result, Ok, Err}
use Rattle.std.specs.List.{flat_map, list_all}
use Rattle.cg_line.specs.declared.transport_fault.TransportFault.{TransportFault}
use Rattle.cg_line.specs.declared.transport_fault.TransportFault.TheVariants.{Interrupted, Failed}

-- a call and its outcome: the bytes that a read gave; the bytes that a write was passed, and how many of them it took; a
-- flush
pub data TransportCall : Type 0 where
  Reads : Result (List ℕ) TransportFault → TransportCall
  Writes : List ℕ → Result ℕ TransportFault → TransportCall
  Flushes : Result (Unit {0}) TransportFault → TransportCall

-- the bytes that a read gave in the buffer
abbrev pub given : Result ℕ TransportFault → List ℕ → Result (List ℕ) TransportFault
given (Ok count) buffer = Ok (take count buffer)
given (Err fault) buffer = Err fault

-- these calls were made, in this order, and no others
abbrev pub Made : {T : Type 0} → (T → TransportCall → T → Type 0) → T → List TransportCall → T → Type 0
Made does before [] after = after ≡ before
Made {T = T} does before (call ∷ calls) after = (between : T) × does before call between × Made does between calls after

-- the bytes that a call read, and those that it wrote
abbrev pub read_by : TransportCall → List ℕ
read_by (Reads (Ok bytes)) = bytes
read_by (Reads (Err fault)) = []
read_by (Writes bytes taken) = []
read_by (Flushes done) = []

abbrev pub written_by : TransportCall → List ℕ
written_by (Reads got) = []
written_by (Writes bytes (Ok count)) = take count bytes
written_by (Writes bytes (Err fault)) = []
written_by (Flushes done) = []

abbrev pub bytes_read : List TransportCall → List ℕ
bytes_read calls = flat_map read_by calls

abbrev pub bytes_written : List TransportCall → List ℕ
bytes_written calls = flat_map written_by calls

abbrev pub reads_in : List TransportCall → ℕ
reads_in [] = 0
reads_in (Reads got ∷ calls) = reads_in calls + 1
reads_in (Writes bytes taken ∷ calls) = reads_in calls
reads_in (Flushes done ∷ calls) = reads_in calls

abbrev pub is_write : TransportCall → Bool
is_write (Reads got) = false
is_write (Writes bytes taken) = true
is_write (Flushes done) = false

-- a run goes on after the call: it gave or took bytes or passed, or it is an interrupted read or write
abbrev pub goes_on : TransportCall → Bool
goes_on (Reads (Ok [])) = false
goes_on (Reads (Ok (b ∷ bytes))) = true
goes_on (Reads (Err Interrupted)) = true
goes_on (Reads (Err Failed)) = false
goes_on (Writes bytes (Ok zero)) = false
goes_on (Writes bytes (Ok (suc count))) = true
goes_on (Writes bytes (Err Interrupted)) = true
goes_on (Writes bytes (Err Failed)) = false
goes_on (Flushes (Ok _)) = true
goes_on (Flushes (Err fault)) = false

abbrev pub GoOn : List TransportCall → Type 0
GoOn calls = list_all goes_on calls ≡ true

-- this call is the last, and the run went on after each call before it
abbrev pub EndedBy : TransportCall → List TransportCall → Type 0
EndedBy last calls = (earlier : List TransportCall) × (calls ≡ earlier ++ last ∷ []) × GoOn earlier

-- a write that took no bytes or failed, or a flush that failed
abbrev pub fails_to_write : TransportCall → Bool
fails_to_write (Reads got) = false
fails_to_write (Writes bytes (Ok zero)) = true
fails_to_write (Writes bytes (Ok (suc count))) = false
fails_to_write (Writes bytes (Err Interrupted)) = false
fails_to_write (Writes bytes (Err Failed)) = true
fails_to_write (Flushes (Ok _)) = false
fails_to_write (Flushes (Err fault)) = true
