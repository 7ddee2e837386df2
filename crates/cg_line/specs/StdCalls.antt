-- A call on a reader and a writer of std.
use Rattle.std.specs.Prelude.{◌≡◌, ℕ, List, [], Option, Ok}
use Rattle.std.specs.Io.KnownBytes.{Appends, Consumes, IsAtEnd}
use Rattle.cg_line.specs.Calls.{Reads, TransportCall, read_by, written_by}

-- what the reader has left and what the writer holds, before a call and after it
pub record StdCall (call : TransportCall) (left left' held held' : Option (List ℕ)) : Type 0 where
  pub consumes : Consumes left left' (read_by call)
  pub appends : Appends held held' (written_by call)
  pub at_end : call ≡ Reads (Ok []) → IsAtEnd left'
