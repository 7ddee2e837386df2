use Rattle.std.proofs.Common.{◌≡◌, List, ◌++◌, length}
use Rattle.cg_line.specs.Calls.{Made, TransportCall, reads_in}
use Rattle.cg_line.specs.Stream.{Far}
use Rattle.cg_line.proofs.stream.serve_bytes.Given as goal

abbrev pub decreases-loop-asked : goal.decreases-loop-asked
decreases-loop-asked g l = length l.rest

abbrev pub invariant-loop-asked : goal.invariant-loop-asked
invariant-loop-asked g l = (calls : List TransportCall) → (before : g.row.B.Denot) → Far g.B.Backend.gives calls before l.fn.backend l.bytes l.fn.begun
    → (more : List TransportCall) × Made g.T.Transport.does l.fn.transport more l.transport × (reads_in more ≡ 0)
    × Far g.B.Backend.gives (calls ++ more) before l.backend l.rest l.begun
