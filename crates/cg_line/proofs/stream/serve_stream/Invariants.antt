use Rattle.std.proofs.Common.{◌<◌, [], length}
use Rattle.cg_line.specs.Stream.{Far}
use Rattle.cg_line.proofs.Iteration.{SoFar}
use Rattle.cg_line.proofs.stream.serve_stream.Given as goal

abbrev pub invariant-loop : goal.invariant-loop
invariant-loop g l = (0 < length l.buffer) × SoFar g.T.Transport.does l.fn.transport l.transport l.counter (λ calls. Far g.B.Backend.gives calls l.fn.backend l.backend [] l.begun)
