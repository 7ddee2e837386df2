use Rattle.std.proofs.Common.{◌≡◌, true, List, ◌++◌, length}
use Rattle.std.specs.List.{list_all}
use Rattle.cg_line.specs.Calls.{GoOn, Made, TransportCall, bytes_written, is_write}
use Rattle.cg_line.proofs.stream.writer.put.Given as goal

abbrev pub invariant-loop : goal.invariant-loop
invariant-loop g l = (writes : List TransportCall) × Made g.T.Transport.does l.fn.transport writes l.transport × (list_all is_write writes ≡ true) × GoOn writes
    × (l.bytes ≡ bytes_written writes ++ l.rest) × (length writes ≡ l.counter)
