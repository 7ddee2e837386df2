use Rattle.std.proofs.Common.{◌≡◌, ◌++◌, length}
use Rattle.cg_root.specs.Decoding.{ids_in}
use Rattle.cg_root.proofs.root_decoder.ids_of.Given as goal

abbrev pub invariant-loop-rest : goal.invariant-loop-rest
invariant-loop-rest l = ids_in l.bytes ≡ l.ids.items ++ ids_in l.rest

abbrev pub decreases-loop-rest : goal.decreases-loop-rest
decreases-loop-rest l = length l.rest
