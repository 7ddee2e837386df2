use Rattle.std.proofs.Common.{◌≡◌, ◌++◌, length}
use Rattle.std.specs.Option.{option_to_list}
use Rattle.cg_store.proofs.snapshot_frames.fill.Given as goal

abbrev pub invariant-loop : goal.invariant-loop
invariant-loop l = l.draft ++ (option_to_list l.ahead ++ l.snapshot) ≡ l.initial.draft ++ (option_to_list l.initial.ahead ++ l.initial.snapshot)

abbrev pub decreases-loop : goal.decreases-loop
decreases-loop l = length (option_to_list l.ahead ++ l.snapshot)
