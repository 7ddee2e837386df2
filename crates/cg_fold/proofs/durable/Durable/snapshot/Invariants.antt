use Rattle.std.proofs.Common.{◌≡◌, take}
use Rattle.std.specs.Prelude.{flat_map}
use Rattle.cg_fold.specs.Snapshot.{group_commands}
use Rattle.cg_fold.proofs.durable.Durable.snapshot.Given as goal

abbrev pub invariant-loop-id : goal.invariant-loop-id
invariant-loop-id l = l.commands.items ≡ flat_map (group_commands l.self) (take l.id-index l.id-items)
