use Rattle.std.proofs.Common.{◌≡◌, ◌+◌, ◌*◌, ◌++◌, length, take}
use Rattle.std.specs.List.{flat_map}
use Rattle.cg_root.specs.Roots.{two_bytes}
use Rattle.cg_root.proofs.root_encoder.push_ids.Given as goal

abbrev pub invariant-loop-id : goal.invariant-loop-id
invariant-loop-id l =
    (l.sector ≡ l.initial.sector ++ flat_map two_bytes (take l.id-index l.ids))
    × (length l.sector ≡ length l.initial.sector + 2 * l.id-index)
