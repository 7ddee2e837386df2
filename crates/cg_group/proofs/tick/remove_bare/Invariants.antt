use Rattle.std.proofs.Common.{◌≡◌, take}
use Rattle.cg_group_table.specs.Expiry.{without_bare}
use Rattle.cg_group.proofs.tick.remove_bare.Given as goal

abbrev pub invariant-loop-id : goal.invariant-loop-id
invariant-loop-id l = l.held ≡ without_bare l.offsets (take l.id-index l.ids) l.initial.held
