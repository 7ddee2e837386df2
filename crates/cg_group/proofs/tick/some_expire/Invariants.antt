use Rattle.std.proofs.Common.{◌≡◌}
use Rattle.std.specs.List.{list_any}
use Rattle.cg_group_table.specs.Expiry.{expires}
use Rattle.cg_group.proofs.tick.some_expire.Given as goal

-- nothing expires in the groups before
abbrev pub invariant-loop-group : goal.invariant-loop-group
invariant-loop-group l = list_any (expires l.clock.loaded l.clock.moment l.offsets) l.held ≡ list_any (expires l.clock.loaded l.clock.moment l.offsets) l.group-iterator
