use Rattle.std.proofs.Common.{◌≡◌, take}
use Rattle.cg_group_state.specs.Offsets.{offsets_after}
use Rattle.cg_group.proofs.tick.take_away.Given as goal

abbrev pub invariant-loop-command : goal.invariant-loop-command
invariant-loop-command l = l.offsets ≡ offsets_after l.initial.offsets (take l.command-index l.commands)
