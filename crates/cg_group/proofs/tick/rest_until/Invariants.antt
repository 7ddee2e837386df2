use Rattle.std.proofs.Common.{◌≤◌, ◌+◌}
use Rattle.cg_group_table.specs.declared.expiry.TheConstants.{RETENTION_MS}
use Rattle.cg_group.proofs.RestingMachine.{AreSeen}
use Rattle.cg_group.proofs.tick.rest_until.Given as goal

abbrev pub invariant-loop-group : goal.invariant-loop-group
invariant-loop-group l = record {
  early : l.until ≤ l.clock.moment + RETENTION_MS;
  seen : AreSeen l.until l.clock.loaded l.offsets l.held l.group-iterator;
}
