use Rattle.std.proofs.Common.{◌≤◌, take}
use Rattle.cg_group_table.proofs.Fresh.{HaveFresh}
use Rattle.cg_group_table.proofs.expiry.rows_fresh_until.Given as goal

abbrev pub invariant-loop-row : goal.invariant-loop-row
invariant-loop-row l = record {
  earlier : l.until ≤ l.fn.until;
  fresh : HaveFresh l.until l.clock.loaded (take l.row-index l.rows);
}
