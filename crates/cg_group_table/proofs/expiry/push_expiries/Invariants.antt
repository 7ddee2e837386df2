use Rattle.std.proofs.Common.{◌≡◌, ◌++◌}
use Rattle.std.specs.Prelude.{IsTrue}
use Rattle.std.specs.FinMap.{is_sorted}
use Rattle.cg_record.specs.Partitions.{partition_cmp}
use Rattle.cg_group_table.specs.Expiry.{expiries, stale_of}
use Rattle.cg_group_table.specs.declared.expiry.TheConstants.{EXPIRED_COMMANDS_MAX}
use Rattle.cg_group_table.proofs.expiry.push_expiries.Given as goal

abbrev pub invariant-loop-left : goal.invariant-loop-left
invariant-loop-left l = record {
  so_far : l.commands ++ expiries l.left l.group (stale_of l.clock.loaded l.clock.moment l.rest) ≡ l.fn.commands ++ expiries EXPIRED_COMMANDS_MAX l.group (stale_of l.clock.loaded l.clock.moment l.rows);
  sorted : IsTrue (is_sorted partition_cmp l.rest);
}

abbrev pub decreases-loop-left : goal.decreases-loop-left
decreases-loop-left l = l.left
