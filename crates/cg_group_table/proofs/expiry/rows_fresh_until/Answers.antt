use Rattle.std.proofs.Common.{◌≤◌, rules, arith}
use Rattle.cg_group_table.proofs.Fresh.{fresh_all, fresh_more, fresh_sooner}
use Rattle.cg_group_table.proofs.expiry.rows_fresh_until.Goals as goal

pub loop-row-preserved : goal.loop-row-preserved
loop-row-preserved c =
    let l = c.loop-row in
    let loaded = c.args.clock.now.loaded in
    let least = c.min-until.result in
    let sooner : least ≤ l.until = search rules in
    let own : least ≤ c.stale_at.result = search rules in
    record {
      earlier = omega (arith, sooner, l.invariant.earlier);
      fresh = fresh_more l.until least loaded c.args.rows.now l.row-index c.row-item.result (omega (arith, c.loop-row-test.true)) c.row-item.is sooner l.invariant.fresh (fresh_sooner c.stale_at.result least loaded c.row-item.result.1.moment own c.stale_at.ensures);
    }

pub returns-clause-fresh : goal.returns-clause-fresh
returns-clause-fresh c = fresh_all c.loop-row.until c.args.clock.now.loaded c.args.rows.now c.loop-row.row-index (omega (arith, c.loop-row-test.false)) c.loop-row.invariant.fresh
