use Rattle.std.proofs.Common.{List, subst}
use Rattle.cg_fold.specs.Key.{KeptRow}
use Rattle.cg_group_table.proofs.Fresh.{HaveFresh, offsets_fresh}
use Rattle.cg_group_table.proofs.expiry.fresh_until.Goals as goal

pub returns-then-is_none-clause-fresh : goal.returns-then-is_none-clause-fresh
returns-then-is_none-clause-fresh c =
    let until = c.rows_fresh_until.result in
    let loaded = c.args.clock.now.loaded in
    offsets_fresh until loaded c.args.offsets.now c.args.group.now (subst (λ (rows : List KeptRow). HaveFresh until loaded rows) c.of_group.ensures.value c.rows_fresh_until.ensures.fresh)
