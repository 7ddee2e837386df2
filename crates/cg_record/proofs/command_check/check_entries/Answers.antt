use Rattle.std.proofs.lemmas.Result.{err_from_is_err_and}
use Rattle.cg_record.specs.Reading.{entry_at}
use Rattle.cg_record.proofs.Again.{checked_on, checked_fail}
use Rattle.cg_record.proofs.command_check.check_entries.Goals as goal

pub returns-in_err-rest : goal.returns-in_err-rest
returns-in_err-rest c =
    let p = err_from_is_err_and c.from_residual.result c.from_residual.ensures.1 in
    let checked = c.loop-i.invariant in
    rw (p.1, p.2) (checked_fail c.in_err-rest.field-0.0 entry_at c.args.count c.loop-i.i c.args.bytes.now c.loop-i.rest.now checked c.loop-i-test.true (c.in_err-rest.ensures checked.front checked.reads))

pub loop-i-preserved : goal.loop-i-preserved
loop-i-preserved c =
    let checked = c.loop-i.invariant in
    checked_on (λ r. r.now) entry_at c.args.count c.loop-i.i c.args.bytes.now c.loop-i.rest.now c.in_ok-rest.rest checked c.loop-i-test.true (c.in_ok-rest.ensures checked.front checked.reads)
