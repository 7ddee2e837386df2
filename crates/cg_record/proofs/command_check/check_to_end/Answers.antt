use Rattle.std.proofs.Common.{length, ◌<◌, arith}
use Rattle.std.proofs.lemmas.Grind.{common_steps}
use Rattle.cg_record.proofs.Again.{passed_on, passed_end}
use Rattle.cg_record.proofs.command_check.check_to_end.Goals as goal

pub loop-rest-preserved : goal.loop-rest-preserved
loop-rest-preserved c = passed_on (λ rest. rest.now) c.args.version c.args.bytes.now c.loop-rest.rest.now c.in_ok-rest.rest c.loop-rest.invariant c.in_ok-rest.ensures.skips c.in_ok-rest.ensures.shorter

pub returns : goal.returns
returns c =
    let none : length c.loop-rest.rest.now < 1 = grind (arith, common_steps) in
    passed_end c.args.version c.args.bytes.now c.loop-rest.rest.now c.loop-rest.invariant none
