use Rattle.std.proofs.Common.{◌∙◌, sym, arith}
use Rattle.std.proofs.lemmas.Grind.{common_steps}
use Rattle.std.proofs.lemmas.Result.{err_from_is_err_and}
use Rattle.cg_record.proofs.Decoding.{left_end, left_fail}
use Rattle.cg_record.proofs.decoder.Decoder.next_in.Goals as goal

pub returns-then-is_empty-clause-ok : goal.returns-then-is_empty-clause-ok
returns-then-is_empty-clause-ok c =
    sym c.self.view_is ∙ left_end c.self.inside.version c.self.inside.rest.now (grind (arith, common_steps))

pub returns-in_err-command-clause-fault : goal.returns-in_err-command-clause-fault
returns-in_err-command-clause-fault c =
    let p = err_from_is_err_and c.from_residual.result c.from_residual.ensures.1 in
    rw (p.1, p.2, ← c.self.view_is) (left_fail c.in_err-command.field-0.0 c.self.inside.version c.self.inside.rest.now (grind (arith, common_steps)) c.in_err-command.ensures.builds)

pub returns-clause-ok : goal.returns-clause-ok
returns-clause-ok c = (c.in_ok-command.ensures.left.0, sym c.self.view_is ∙ c.in_ok-command.ensures.left.1)
