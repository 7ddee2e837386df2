use Rattle.std.proofs.Common.{◌∙◌, ap, refl, false, Ok}
use Rattle.std.proofs.lemmas.Result.{err_from_is_err_and}
use Rattle.cg_disk.proofs.Moments.{Changes-then}
use Rattle.cg_log.proofs.opening.Opening.read_all.Goals as goal

pub returns-in_err-next-clause-tells : goal.returns-in_err-next-clause-tells
returns-in_err-next-clause-tells g c image read has =
    let so_far = c.loop.invariant.read image read has in
    let p = err_from_is_err_and c.from_residual.result c.from_residual.ensures.1 in
    rw (p.1, p.2) (c.in_err-next.ensures.tells image so_far.0 so_far.1)

pub loop-preserved : goal.loop-preserved
loop-preserved g c =
    let inv = c.loop.invariant in
    record {
      read = λ image read has.
          let so_far = inv.read image read has in
          (_, rw c.in-Some.is at (c.in_ok-next.ensures.frame image so_far.0 so_far.1));
      time = λ honest. Changes-then 0 0 _ _ _ (inv.time honest) (c.next.ensures.time (inv.same_honesty ∙ honest));
      same_failures = c.in_ok-next.ensures.device.stays (refl {a = false}) ∙ inv.same_failures;
      same_size = c.next.ensures.same_size ∙ inv.same_size;
      same_honesty = c.next.ensures.same_honesty ∙ inv.same_honesty;
    }

pub returns-clause-read : goal.returns-clause-read
returns-clause-read g c image read has =
    let so_far = c.loop.invariant.read image read has in
    (so_far.0, (c.in_ok-next.ensures.all image so_far.0 so_far.1 (ap Ok c.in_default.is)).0)
