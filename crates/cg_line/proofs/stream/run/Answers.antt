use Rattle.std.proofs.Common.{◌++◌}
use Rattle.std.proofs.lemmas.Result.{err_from_is_err_and}
use Rattle.cg_line.proofs.Calls.{made_then}
use Rattle.cg_line.proofs.Streams.{refused_is_run, unrefused_is_run}
use Rattle.cg_line.proofs.stream.run.Goals as goal

pub returns-in_err-refuse_too_long-in-Err-TooLong : goal.returns-in_err-refuse_too_long-in-Err-TooLong
returns-in_err-refuse_too_long-in-Err-TooLong g c =
    let so = rw c.in-Err-TooLong.field-0-is at c.in-Err-TooLong.ensures in
    let refused = c.in_err-refuse_too_long-in-Err-TooLong.ensures in
    let p = err_from_is_err_and c.from_residual.result c.from_residual.ensures.1 in record {
      calls = (
        so.0 ++ refused.0,
        made_then g.T.Transport.does _ _ _ so.0 refused.0 so.1 refused.1,
        rw (p.1, p.2) (unrefused_is_run g.B.Backend.gives so.0 refused.0 _ _ so.2 so.3 _ refused.2),
      );
    }

pub returns-in_ok-refuse_too_long-in-Err-TooLong : goal.returns-in_ok-refuse_too_long-in-Err-TooLong
returns-in_ok-refuse_too_long-in-Err-TooLong g c =
    let so = rw c.in-Err-TooLong.field-0-is at c.in-Err-TooLong.ensures in
    let refused = c.in_ok-refuse_too_long-in-Err-TooLong.ensures in record {
      calls = (
        so.0 ++ refused.0,
        made_then g.T.Transport.does _ _ _ so.0 refused.0 so.1 refused.1,
        refused_is_run g.B.Backend.gives so.0 refused.0 _ _ so.2 so.3 _ refused.2,
      );
    }
