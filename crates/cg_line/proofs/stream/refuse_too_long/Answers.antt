use Rattle.std.proofs.Common.{[], ◌∷◌, ◌++◌, inl}
use Rattle.std.proofs.lemmas.Result.{err_from_is_err_and}
use Rattle.cg_line.proofs.Calls.{ended_by, made_one, made_then, no_reads_then, writes_read_nothing}
use Rattle.cg_line.proofs.Streams.{refused_whole}
use Rattle.cg_line.proofs.stream.refuse_too_long.Goals as goal

pub returns-in_err-put : goal.returns-in_err-put
returns-in_err-put g c =
    let put = c.in_err-put.ensures in
    let p = err_from_is_err_and c.from_residual.result c.from_residual.ensures.1 in (
      put.0,
      put.1,
      rw (p.1, p.2) (record { no_reads = writes_read_nothing put.0 put.2.are_writes; outcome = put.2.outcome }),
    )

pub returns-in_err-flush : goal.returns-in_err-flush
returns-in_err-flush g c =
    let put = c.in_ok-put.ensures in
    let flush = c.in_err-flush.ensures in
    let p = err_from_is_err_and c.from_residual-in_err-flush.result c.from_residual-in_err-flush.ensures.1 in (
      put.0 ++ flush.0 ∷ [],
      made_then g.T.Transport.does _ _ _ put.0 (flush.0 ∷ []) put.1 (made_one g.T.Transport.does _ _ flush.0 flush.1),
      rw (p.1, p.2) (record {
        no_reads = no_reads_then put.0 flush.0 (writes_read_nothing put.0 put.2.are_writes) flush.2.1;
        outcome = (flush.2.0, inl (flush.0, flush.2.1, ended_by put.0 flush.0 put.2.outcome.1));
      }),
    )

pub returns : goal.returns
returns g c =
    let put = c.in_ok-put.ensures in
    let flush = c.in_ok-flush.ensures in (
      put.0 ++ flush.0 ∷ [],
      made_then g.T.Transport.does _ _ _ put.0 (flush.0 ∷ []) put.1 (made_one g.T.Transport.does _ _ flush.0 flush.1),
      refused_whole put.0 flush.0 c.line.result.now tt tt put.2 flush.2 c.line.ensures,
    )
