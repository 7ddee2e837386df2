use Rattle.std.proofs.Common.{◌+◌, [], ◌∷◌, ◌++◌, ap, ◌∙◌, inl}
use Rattle.std.proofs.lemmas.Result.{err_from_is_err_and}
use Rattle.cg_line.proofs.Calls.{ended_by, go_on_more, length_more, made_one, made_then, writes_more, written_with}
use Rattle.cg_line.proofs.Streams.{written_more}
use Rattle.cg_line.proofs.stream.writer.put.Goals as goal

pub returns-in_err-count : goal.returns-in_err-count
returns-in_err-count g c =
    let before = c.loop.invariant in
    let wrote = c.in_err-count.ensures.call in
    let p = err_from_is_err_and c.from_residual.result c.from_residual.ensures.1 in (
      before.0 ++ wrote.0 ∷ [],
      made_then g.T.Transport.does _ _ _ before.0 (wrote.0 ∷ []) before.1 (made_one g.T.Transport.does _ _ wrote.0 wrote.1),
      rw (p.1, p.2) (record {
        are_writes = writes_more before.0 wrote.0 before.2 wrote.2;
        outcome = (wrote.3.0, inl (wrote.0, wrote.3.1, ended_by before.0 wrote.0 before.3));
      }),
    )

pub loop-preserved : goal.loop-preserved
loop-preserved g c =
    let before = c.loop.invariant in
    let wrote = c.in_ok-count.ensures.call in (
      before.0 ++ wrote.0 ∷ [],
      made_then g.T.Transport.does _ _ _ before.0 (wrote.0 ∷ []) before.1 (made_one g.T.Transport.does _ _ wrote.0 wrote.1),
      writes_more before.0 wrote.0 before.2 wrote.2,
      go_on_more before.0 wrote.0 before.3 wrote.3.1,
      rw (written_with before.0 wrote.0 _ wrote.3.0) (written_more c.args.bytes.now _ c.loop.rest.now c.in_ok-count.count before.4),
      length_more before.0 wrote.0 ∙ ap (λ n. n + 1) before.5,
    )
