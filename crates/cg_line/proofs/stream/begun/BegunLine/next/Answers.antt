use Rattle.std.proofs.Common.{[], ◌∷◌, append-nil, sym}
use Rattle.std.proofs.lemmas.Result.{err_from_is_err_and}
use Rattle.cg_line.specs.Running.{line_feed}
use Rattle.cg_line.proofs.Streams.{joined_long, line_too_long}
use Rattle.cg_line.proofs.stream.begun.BegunLine.next.Goals as goal

pub returns-in_err-add-clause-next : goal.returns-in_err-add-clause-next
returns-in_err-add-clause-next c line begun is_line =
    let p = err_from_is_err_and c.from_residual.result c.from_residual.ensures.1 in
    let long = joined_long c.args.self.now line c.args.bytes.now begun c.in_err-add.ensures.err in
    rw (p.1) (line_too_long line c.args.bytes.now c.args.bytes.now [] (sym (append-nil c.args.bytes.now)) is_line.0 c.in_default.ensures long)

pub returns-in_err-asked-clause-next : goal.returns-in_err-asked-clause-next
returns-in_err-asked-clause-next c line begun is_line =
    let p = err_from_is_err_and c.from_residual-in_err-asked.result c.from_residual-in_err-asked.ensures.1 in
    let parts = c.in-Some.ensures in
    let long = c.in_err-asked.ensures line begun is_line parts.1 in
    rw (p.1) (line_too_long line c.args.bytes.now c.in-Some.front.now (line_feed ∷ c.in-Some.behind.now) parts.0 is_line.0 parts.1 long)
