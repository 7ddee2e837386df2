use Rattle.std.proofs.Common.{[], ◌∷◌, ◌++◌, Err, Ok, arith, inl, refl, rules, zero-le}
use Rattle.std.proofs.lemmas.Result.{err_from_is_err_and}
use Rattle.cg_line.proofs.Calls.{failing_reads_nothing, made_more, reads_in-append}
use Rattle.cg_line.proofs.Iteration.{flushed_read, reads_within, silent_more}
use Rattle.cg_line.proofs.Streams.{far_begins, far_reads_max, far_write_fault, none_stops}
use Rattle.cg_line.proofs.stream.serve_stream.Goals as goal

pub returns-in_err-room : goal.returns-in_err-room
returns-in_err-room g c =
    let p = err_from_is_err_and c.from_residual.result c.from_residual.ensures.1 in
    ([], refl, zero-le, rw (p.1, p.2) (none_stops g.B.Backend.gives c.args.backend.now))

pub loop-init : goal.loop-init
loop-init g c = (
  search rules,
  record {
    calls = [];
    made = refl;
    reads_are = refl;
    holds = far_begins g.B.Backend.gives c.args.backend.now c.new-begun.result c.new-begun.ensures;
  },
)

pub returns-in_err-flush : goal.returns-in_err-flush
returns-in_err-flush g c =
    let so = c.loop.invariant.1 in
    let flush = c.in_err-flush.ensures in
    let p = err_from_is_err_and c.from_residual-in_err-flush.result c.from_residual-in_err-flush.ensures.1 in
    let none = failing_reads_nothing flush.0 flush.2.1 in
    let count = reads_in-append so.calls (flush.0 ∷ []) in
    let reads_are = so.reads_are in (
      so.calls ++ flush.0 ∷ [],
      made_more g.T.Transport.does _ _ _ so.calls flush.0 so.made flush.1,
      omega arith,
      rw (p.1, p.2, flush.2.0)
          (far_write_fault g.B.Backend.gives so.calls c.args.backend.now c.loop.backend (flush.0 ∷ []) [] c.loop.begun none (inl (flush.0, flush.2.1, ([], refl, refl))) so.holds),
    )

pub returns-in_err-count : goal.returns-in_err-count
returns-in_err-count g c =
    let so = flushed_read c.read.new.buffer (Err c.in_err-count.field-0.0) c.loop.invariant.1 c.in_ok-flush.ensures c.in_err-count.ensures.call tt in
    let p = err_from_is_err_and c.from_residual-in_err-count.result c.from_residual-in_err-count.ensures.1 in
    rw (p.1, p.2) (reads_within so (omega arith))

pub loop-preserved-in_default : goal.loop-preserved-in_default
loop-preserved-in_default g c =
    let so = flushed_read c.read.new.buffer (Ok c.in_ok-count.field-0) c.loop.invariant.1 c.in_ok-flush.ensures c.in_ok-count.ensures.call c.in_ok-count.ensures.within in
    (omega arith, rw c.in_default.is at so)

pub returns-then-count-eq0 : goal.returns-then-count-eq0
returns-then-count-eq0 g c =
    let read = flushed_read c.read.new.buffer (Ok c.in_ok-count.field-0) c.loop.invariant.1 c.in_ok-flush.ensures c.in_ok-count.ensures.call c.in_ok-count.ensures.within in
    let so = rw c.in-Some.is at read in
    (so.calls, so.made, omega arith, so.holds.0 c.if-count-eq0.true)

pub returns-in_err-serve_bytes : goal.returns-in_err-serve_bytes
returns-in_err-serve_bytes g c =
    let read = flushed_read c.read.new.buffer (Ok c.in_ok-count.field-0) c.loop.invariant.1 c.in_ok-flush.ensures c.in_ok-count.ensures.call c.in_ok-count.ensures.within in
    let so = rw c.in-Some.is at read in
    let served = c.in_err-serve_bytes.ensures so.calls c.args.backend.now (so.holds.1 (omega arith)) in
    let p = err_from_is_err_and c.from_residual-in_err-serve_bytes.result c.from_residual-in_err-serve_bytes.ensures.1 in
    rw (p.1, p.2) (reads_within (silent_more so served) (omega arith))

pub loop-preserved : goal.loop-preserved
loop-preserved g c =
    let read = flushed_read c.read.new.buffer (Ok c.in_ok-count.field-0) c.loop.invariant.1 c.in_ok-flush.ensures c.in_ok-count.ensures.call c.in_ok-count.ensures.within in
    let so = rw c.in-Some.is at read in
    (omega arith, silent_more so (c.in_ok-serve_bytes.ensures so.calls c.args.backend.now (so.holds.1 (omega arith))))

pub returns : goal.returns
returns g c =
    let so = c.loop.invariant.1 in
    let reads_are = so.reads_are in
    (so.calls, so.made, omega arith, far_reads_max g.B.Backend.gives so.calls c.args.backend.now c.loop.backend c.loop.begun (omega arith) so.holds)
