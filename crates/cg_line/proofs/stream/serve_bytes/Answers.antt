use Rattle.std.proofs.Common.{[], ◌++◌, Ok, Err, append_assoc, append-nil, refl}
use Rattle.std.proofs.lemmas.Result.{err_from_is_err_and}
use Rattle.cg_line.proofs.Calls.{made_then, no_reads_both, writes_read_nothing}
use Rattle.cg_line.proofs.Streams.{far_goes_on, far_line, far_line_fault, far_too_long}
use Rattle.cg_line.proofs.stream.serve_bytes.Goals as goal

pub loop-asked-init : goal.loop-asked-init
loop-asked-init g c calls before far = ([], refl, refl, rw (append-nil calls) far)

pub returns-in_err-asked : goal.returns-in_err-asked
returns-in_err-asked g c calls before far =
    let so = c.loop-asked.invariant calls before far in
    let here = so.3 in
    let long = c.in_err-asked.ensures.next here.line here.begun_is here.is_line in
    let p = err_from_is_err_and c.from_residual.result c.from_residual.ensures.1 in
    (so.0, so.1, so.2, rw (p.1, p.2) (far_too_long g.B.Backend.gives (calls ++ so.0) before c.loop-asked.backend c.loop-asked.rest.now c.loop-asked.begun here long))

pub returns-in_err-reply : goal.returns-in_err-reply
returns-in_err-reply g c calls before far =
    let so = c.loop-asked.invariant calls before far in
    let here = so.3 in
    let ended = rw c.in-Some.is at c.in_ok-asked.ensures.next here.line here.begun_is here.is_line in
    let p = err_from_is_err_and c.from_residual-in_err-reply.result c.from_residual-in_err-reply.ensures.1 in
    let done = c.in_err-reply.ensures (here.line ++ ended.front) ended.asks in (
      so.0 ++ done.0,
      made_then g.T.Transport.does _ _ _ so.0 done.0 so.1 done.1,
      no_reads_both so.0 done.0 so.2 (writes_read_nothing done.0 done.2.put.are_writes),
      rw (p.1, p.2, ← append_assoc calls so.0 done.0)
          (far_line_fault g.B.Backend.gives (calls ++ so.0) before c.loop-asked.backend c.loop-asked.rest.now c.in-Some.behind.now c.in-Some.asked c.loop-asked.begun c.next.new.self here ended c.reply.new.backend done.0 (Err c.in_err-reply.field-0.0) done.2 c.in_err-reply.field-0.0 (refl {a = Err c.in_err-reply.field-0.0})),
    )

pub loop-asked-preserved : goal.loop-asked-preserved
loop-asked-preserved g c calls before far =
    let so = c.loop-asked.invariant calls before far in
    let here = so.3 in
    let ended = rw c.in-Some.is at c.in_ok-asked.ensures.next here.line here.begun_is here.is_line in
    let done = c.in_ok-reply.ensures (here.line ++ ended.front) ended.asks in (
      so.0 ++ done.0,
      made_then g.T.Transport.does _ _ _ so.0 done.0 so.1 done.1,
      no_reads_both so.0 done.0 so.2 (writes_read_nothing done.0 done.2.put.are_writes),
      rw (← append_assoc calls so.0 done.0)
          (far_line g.B.Backend.gives (calls ++ so.0) before c.loop-asked.backend c.loop-asked.rest.now c.in-Some.behind.now c.in-Some.asked c.loop-asked.begun c.next.new.self here ended c.reply.new.backend done.0 (Ok tt) done.2 tt (refl {a = Ok tt})),
    )

pub returns : goal.returns
returns g c calls before far =
    let so = c.loop-asked.invariant calls before far in
    let goes = rw c.in_default.is at c.in_ok-asked.ensures.next so.3.line so.3.begun_is so.3.is_line in
    (so.0, so.1, so.2, far_goes_on g.B.Backend.gives (calls ++ so.0) before c.loop-asked.backend c.loop-asked.rest.now c.loop-asked.begun c.next.new.self so.3 goes)
