use Rattle.std.proofs.Common.{⊎_elim, inr, ◌∙◌, refl, [], zero}
use Rattle.cg_sim.proofs.Causes.{appends_nothing, memory_cause, not_io}
use Rattle.cg_sim.proofs.Known.{more_written, stop_written}
use Rattle.cg_sim.proofs.script.serve_lines.Goals as goal

pub loop-number-init : goal.loop-number-init
loop-number-init g c = record {
  same_size = refl;
  written = ([], appends_nothing _);
  known = λ input is. (input, is);
  cause = (zero, memory_cause _ zero c.requires);
}

pub returns-in-Err-clause-io : goal.returns-in-Err-clause-io
returns-in-Err-clause-io g c is =
    ⊎_elim inr (λ played. absurd (not_io _ _ c.loop-number.invariant.cause.1 played)) (c.in-Err.ensures.io (cc is))

pub returns-clause-written : goal.returns-clause-written
returns-clause-written g c = inr c.loop-number.invariant.written

pub returns-in-Err-clause-written : goal.returns-in-Err-clause-written
returns-in-Err-clause-written g c = stop_written _ _ _ _ _ c.loop-number.invariant.written c.in-Err.ensures.err

pub returns-in-Ok-false-clause-written : goal.returns-in-Ok-false-clause-written
returns-in-Ok-false-clause-written g c = inr (more_written _ _ _ _ c.loop-number.invariant.written (rw c.in_default.is at c.emit_before.ensures.ok))

pub returns-in-Ok-false-clause-end : goal.returns-in-Ok-false-clause-end
returns-in-Ok-false-clause-end g c input is ended =
    let left = c.loop-number.invariant.known input is in
    (rw c.in-Ok-false.field-0-test at (rw c.in-Ok-false.is at (c.read_line.ensures.next left.0 left.1))).1

pub returns-in-Err-read_line-clause-written : goal.returns-in-Err-read_line-clause-written
returns-in-Err-read_line-clause-written g c = inr (more_written _ _ _ _ c.loop-number.invariant.written (rw c.in_default.is at c.emit_before.ensures.ok))

pub loop-number-preserved : goal.loop-number-preserved
loop-number-preserved g c = record {
  same_size = c.play.ensures.same_size ∙ c.loop-number.invariant.same_size;
  written = more_written _ _ _ _ c.loop-number.invariant.written (rw c.in_default.is at c.emit_before.ensures.ok);
  known = λ input is.
      let left = c.loop-number.invariant.known input is in
      let next = rw c.in-Ok-true.field-0-test at (rw c.in-Ok-true.is at (c.read_line.ensures.next left.0 left.1)) in
      (_, next.2);
  cause = (c.loop-number.number, c.play.ensures.err);
}
