use Rattle.std.proofs.Common.{⊎_elim, inl, inr, ◌≤◌, ◌++◌, rules, arith, ap, sym, subst, length}
use Rattle.cg_sim.specs.declared.line.TheConstants.{SCRIPT_LINE_BYTES_MAX}
use Rattle.cg_sim.specs.Reading.{HasNoEnd, IsNext, IsOver}
use Rattle.cg_sim.proofs.Lines.{is_next, read_more}
use Rattle.cg_sim.proofs.script_line.read_line.Goals as goal

pub loop-init : goal.loop-init
loop-init g c = record {
  room = omega (arith, ap length c.clear.ensures.items);
  begun = subst HasNoEnd (sym c.clear.ensures.items) (λ k d below. absurd (omega (arith, below)));
  read = λ input is. (input, is, ap (λ l. l ++ input) (sym c.clear.ensures.items));
  grown = inr (omega arith);
}

pub read_part-requires-clause-room : goal.read_part-requires-clause-room
read_part-requires-clause-room g c = c.loop.invariant.room

pub read_part-requires-clause-begun : goal.read_part-requires-clause-begun
read_part-requires-clause-begun g c = c.loop.invariant.begun

pub returns-then-branch-clause-next : goal.returns-then-branch-clause-next
returns-then-branch-clause-next g c input is =
    let before = c.loop.invariant.read input is in
    let after = read_more input _ _ _ _ before c.read_part.ensures.appends c.read_part.ensures.consumed in
    let over = subst (IsOver c.read_part.new.line.items) after.1 (c.in_ok-read_part.ensures.over before.0 before.1 c.if-branch.true) in
    subst (IsNext input _ c.read_part.new.line.items) (sym after.1) (is_next input c.read_part.new.line.items after.0 c.is_empty.result (search rules) after.2 c.read_part.ensures.bound over)

pub loop-preserved : goal.loop-preserved
loop-preserved g c =
    let more = c.in_ok-read_part.ensures.more c.if-branch.false in
    record {
      room = more.0;
      begun = more.1;
      read = λ input is. read_more input _ _ _ _ (c.loop.invariant.read input is) c.read_part.ensures.appends c.read_part.ensures.consumed;
      grown = ⊎_elim (λ failed. inl (c.read_part.ensures.noted failed)) (λ long. ⊎_elim inl (λ more. inr (omega (arith, long, more))) (c.in_ok-read_part.ensures.grows c.if-branch.false)) c.loop.invariant.grown;
    }

pub returns-clause-io : goal.returns-clause-io
returns-clause-io g c io =
    let bound : length c.loop.line.items ≤ SCRIPT_LINE_BYTES_MAX = c.loop.invariant.room in
    ⊎_elim (λ failed. failed) (λ long. absurd (omega (arith, long, bound, c.loop-test.false))) c.loop.invariant.grown
