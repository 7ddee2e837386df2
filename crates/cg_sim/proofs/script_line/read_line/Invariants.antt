use Rattle.std.proofs.Common.{◌≡◌, ◌⊎◌, ◌≤◌, ℕ, List, Some, length}
use Rattle.cg_sim.specs.declared.line.TheConstants.{SCRIPT_LINE_BYTES_MAX}
use Rattle.cg_sim.specs.Reading.{HasNoEnd}
use Rattle.cg_sim.specs.Watching.{HasFailed}
use Rattle.cg_sim.proofs.Lines.{IsRead}
use Rattle.cg_sim.proofs.script_line.read_line.Given as goal

abbrev pub invariant-loop : goal.invariant-loop
invariant-loop g l = record {
  room : length l.line.items ≤ SCRIPT_LINE_BYTES_MAX;
  begun : HasNoEnd l.line.items;
  read : (input : List ℕ) → g.R.Read.remaining l.initial.reader.inner ≡ Some input → IsRead input l.line.items (g.R.Read.remaining l.reader.inner);
  grown : HasFailed l.reader ⊎ (l.counter ≤ length l.line.items);
}
