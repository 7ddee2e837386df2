use Rattle.std.proofs.Common.{◌≡◌, ℕ, List, Some, IfErr}
use Rattle.std.specs.Io.KnownBytes.{Appends}
use Rattle.cg_sim.specs.Ending.{IsCause}
use Rattle.cg_sim.specs.Stages.{size_of}
use Rattle.cg_sim.proofs.script.serve_lines.Given as goal

abbrev pub invariant-loop-number : goal.invariant-loop-number
invariant-loop-number g l = record {
  same_size : size_of l.stage ≡ size_of l.initial.stage;
  written : (said : List ℕ) × Appends (g.W.Write.contents l.initial.writer.inner) (g.W.Write.contents l.writer.inner) said;
  known : (input : List ℕ) → g.R.Read.remaining l.initial.reader.inner ≡ Some input → (left : List ℕ) × (g.R.Read.remaining l.reader.inner ≡ Some left);
  cause : (number : ℕ) × IfErr l.played (λ stop. IsCause number stop);
}
