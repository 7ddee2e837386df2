use Rattle.std.proofs.Common.{◌↔◌, drop}
use Rattle.cg_trail.specs.Entries.{all_recorded}
use Rattle.cg_trail.specs.Trails.{ArePicked}
use Rattle.cg_trail.proofs.answers.past_entries.Given as goal

abbrev pub invariant-loop-entry : goal.invariant-loop-entry
invariant-loop-entry l = ArePicked l.fn.answers (all_recorded l.entries) ↔ ArePicked l.left (all_recorded (drop l.entry-index l.entries))
