use Rattle.std.proofs.Common.{◌≡◌, ◌↔◌, ◌++◌, length}
use Rattle.cg_group.specs.Laws.{commands_of}
use Rattle.cg_trail.specs.Entries.{events_of}
use Rattle.cg_trail.specs.Trails.{AreLawful}
use Rattle.cg_trail.proofs.replay.replay_all.Given as goal

abbrev pub invariant-loop-rest : goal.invariant-loop-rest
invariant-loop-rest l = record {
  lawful : AreLawful l.rest l.groups ↔ AreLawful l.fn.entries l.fn.groups;
  made : l.made ++ commands_of (events_of l.rest) l.groups ≡ commands_of (events_of l.fn.entries) l.fn.groups;
}

abbrev pub decreases-loop-rest : goal.decreases-loop-rest
decreases-loop-rest l = length l.rest
