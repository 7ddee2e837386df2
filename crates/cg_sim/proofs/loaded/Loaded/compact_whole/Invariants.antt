use Rattle.std.proofs.Common.{◌≡◌}
use Rattle.cg_sim.specs.Disk.{sectors_of}
use Rattle.cg_sim.specs.LoadedDisk.{loaded_disk}
use Rattle.cg_sim.proofs.loaded.Loaded.compact_whole.Given as goal

abbrev pub invariant-loop-step : goal.invariant-loop-step
invariant-loop-step l = sectors_of (loaded_disk l.loaded) ≡ sectors_of (loaded_disk l.fn.self)
