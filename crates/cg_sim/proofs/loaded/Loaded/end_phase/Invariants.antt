use Rattle.std.proofs.Common.{◌≡◌}
use Rattle.cg_sim.specs.Disk.{sectors_of}
use Rattle.cg_sim.specs.LoadedDisk.{loaded_disk}
use Rattle.cg_sim.proofs.loaded.Loaded.end_phase.Given as goal

abbrev pub invariant-loop : goal.invariant-loop
invariant-loop l = sectors_of (loaded_disk l.loaded) ≡ sectors_of (loaded_disk l.fn.self)
