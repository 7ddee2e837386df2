use Rattle.std.proofs.Common.{◌≡◌, true, take}
use Rattle.cg_disk.specs.Disk.{IsSynced, present}
use Rattle.cg_sim.specs.Poking.{IsPoked}
use Rattle.cg_sim.proofs.poke.Poke.put_all.Given as goal

abbrev pub invariant-loop-poke : goal.invariant-loop-poke
invariant-loop-poke g l = record {
  size : g.D.SectorDisk.size l.disk ≡ g.D.SectorDisk.size l.initial.disk;
  honesty : g.D.SectorDisk.is_honest l.disk ≡ g.D.SectorDisk.is_honest l.initial.disk;
  failures : g.D.SectorDisk.failures l.disk ≡ g.D.SectorDisk.failures l.initial.disk;
  put : g.D.SectorDisk.is_honest l.initial.disk ≡ true → IsSynced (present (g.D.SectorDisk.history l.initial.disk))
      → IsPoked (take l.poke-index l.pokes) (present (g.D.SectorDisk.history l.initial.disk)).content (present (g.D.SectorDisk.history l.disk));
}
