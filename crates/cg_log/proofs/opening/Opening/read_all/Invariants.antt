use Rattle.std.proofs.Common.{◌≡◌, true}
use Rattle.cg_disk.specs.Disk.{Image, Stays}
use Rattle.cg_log.specs.Openings.{HasRead, disk_under, left_to_read}
use Rattle.cg_log.specs.Segments.{Frames}
use Rattle.cg_log.proofs.opening.Opening.read_all.Given as goal

abbrev pub invariant-loop : goal.invariant-loop
invariant-loop g l = record {
  read : (image : Image) (read : Frames) → HasRead g.D.SectorDisk.is_honest g.D.SectorDisk.history g.D.SectorDisk.size l.initial.self image read → (all : Frames) × HasRead g.D.SectorDisk.is_honest g.D.SectorDisk.history g.D.SectorDisk.size l.self image all;
  time : g.D.SectorDisk.is_honest (disk_under l.initial.self) ≡ true → Stays (g.D.SectorDisk.history (disk_under l.initial.self)) (g.D.SectorDisk.history (disk_under l.self));
  same_failures : g.D.SectorDisk.failures (disk_under l.self) ≡ g.D.SectorDisk.failures (disk_under l.initial.self);
  same_size : g.D.SectorDisk.size (disk_under l.self) ≡ g.D.SectorDisk.size (disk_under l.initial.self);
  same_honesty : g.D.SectorDisk.is_honest (disk_under l.self) ≡ g.D.SectorDisk.is_honest (disk_under l.initial.self);
}

abbrev pub decreases-loop : goal.decreases-loop
decreases-loop g l = left_to_read l.self
