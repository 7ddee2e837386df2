use Rattle.std.proofs.Common.{◌≡◌, [], true}
use Rattle.cg_disk.specs.Disk.{Image, Stays}
use Rattle.cg_log.specs.Openings.{HasRead as HasReadTo, disk_under, left_to_read}
use Rattle.cg_log.specs.Segments.{Frames}
use Rattle.cg_store.specs.Loading.{HasRead}
use Rattle.cg_store.proofs.recovery.read_frames.Given as goal

abbrev pub invariant-loop-spent : goal.invariant-loop-spent
invariant-loop-spent g l = record {
  read : (image : Image) → HasReadTo g.D.SectorDisk.is_honest g.D.SectorDisk.history g.D.SectorDisk.size l.initial.opening image []
      → (frames : Frames) × (HasReadTo g.D.SectorDisk.is_honest g.D.SectorDisk.history g.D.SectorDisk.size l.opening image frames × HasRead frames l.loading);
  some : (frames : Frames) × HasRead frames l.loading;
  time : g.D.SectorDisk.is_honest (disk_under l.initial.opening) ≡ true → Stays (g.D.SectorDisk.history (disk_under l.initial.opening)) (g.D.SectorDisk.history (disk_under l.opening));
  same_failures : g.D.SectorDisk.failures (disk_under l.opening) ≡ g.D.SectorDisk.failures (disk_under l.initial.opening);
  same_size : g.D.SectorDisk.size (disk_under l.opening) ≡ g.D.SectorDisk.size (disk_under l.initial.opening);
  same_honesty : g.D.SectorDisk.is_honest (disk_under l.opening) ≡ g.D.SectorDisk.is_honest (disk_under l.initial.opening);
}

abbrev pub decreases-loop-spent : goal.decreases-loop-spent
decreases-loop-spent g l = left_to_read l.opening
