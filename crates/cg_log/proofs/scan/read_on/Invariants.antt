use Rattle.std.proofs.Common.{◌≡◌, ℕ, ◌+◌, ◌*◌, ◌-◌, ◌≤◌, ◌<◌, true, length}
use Rattle.cg_disk.specs.Disk.{Image, Stays, present}
use Rattle.cg_frame.specs.Heads.{HasContent}
use Rattle.cg_frame.specs.Reader.{IsBuffered, position_of, segment_read}
use Rattle.cg_gate.specs.declared.layout.TheConstants.{SEGMENT_SECTORS}
use Rattle.cg_root.specs.Roots.{root_ids}
use Rattle.cg_log.specs.ReadTo.{IsReadTo, id_at}
use Rattle.cg_log.specs.Segments.{Frames, segment_of}
use Rattle.cg_log.proofs.scan.read_on.Given as goal

abbrev pub invariant-loop-index : goal.invariant-loop-index
invariant-loop-index g l = record {
  progress : g.D.SectorDisk.is_honest l.initial.disk ≡ true → (image : Image) (number : ℕ) (read : Frames) → HasContent (present (g.D.SectorDisk.history l.initial.disk)) image → IsBuffered image l.initial.reader → IsReadTo image l.root l.initial.index (position_of l.initial.reader) number read → IsReadTo image l.root l.index (position_of l.reader) number read;
  buffered : g.D.SectorDisk.is_honest l.initial.disk ≡ true → (image : Image) → HasContent (present (g.D.SectorDisk.history l.initial.disk)) image → IsBuffered image l.initial.reader → IsBuffered image l.reader;
  time : g.D.SectorDisk.is_honest l.initial.disk ≡ true → Stays (g.D.SectorDisk.history l.initial.disk) (g.D.SectorDisk.history l.disk);
  same_failures : g.D.SectorDisk.failures l.disk ≡ g.D.SectorDisk.failures l.initial.disk;
  same_size : g.D.SectorDisk.size l.disk ≡ g.D.SectorDisk.size l.initial.disk;
  same_honesty : g.D.SectorDisk.is_honest l.disk ≡ g.D.SectorDisk.is_honest l.initial.disk;
  inside : l.index < length (root_ids l.root);
  at : segment_read l.reader ≡ segment_of (id_at l.root l.index);
  moves : SEGMENT_SECTORS * l.initial.index + position_of l.initial.reader ≤ SEGMENT_SECTORS * l.index + position_of l.reader;
}

abbrev pub decreases-loop-index : goal.decreases-loop-index
decreases-loop-index g l = l.last - l.index
