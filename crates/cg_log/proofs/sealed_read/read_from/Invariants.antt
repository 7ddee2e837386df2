use Rattle.std.proofs.Common.{◌≡◌, ◌<◌, ◌++◌, List, true}
use Rattle.cg_disk.specs.Disk.{Stays, present}
use Rattle.cg_gate.specs.declared.layout.TheConstants.{SEGMENT_SECTORS}
use Rattle.cg_log.specs.Cursors.{IsAfter, IsAt}
use Rattle.cg_log.specs.Segments.{Filled, Frames, ids_of, AreStored}
use Rattle.cg_log.proofs.sealed_read.read_from.Given as goal

abbrev pub invariant-loop-index : goal.invariant-loop-index
invariant-loop-index g l = record {
  progress : g.D.SectorDisk.is_honest l.initial.disk ≡ true → (segments : List Filled) (read : Frames) → l.base ++ l.tail ≡ ids_of segments → AreStored (present (g.D.SectorDisk.history l.initial.disk)).content segments → IsAt segments l.fn.cursor read → IsAfter segments l.index l.pos read;
  time : g.D.SectorDisk.is_honest l.initial.disk ≡ true → Stays (g.D.SectorDisk.history l.initial.disk) (g.D.SectorDisk.history l.disk);
  same_failures : g.D.SectorDisk.failures l.disk ≡ g.D.SectorDisk.failures l.initial.disk;
  same_size : g.D.SectorDisk.size l.disk ≡ g.D.SectorDisk.size l.initial.disk;
  same_honesty : g.D.SectorDisk.is_honest l.disk ≡ g.D.SectorDisk.is_honest l.initial.disk;
  inside : l.pos < SEGMENT_SECTORS;
}
