-- The disk of a script.
use Rattle.std.specs.Prelude.{◌≡◌, ℕ, ◌+◌, ◌*◌, Option}
use Rattle.cg_disk.specs.Disk.{Moment, present}
use Rattle.cg_disk.specs.Fuse.{fuse_of}
use Rattle.cg_disk.specs.Injected.{below_both, once_within}
use Rattle.cg_disk.specs.Mem.{mem_history, mem_size}
use Rattle.cg_disk.specs.declared.fuse.FuseDisk.{FuseDisk}
use Rattle.cg_disk.specs.declared.mem.MemDisk.{MemDisk}
use Rattle.cg_disk.specs.declared.once.OnceDisk.{OnceDisk}
use Rattle.cg_gate.specs.declared.layout.TheConstants.{FIRST_SEGMENT_SECTOR, SEGMENT_SECTORS}

-- the sectors of the root slots and of this many segments
abbrev pub disk_sectors : ℕ → ℕ
disk_sectors segments = FIRST_SEGMENT_SECTOR + SEGMENT_SECTORS * segments

-- a disk in memory with both fault injections
abbrev pub ScriptDisk : Type 0
ScriptDisk = FuseDisk (OnceDisk MemDisk)

abbrev pub sectors_of : ScriptDisk → ℕ
sectors_of disk = mem_size (below_both disk)

-- what a disk in memory holds now
abbrev pub moment_of : MemDisk → Moment
moment_of disk = present (mem_history disk)

-- the disk has these fault injections, and is the same below them
pub record IsInjected (fuse once : Option ℕ) (old new : ScriptDisk) : Type 0 where
  pub has_fuse : fuse_of new ≡ fuse
  pub has_once : once_within new ≡ once
  pub below : below_both new ≡ below_both old
