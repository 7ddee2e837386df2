-- The model of a disk in memory.
use Rattle.std.specs.Prelude.{ℕ, ◌/◌, length}
use Rattle.cg_disk.specs.declared.disk.TheConstants.{SECTOR_BYTES}
use Rattle.cg_disk.specs.Disk.{History}
use Rattle.cg_disk.specs.Record.{recorded}
use Rattle.cg_disk.specs.declared.mem.MemDisk.{MemDisk}

-- the number of sectors
abbrev pub mem_size : MemDisk → ℕ
mem_size disk = length disk.bytes.items / SECTOR_BYTES

-- the moments, from the record of calls
unfoldable pub mem_history : MemDisk → History
mem_history disk = recorded disk.bytes.items disk.calls.items

-- the number of failed calls
abbrev pub mem_failures : MemDisk → ℕ
mem_failures disk = disk.failures
