-- The model of a disk in a file.
use Rattle.std.specs.Prelude.{ℕ}
use Rattle.cg_disk.specs.declared.file.FileDisk.{FileDisk}

-- the number of sectors
abbrev pub file_size : {F : Type 0} → FileDisk F → ℕ
file_size disk = disk.sectors

-- the number of failed calls
abbrev pub file_failures : {F : Type 0} → FileDisk F → ℕ
file_failures disk = disk.failures
