-- Where segments lie on a disk.
use Rattle.std.specs.Prelude.{ℕ, ◌+◌, ◌-◌, ◌*◌, ◌/◌, min}
use Rattle.cg_gate.specs.declared.layout.TheConstants.{FIRST_SEGMENT_SECTOR, SEGMENTS_MAX, SEGMENT_SECTORS}

-- how many segments a disk of that many sectors has
unfoldable pub segment_count : ℕ → ℕ
segment_count sectors = min SEGMENTS_MAX ((sectors - FIRST_SEGMENT_SECTOR) / SEGMENT_SECTORS)

-- the first sector of segment i
abbrev pub first_sector : ℕ → ℕ
first_sector i = FIRST_SEGMENT_SECTOR + SEGMENT_SECTORS * i
