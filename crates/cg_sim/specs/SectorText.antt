-- The bytes of a poke, as text.
use Rattle.std.specs.Prelude.{ℕ, List, Option, Some, None, if◌then◌else◌}
use Rattle.cg_disk.specs.declared.disk.TheConstants.{SECTOR_BYTES}
use Rattle.cg_line.specs.Fields.{is_opaque}

-- the bytes of a word, if it has at most a sector of them
unfoldable pub sector_text_of : List ℕ → Option (List ℕ)
sector_text_of word = if is_opaque SECTOR_BYTES word then Some word else None
