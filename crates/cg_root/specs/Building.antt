-- A sector that is filled from its first byte on.
use Rattle.std.specs.Prelude.{◌≡◌, ℕ, ◌≤◌, List, length, slice_index}
use Rattle.cg_disk.specs.declared.disk.TheConstants.{SECTOR_BYTES}

-- a sector whose bytes from `used` on are zeros
pub record IsBuilt (sector : List ℕ) (used : ℕ) : Type 0 where
  pub long : length sector ≡ SECTOR_BYTES
  pub fits : used ≤ SECTOR_BYTES
  pub zeros : (i : ℕ) → used ≤ i → slice_index sector i ≡ 0
