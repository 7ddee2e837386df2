-- Gates, and the sectors after a gate that count once it is open.
use Rattle.std.specs.Prelude.{◌≡◌, ◌≢◌, ◌⊎◌, ℕ, ◌+◌, ◌≤◌, List, length, slice_index}
use Rattle.cg_disk.specs.declared.disk.TheConstants.{SECTOR_BYTES}
use Rattle.cg_disk.specs.Disk.{Image, Moment, AllBut, Holds}

-- a gate is open where its first byte is 1
abbrev pub IsOpen : Image → ℕ → Type 0
IsOpen image s = slice_index (image s) 0 ≡ 1

abbrev pub IsClosed : Image → ℕ → Type 0
IsClosed image s = slice_index (image s) 0 ≢ 1

-- the sector that is written to open a gate: a 1 and 511 zeros
pub record IsOpenGate (bytes : List ℕ) : Type 0 where
  pub long : length bytes ≡ SECTOR_BYTES
  pub first : slice_index bytes 0 ≡ 1
  pub zeros : (i : ℕ) → 1 ≤ i → slice_index bytes i ≡ 0

-- the sector that is written to close a gate: 512 zeros
pub record IsClosedGate (bytes : List ℕ) : Type 0 where
  pub long : length bytes ≡ SECTOR_BYTES
  pub zeros : (i : ℕ) → slice_index bytes i ≡ 0

-- the gate is open, and the n sectors after it have these bytes
pub record IsGuarded (image : Image) (gate n : ℕ) (sectors : List ℕ) : Type 0 where
  pub is_open : IsOpen image gate
  pub holds : Holds image (gate + 1) n sectors

-- what a crash may leave of a disk at m during a guarded write: all else as it was, and a closed gate or the sectors
pub record GuardedWrite (m : Moment) (gate n : ℕ) (sectors : List ℕ) (image : Image) : Type 0 where
  pub elsewhere : AllBut gate (n + 1) m image
  pub outcome : IsClosed image gate ⊎ IsGuarded image gate n sectors
