-- Bytes that a script puts on the disk.
use Rattle.std.specs.Prelude.{◌≡◌, ℕ, ◌-◌, ◌==◌, nat_lt, Bool, List, ◌++◌, length, replicate, if◌then◌else◌}
use Rattle.std.specs.List.{fold, list_all}
use Rattle.cg_disk.specs.Disk.{Image, IsSynced, Moment}
use Rattle.cg_disk.specs.declared.disk.TheConstants.{SECTOR_BYTES}
use Rattle.cg_sim.specs.declared.poke.Poke.{Poke}

-- a sector with these bytes, and zeros after them
unfoldable pub filled : List ℕ → List ℕ
filled bytes = bytes ++ replicate (SECTOR_BYTES - length bytes) 0

abbrev pub sector_of : Poke → ℕ
sector_of p = p.sector

abbrev pub content_of : Poke → List ℕ
content_of p = p.content.items

-- the content of a disk after a poke
abbrev pub poked : Image → Poke → Image
poked image p s = if s == sector_of p then content_of p else image s

-- the content of a disk after pokes, in their order
abbrev pub poked_by : List Poke → Image → Image
poked_by pokes image = fold poked image pokes

-- a disk has the content that the pokes make of an image, and is synced
pub record IsPoked (pokes : List Poke) (image : Image) (now : Moment) : Type 0 where
  pub content : (s : ℕ) → now.content s ≡ poked_by pokes image s
  pub synced : IsSynced now

-- every poke is in range of a disk with this many sectors
abbrev pub are_within : ℕ → List Poke → Bool
are_within sectors = list_all (λ p. nat_lt (sector_of p) sectors)
