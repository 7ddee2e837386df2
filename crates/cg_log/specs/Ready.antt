-- What every crash image of an open log has, on which the next append and the next root rest.
use Rattle.std.specs.Prelude.{◌≡◌, ℕ, ◌+◌, ◌-◌, Bool, true, false, List, length, slice_index}
use Rattle.cg_disk.specs.Disk.{Image, Moment, IsImage}
use Rattle.cg_gate.specs.Gates.{IsOpen, IsClosed}
use Rattle.cg_gate.specs.Layout.{first_sector}
use Rattle.cg_root.specs.Roots.{KeepsRoot}
use Rattle.cg_root.specs.Slots.{gate_of, other_slot}
use Rattle.cg_root.specs.declared.root.Root.{Root}

-- the last of these ids
abbrev pub last_id : List ℕ → ℕ
last_id ids = slice_index ids (length ids - 1)

-- every crash image of a moment has a closed gate there
abbrev pub AllClosed : Moment → ℕ → Type 0
AllClosed m gate = (image : Image) → IsImage m image → IsClosed image gate

-- every crash image of a moment has an open gate there
abbrev pub AllOpen : Moment → ℕ → Type 0
AllOpen m gate = (image : Image) → IsImage m image → IsOpen image gate

-- the root counts, the gate that the next frame opens is closed, and the other root's gate is as it is known to be
pub record IsReady (m : Moment) (sectors : ℕ) (root : Root) (end : ℕ) (is_other_open : Bool) : Type 0 where
  pub root_counts : KeepsRoot m sectors root
  pub closed : AllClosed m (first_sector (last_id root.tail) + end)
  pub other_open : is_other_open ≡ true → AllOpen m (gate_of (other_slot root.slot))
  pub other_closed : is_other_open ≡ false → AllClosed m (gate_of (other_slot root.slot))
