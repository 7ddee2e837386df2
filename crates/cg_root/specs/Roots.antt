-- Roots: their bytes, where one is stored, and which one of a disk counts.
use Rattle.std.specs.Prelude.{◌≡◌, ◌⊎◌, ℕ, ◌+◌, ◌^◌, ◌<◌, ◌≤◌, List, ◌++◌, length, take, IsTrue, nat_eq, nat_lt}
use Rattle.std.specs.List.{flat_map, list_all, IsDistinct}
use Rattle.std.specs.Int.{to_be_bytes, w16, w32, w64}
use Rattle.cg_disk.specs.Disk.{Image, Moment, AllBut, IsImage}
use Rattle.cg_gate.specs.Gates.{IsOpen, IsClosed}
use Rattle.cg_gate.specs.Layout.{segment_count}
use Rattle.cg_root.specs.Slots.{gate_of, other_slot}
use Rattle.cg_root.specs.declared.root.Root.{Root}
use Rattle.cg_root.specs.declared.slot.Slot.{Slot}
use Rattle.cg_root.specs.declared.slot.Slot.TheVariants.{Zero, One}

-- a number in 2, in 4 and in 8 bytes, the highest first
unfoldable pub two_bytes : ℕ → List ℕ
two_bytes n = to_be_bytes w16 n

unfoldable pub four_bytes : ℕ → List ℕ
four_bytes n = to_be_bytes w32 n

unfoldable pub eight_bytes : ℕ → List ℕ
eight_bytes n = to_be_bytes w64 n

-- the ids that a root names, those of the base first
abbrev pub root_ids : Root → List ℕ
root_ids root = root.base ++ root.tail

-- a body up to its ids: the version, the epoch, the base number, and the numbers of base and tail segments
abbrev pub root_head : ℕ → ℕ → ℕ → ℕ → ℕ → List ℕ
root_head version epoch base_number base tail =
    four_bytes version ++ eight_bytes epoch ++ eight_bytes base_number ++ two_bytes base ++ two_bytes tail

-- the bytes of a root's body
abbrev pub root_body : Root → List ℕ
root_body root =
    root_head 1 root.epoch root.base_number (length root.base) (length root.tail) ++ flat_map two_bytes (root_ids root)

-- these are ids of segments, where there are n, and no two are equal
pub record AreSegments (n : ℕ) (ids : List ℕ) : Type 0 where
  pub distinct : IsDistinct nat_eq ids
  pub below : IsTrue (list_all (λ id. nat_lt id n) ids)

-- the rules of a root on a disk of that many sectors
pub record IsLawful (sectors : ℕ) (root : Root) : Type 0 where
  pub epoch_from : 1 ≤ root.epoch
  pub epoch_to : root.epoch < 2 ^ 63
  pub base_number : root.base_number < 2 ^ 63
  pub tail : 1 ≤ length root.tail
  pub ids : AreSegments (segment_count sectors) (root_ids root)

-- these bytes begin with the body of a lawful root
pub record HasBody (sectors : ℕ) (bytes : List ℕ) (root : Root) : Type 0 where
  pub body_is : take (length (root_body root)) bytes ≡ root_body root
  pub lawful : IsLawful sectors root

-- a root is stored in its slot
pub record RootAt (image : Image) (sectors : ℕ) (root : Root) : Type 0 where
  pub is_open : IsOpen image (gate_of root.slot)
  pub body : HasBody sectors (image (gate_of root.slot + 1)) root

-- a root of a lesser epoch is stored in the other slot
pub record HasOlder (image : Image) (sectors : ℕ) (root : Root) : Type 0 where
  pub older : Root
  pub slot : older.slot ≡ other_slot root.slot
  pub stored : RootAt image sectors older
  pub epoch : older.epoch < root.epoch

-- the other slot's gate is closed, or an older root is stored in it
abbrev pub IsNewest : Image → ℕ → Root → Type 0
IsNewest image sectors root = IsClosed image (gate_of (other_slot root.slot)) ⊎ HasOlder image sectors root

-- the root that counts: the one with the greatest epoch behind an open gate
pub record CountingRoot (image : Image) (sectors : ℕ) (root : Root) : Type 0 where
  pub room : 4 ≤ sectors
  pub stored : RootAt image sectors root
  pub newest : IsNewest image sectors root

-- no root: the slots are not on the disk, or both gates are closed
abbrev pub HasNoRoot : Image → ℕ → Type 0
HasNoRoot image sectors = (sectors < 4) ⊎ (IsClosed image (gate_of Zero) × IsClosed image (gate_of One))

-- the gate of a slot is open, and no root is stored there
pub record IsBroken (image : Image) (sectors : ℕ) (slot : Slot) : Type 0 where
  pub is_open : IsOpen image (gate_of slot)
  pub none : (root : Root) → root.slot ≡ slot → RootAt image sectors root → ⊥

-- roots of one epoch are stored in both slots
pub record HaveOneEpoch (image : Image) (sectors : ℕ) : Type 0 where
  pub zero_root : Root
  pub one_root : Root
  pub zero_slot : zero_root.slot ≡ Zero
  pub one_slot : one_root.slot ≡ One
  pub zero_stored : RootAt image sectors zero_root
  pub one_stored : RootAt image sectors one_root
  pub one_epoch : zero_root.epoch ≡ one_root.epoch

-- a bad root: an open gate before a body that breaks a rule, or two open gates with equal epochs
pub record HasBadRoot (image : Image) (sectors : ℕ) : Type 0 where
  pub room : 4 ≤ sectors
  pub bad : (IsBroken image sectors Zero ⊎ IsBroken image sectors One) ⊎ HaveOneEpoch image sectors

-- whatever a crash at m leaves has this counting root
abbrev pub KeepsRoot : Moment → ℕ → Root → Type 0
KeepsRoot m sectors root = (image : Image) → IsImage m image → CountingRoot image sectors root

-- what a crash may leave of a disk at m while a root is published: all else as it was, and a closed gate or the root
pub record Published (m : Moment) (sectors : ℕ) (root : Root) (image : Image) : Type 0 where
  pub elsewhere : AllBut (gate_of root.slot) 2 m image
  pub outcome : IsClosed image (gate_of root.slot) ⊎ RootAt image sectors root

-- the old root counts, or the new one
abbrev pub IsOldOrNew : ℕ → Root → Root → Image → Type 0
IsOldOrNew sectors old new image = CountingRoot image sectors old ⊎ CountingRoot image sectors new
