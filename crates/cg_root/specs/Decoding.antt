-- What bytes say, read as the body of a root.
use Rattle.std.specs.Prelude.{◌≡◌, ℕ, false, ◌+◌, ◌*◌, ◌^◌, ◌<◌, ◌≤◌, List, [], ◌∷◌, take, drop, Result, Ok, Err, nat_lt, ◌==◌, if◌then◌else◌}
use Rattle.std.specs.Int.{Width, w16, w32, w64, byte_len, from_be_bytes}
use Rattle.std.specs.List.{list_any}
use Rattle.cg_disk.specs.declared.disk.TheConstants.{SECTOR_BYTES}
use Rattle.cg_disk.specs.Disk.{Image}
use Rattle.cg_gate.specs.Gates.{IsClosed}
use Rattle.cg_gate.specs.Layout.{segment_count}
use Rattle.cg_root.specs.Slots.{gate_of}
use Rattle.cg_root.specs.Roots.{AreSegments, IsBroken, RootAt}
use Rattle.cg_root.specs.declared.root_decoder.Head.{Head}
use Rattle.cg_root.specs.declared.fault.RootFault.{RootFault}
use Rattle.cg_root.specs.declared.fault.RootFault.TheVariants.{NoRoot, BadRoot}
use Rattle.cg_root.specs.declared.root.Root.{Root}
use Rattle.cg_root.specs.declared.slot.Slot.{Slot}
use Rattle.cg_root.specs.declared.slot.Slot.TheVariants.{Zero, One}
use Rattle.cg_root.specs.declared.slot_state.SlotState.{SlotState}
use Rattle.cg_root.specs.declared.slot_state.SlotState.TheVariants.{Closed, Broken, Stored}

-- the number at an offset
unfoldable pub number_at : Width → ℕ → List ℕ → ℕ
number_at w at bytes = from_be_bytes w (take (byte_len w) (drop at bytes))

-- what a body says before its ids
abbrev pub head_in : List ℕ → Head
head_in body = record {
  version = number_at w32 0 body;
  epoch = number_at w64 4 body;
  base_number = number_at w64 12 body;
  base = number_at w16 20 body;
  tail = number_at w16 22 body;
}

-- ids of two bytes each
abbrev pub ids_in : List ℕ → List ℕ
ids_in [] = []
ids_in (x ∷ []) = []
ids_in (x ∷ y ∷ rest) = from_be_bytes w16 (x ∷ y ∷ []) ∷ ids_in rest

-- the id of a segment, where there are n, that is none of these
pub record IsApart (n id : ℕ) (ids : List ℕ) : Type 0 where
  pub below : id < n
  pub none : list_any (λ other. id == other) ids ≡ false

-- the root that a body in this slot encodes
abbrev pub root_in : Slot → List ℕ → Root
root_in slot body = record {
  slot = slot;
  epoch = (head_in body).epoch;
  base_number = (head_in body).base_number;
  base = ids_in (take (2 * (head_in body).base) (drop 24 body));
  tail = ids_in (take (2 * (head_in body).tail) (drop (24 + 2 * (head_in body).base) body));
}

-- the rules that a body obeys before its ids
pub record IsLawfulHead (head : Head) : Type 0 where
  pub version : head.version ≡ 1
  pub epoch_from : 1 ≤ head.epoch
  pub epoch_to : head.epoch < 2 ^ 63
  pub base_number : head.base_number < 2 ^ 63
  pub tail : 1 ≤ head.tail
  pub fits : 24 + 2 * (head.base + head.tail) ≤ SECTOR_BYTES

-- the body of a root
pub record IsRootBody (sectors : ℕ) (body : List ℕ) : Type 0 where
  pub head : IsLawfulHead (head_in body)
  pub ids : AreSegments (segment_count sectors) (ids_in (take (2 * ((head_in body).base + (head_in body).tail)) (drop 24 body)))

-- what a slot holds
abbrev pub IsState : Image → ℕ → Slot → SlotState → Type 0
IsState image sectors slot Closed = IsClosed image (gate_of slot)
IsState image sectors slot Broken = IsBroken image sectors slot
IsState image sectors slot (Stored epoch) =
    RootAt image sectors (root_in slot (image (gate_of slot + 1))) × IsRootBody sectors (image (gate_of slot + 1)) × ((head_in (image (gate_of slot + 1))).epoch ≡ epoch)

-- the slot of the greater epoch
abbrev pub greater_epoch : ℕ → ℕ → Result Slot RootFault
greater_epoch zero_epoch one_epoch = if zero_epoch == one_epoch then Err BadRoot else if nat_lt zero_epoch one_epoch then Ok One else Ok Zero

-- the slot of the root that counts
abbrev pub counting_slot : SlotState → SlotState → Result Slot RootFault
counting_slot Closed Closed = Err NoRoot
counting_slot Closed Broken = Err BadRoot
counting_slot Closed (Stored epoch) = Ok One
counting_slot Broken one = Err BadRoot
counting_slot (Stored epoch) Closed = Ok Zero
counting_slot (Stored epoch) Broken = Err BadRoot
counting_slot (Stored zero_epoch) (Stored one_epoch) = greater_epoch zero_epoch one_epoch
