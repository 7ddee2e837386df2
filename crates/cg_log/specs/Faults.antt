-- The meaning of each fault of a log.
use Rattle.std.specs.Prelude.{◌≡◌, ◌⊎◌, ℕ, Bool, true, false, Result, Ok, Err}
use Rattle.cg_disk.specs.Disk.{Image}
use Rattle.cg_root.specs.Roots.{CountingRoot, HasNoRoot, HasBadRoot}
use Rattle.cg_root.specs.declared.root.Root.{Root}
use Rattle.cg_log.specs.Carried.{Carries}
use Rattle.cg_log.specs.Segments.{Frames}
use Rattle.cg_log.specs.declared.fault.LogFault.{LogFault}
use Rattle.cg_log.specs.declared.fault.LogFault.TheVariants as log_fault

-- an image has a root that counts, and carries nothing: a segment of the root is damaged, or the commands pass the last number
pub record HasBadFrame (image : Image) (sectors : ℕ) : Type 0 where
  pub root : Root
  pub counting : CountingRoot image sectors root
  pub none : (n : ℕ) (base tail : Frames) → ¬ Carries image sectors n base tail

-- what the fault of an opening says of an image
abbrev pub Tells : Image → ℕ → LogFault → Type 0
Tells image sectors log_fault.Memory = Unit {0}
Tells image sectors log_fault.Device = Unit {0}
Tells image sectors log_fault.Full = ⊥
Tells image sectors log_fault.BadRoot = HasBadRoot image sectors
Tells image sectors log_fault.BadFrame = HasBadFrame image sectors
Tells image sectors log_fault.NoRoot = HasNoRoot image sectors
Tells image sectors log_fault.Failed = ⊥

-- the fault is that of the device
abbrev pub is_device : LogFault → Bool
is_device log_fault.Memory = false
is_device log_fault.Device = true
is_device log_fault.Full = false
is_device log_fault.BadRoot = false
is_device log_fault.BadFrame = false
is_device log_fault.NoRoot = false
is_device log_fault.Failed = false

-- a call failed because of the device
abbrev pub is_device_failure : {T : Type 0} → Result T LogFault → Bool
is_device_failure (Ok x) = false
is_device_failure (Err fault) = is_device fault

-- an opening failed by the device
abbrev pub is_opening_failure : {T D : Type 0} → Result T (LogFault × D) → Bool
is_opening_failure (Ok x) = false
is_opening_failure (Err refused) = is_device refused.0

-- an allocation or the device failed
abbrev pub IsOutOfReach : LogFault → Type 0
IsOutOfReach fault = (fault ≡ log_fault.Memory) ⊎ (fault ≡ log_fault.Device)

-- nothing else than a bad frame, an allocation or the device
abbrev pub IsReadingFault : LogFault → Type 0
IsReadingFault fault = (fault ≡ log_fault.BadFrame) ⊎ ((fault ≡ log_fault.Memory) ⊎ (fault ≡ log_fault.Device))

-- a refusal that leaves the log as it was, or a failure of the device
abbrev pub IsWritingFault : LogFault → Type 0
IsWritingFault fault = (fault ≡ log_fault.Full) ⊎ ((fault ≡ log_fault.Memory) ⊎ (fault ≡ log_fault.Device))
