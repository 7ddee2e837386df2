-- The meaning of each fault of a store.
use Rattle.std.specs.Prelude.{◌≡◌, ◌⊎◌, ℕ, Bool, true, false, Option, Some, None, Result, Ok, Err}
use Rattle.cg_disk.specs.Disk.{Image}
use Rattle.cg_fold.specs.Durable.{State}
use Rattle.cg_log.specs.Carried.{Carries as LogCarries}
use Rattle.cg_log.specs.Faults.{HasBadFrame}
use Rattle.cg_log.specs.Segments.{Frames}
use Rattle.cg_log.specs.declared.fault.LogFault.{LogFault}
use Rattle.cg_log.specs.declared.fault.LogFault.TheVariants as log_fault
use Rattle.cg_root.specs.Roots.{HasNoRoot, HasBadRoot}
use Rattle.cg_store.specs.Carried.{Carries}
use Rattle.cg_store.specs.declared.fault.OpenFault.{OpenFault}
use Rattle.cg_store.specs.declared.fault.OpenFault.TheVariants as open_fault
use Rattle.cg_store.specs.declared.fault.StoreFault.{StoreFault}
use Rattle.cg_store.specs.declared.fault.StoreFault.TheVariants as store_fault

-- the image carries a log, whatever its payloads encode
pub record HasLog (image : Image) (sectors : ℕ) : Type 0 where
  pub number : ℕ
  pub base : Frames
  pub tail : Frames
  pub log : LogCarries image sectors number base tail

-- the log of an image is sound, and the image carries nothing: the payload of some frame cannot be decoded, or has another
-- number of commands than the frame counts
pub record HasBadRecord (image : Image) (sectors : ℕ) : Type 0 where
  pub has : HasLog image sectors
  pub none : (n : ℕ) (state : State) → ¬ Carries image sectors n state

-- what a fault says of an image
abbrev pub Tells : Image → ℕ → OpenFault → Type 0
Tells image sectors open_fault.Memory = Unit {0}
Tells image sectors open_fault.Device = Unit {0}
Tells image sectors open_fault.NoRoot = HasNoRoot image sectors
Tells image sectors open_fault.BadRoot = HasBadRoot image sectors
Tells image sectors open_fault.BadFrame = HasBadFrame image sectors
Tells image sectors open_fault.BadRecord = HasBadRecord image sectors

-- the fault of an opening for that of its log; an opening of a log reports neither Full nor Failed
abbrev pub of_log : LogFault → OpenFault
of_log log_fault.Memory = open_fault.Memory
of_log log_fault.Device = open_fault.Device
of_log log_fault.Full = open_fault.NoRoot
of_log log_fault.BadRoot = open_fault.BadRoot
of_log log_fault.BadFrame = open_fault.BadFrame
of_log log_fault.NoRoot = open_fault.NoRoot
of_log log_fault.Failed = open_fault.NoRoot

-- the fault of an opening is one of the disk
abbrev pub is_loading_failure : OpenFault → Bool
is_loading_failure open_fault.Memory = false
is_loading_failure open_fault.Device = true
is_loading_failure open_fault.NoRoot = false
is_loading_failure open_fault.BadRoot = false
is_loading_failure open_fault.BadFrame = false
is_loading_failure open_fault.BadRecord = false

-- an opening failed because of the disk
abbrev pub failed_opening : {T D : Type 0} → Result T (OpenFault × D) → Bool
failed_opening (Ok x) = false
failed_opening (Err refused) = is_loading_failure refused.0

-- the fault of an append is one of the disk
abbrev pub is_append_failure : StoreFault → Bool
is_append_failure store_fault.Memory = false
is_append_failure store_fault.Device = true
is_append_failure store_fault.Full = false
is_append_failure store_fault.OutOfOrder = false
is_append_failure store_fault.Failed = false

-- an append failed because of the disk
abbrev pub failed_put : {T : Type 0} → Result T StoreFault → Bool
failed_put (Ok x) = false
failed_put (Err fault) = is_append_failure fault

-- the same where the refused batch is returned with the fault
abbrev pub failed_append : {T B : Type 0} → Result T (StoreFault × B) → Bool
failed_append (Ok x) = false
failed_append (Err refused) = is_append_failure refused.0

-- the reported fault: the refusal if there is one, otherwise an allocation failure or a disk failure
abbrev pub IsToldOf : Option StoreFault → StoreFault → Type 0
IsToldOf (Some refusal) fault = fault ≡ refusal
IsToldOf None fault = (fault ≡ store_fault.Memory) ⊎ (fault ≡ store_fault.Device)
