-- What a failed reading reports.
use Rattle.std.specs.Prelude.{Bool, true, false, Result, Ok, Err}
use Rattle.cg_root.specs.declared.fault.RootFault.{RootFault}
use Rattle.cg_root.specs.declared.fault.RootFault.TheVariants.{Memory, Device, NoRoot, BadRoot}

-- a reading failed by the device
abbrev pub is_device_failure : {T : Type 0} → Result T RootFault → Bool
is_device_failure (Ok x) = false
is_device_failure (Err Memory) = false
is_device_failure (Err Device) = true
is_device_failure (Err NoRoot) = false
is_device_failure (Err BadRoot) = false
