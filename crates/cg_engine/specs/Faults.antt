-- The faults of a loading.
use Rattle.cg_store.specs.declared.fault.OpenFault.{OpenFault}
use Rattle.cg_store.specs.declared.fault.OpenFault.TheVariants as opening
use Rattle.cg_engine.specs.declared.fault.LoadFault.{LoadFault}
use Rattle.cg_engine.specs.declared.fault.LoadFault.TheVariants.{Memory, Device, NoRoot, BadRoot, BadFrame, BadRecord}

abbrev pub of_opening : OpenFault → LoadFault
of_opening opening.Memory = Memory
of_opening opening.Device = Device
of_opening opening.NoRoot = NoRoot
of_opening opening.BadRoot = BadRoot
of_opening opening.BadFrame = BadFrame
of_opening opening.BadRecord = BadRecord
