-- The faults of a log that stand for those of a root and of a frame.
use Rattle.cg_frame.specs.declared.fault.ScanFault.{ScanFault}
use Rattle.cg_frame.specs.declared.fault.ScanFault.TheVariants as scan_fault
use Rattle.cg_root.specs.declared.fault.RootFault.{RootFault}
use Rattle.cg_root.specs.declared.fault.RootFault.TheVariants as root_fault
use Rattle.cg_log.specs.declared.fault.LogFault.{LogFault}
use Rattle.cg_log.specs.declared.fault.LogFault.TheVariants as log_fault

abbrev pub of_root : RootFault → LogFault
of_root root_fault.Memory = log_fault.Memory
of_root root_fault.Device = log_fault.Device
of_root root_fault.NoRoot = log_fault.NoRoot
of_root root_fault.BadRoot = log_fault.BadRoot

abbrev pub of_scan : ScanFault → LogFault
of_scan scan_fault.Memory = log_fault.Memory
of_scan scan_fault.Device = log_fault.Device
of_scan scan_fault.BadLength = log_fault.BadFrame
