-- What a loading finds, and what its faults say.
use Rattle.std.specs.Prelude.{◌≡◌, ◌⊎◌, ℕ}
use Rattle.cg_disk.specs.Disk.{Image}
use Rattle.cg_fold.specs.Durable.{State, counts_of}
use Rattle.cg_log.specs.Faults.{HasBadFrame}
use Rattle.cg_root.specs.Roots.{HasNoRoot, HasBadRoot}
use Rattle.cg_store.specs.Carried.{Carries}
use Rattle.cg_store.specs.Faults.{HasBadRecord}
use Rattle.cg_engine.specs.declared.fault.LoadFault.{LoadFault}
use Rattle.cg_engine.specs.declared.fault.LoadFault.TheVariants.{Memory, Device, NoRoot, BadRoot, BadFrame, BadRecord, Loaded}

-- the numbers of commands, group records and offsets
abbrev pub found : ℕ → State → ℕ × ℕ × ℕ
found n state = (n, (counts_of state).0, (counts_of state).1)

-- the content carries a state with these numbers
abbrev pub IsFound : Image → ℕ → ℕ × ℕ × ℕ → Type 0
IsFound content sectors numbers = (n : ℕ) × (state : State) × (Carries content sectors n state × (numbers ≡ found n state))

-- what a fault says of the content of the disk
abbrev pub Tells : Image → ℕ → LoadFault → Type 0
Tells image sectors Memory = Unit {0}
Tells image sectors Device = Unit {0}
Tells image sectors NoRoot = HasNoRoot image sectors
Tells image sectors BadRoot = HasBadRoot image sectors
Tells image sectors BadFrame = HasBadFrame image sectors
Tells image sectors BadRecord = HasBadRecord image sectors
Tells image sectors Loaded = Unit {0}

-- the faults of a disk whose content is sound
abbrev pub IsPassing : LoadFault → Type 0
IsPassing fault = (fault ≡ Memory) ⊎ (fault ≡ Device)
