-- The model of a disk that fails each call after some.
use Rattle.std.specs.Prelude.{ℕ, ◌+◌, ◌-◌, ◌^◌, min, Bool, Option, Some}
use Rattle.cg_disk.specs.Countdown.{CountsDown}
use Rattle.cg_disk.specs.declared.fuse.FuseDisk.{FuseDisk}

-- the wrapped disk
abbrev pub inner_of : {D : Type 0} → FuseDisk D → D
inner_of disk = disk.inner

-- the number of calls that pass before it fails each; None: it fails none
abbrev pub fuse_of : {D : Type 0} → FuseDisk D → Option ℕ
fuse_of disk = disk.calls

-- the number of calls that the fuse failed, up to the maximum of a u64
abbrev pub blown_calls : {D : Type 0} → FuseDisk D → ℕ
blown_calls disk = disk.blown

-- the failures of the wrapped disk and of the fuse, up to the maximum of a u64
abbrev pub failures_of : {D : Type 0} → (D → ℕ) → FuseDisk D → ℕ
failures_of failures disk = min (failures disk.inner + disk.blown) (2 ^ 64 - 1)

-- one call: the fuse fails it, and so each after it, or it ends as on the wrapped disk
abbrev pub PassesOrFails : {D : Type 0} → (D → ℕ) → FuseDisk D → FuseDisk D → Bool → Type 0
PassesOrFails failures old new = CountsDown (Some 0) (old.calls, old.blown) (new.calls, new.blown) (failures old.inner) (failures new.inner)
