-- The model of a disk that fails one call.
use Rattle.std.specs.Prelude.{◌≡◌, ℕ, ◌+◌, ◌-◌, ◌^◌, ◌<◌, min, Bool, Option, None, List, length, replicate}
use Rattle.cg_disk.specs.Countdown.{CountsDown}
use Rattle.cg_disk.specs.declared.once.OnceDisk.{OnceDisk}

-- the wrapped disk
abbrev pub inner_of : {D : Type 0} → OnceDisk D → D
inner_of disk = disk.inner

-- the number of calls that pass before it fails one; None: it fails none
abbrev pub once_of : {D : Type 0} → OnceDisk D → Option ℕ
once_of disk = disk.calls

-- the number of calls that it failed, up to the maximum of a u64
abbrev pub failed_calls : {D : Type 0} → OnceDisk D → ℕ
failed_calls disk = disk.failed

-- the failures of the wrapped disk and of this one, up to the maximum of a u64
abbrev pub failures_of : {D : Type 0} → (D → ℕ) → OnceDisk D → ℕ
failures_of failures disk = min (failures disk.inner + disk.failed) (2 ^ 64 - 1)

-- one call: it is the one that fails, and no later one does, or it ends as on the wrapped disk
abbrev pub FailsOnce : {D : Type 0} → (D → ℕ) → OnceDisk D → OnceDisk D → Bool → Type 0
FailsOnce failures old new = CountsDown None (old.calls, old.failed) (new.calls, new.failed) (failures old.inner) (failures new.inner)

-- what a failed read or write leaves in the place of these bytes: the byte that opens a gate, everywhere
abbrev pub left_bytes : List ℕ → List ℕ
left_bytes bytes = replicate (length bytes) 1

-- a call did not fail on the wrapped disk, by its counts of failures before and after
abbrev pub HasPassed : ℕ → ℕ → Type 0
HasPassed before after = (before < 2 ^ 64 - 1) × (after ≡ before)
