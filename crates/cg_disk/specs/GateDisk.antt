-- The model of a disk with one gated sync.
use Rattle.std.specs.Prelude.{◌≡◌, ◌≢◌, ℕ, ◌+◌, Bool, true, false, not, if◌then◌else◌, Option, Some}
use Rattle.cg_disk.specs.Disk.{Counts}
use Rattle.cg_disk.specs.GatedSync.{left_before, left_after_sync, has_refused}
use Rattle.cg_disk.specs.declared.gate_disk.GateDisk.{GateDisk}

-- the wrapped disk
abbrev pub inner_of : {D G : Type 0} → GateDisk D G → D
inner_of disk = disk.inner

-- the gate
abbrev pub gate_of : {D G : Type 0} → GateDisk D G → G
gate_of disk = disk.gate

-- the number of syncs before the gated one; None: the gated sync was called
abbrev pub syncs_left : {D G : Type 0} → GateDisk D G → Option ℕ
syncs_left disk = left_before disk.gated

-- the gate refused the gated sync
abbrev pub is_refused : {D G : Type 0} → GateDisk D G → Bool
is_refused disk = has_refused disk.gated

-- the failures of the wrapped disk, and one more if the gate refused the gated sync
abbrev pub failures_of : {D G : Type 0} → (D → ℕ) → GateDisk D G → ℕ
failures_of failures disk = failures disk.inner + (if is_refused disk then 1 else 0)

-- the wrapped disk runs the call, which fails exactly if the wrapped disk fails; the gate refuses nothing
pub record CallsInner {D G : Type 0} (failures : D → ℕ) (old new : GateDisk D G) (failed : Bool) : Type 0 where
  pub inner : Counts (failures (inner_of old)) (failures (inner_of new)) failed
  pub refused : is_refused new ≡ is_refused old

-- a read or a write: the wrapped disk runs it, and `opened` is not called
pub record PassesOn {D G : Type 0} (failures : D → ℕ) (old new : GateDisk D G) (failed : Bool) : Type 0 where
  pub calls : CallsInner failures old new failed
  pub gate : gate_of new ≡ gate_of old
  pub left : syncs_left new ≡ syncs_left old

-- a sync. The gated one calls `opened` once: if that returns false, the gate refuses the sync, which fails and leaves the
-- wrapped disk unchanged. The wrapped disk runs every other sync, and `opened` is not called
pub record GatesSync {D G : Type 0} (failures : D → ℕ) (opened_gives : G → Bool → G → Type 0) (old new : GateDisk D G) (failed : Bool) : Type 0 where
  pub left : syncs_left new ≡ left_after_sync (syncs_left old)
  pub calls : syncs_left old ≢ Some 0 → CallsInner failures old new failed
  pub gate : syncs_left old ≢ Some 0 → gate_of new ≡ gate_of old
  pub asks : syncs_left old ≡ Some 0 → opened_gives (gate_of old) (not (is_refused new)) (gate_of new)
  pub passes : syncs_left old ≡ Some 0 → is_refused new ≡ false → CallsInner failures old new failed
  pub fails : syncs_left old ≡ Some 0 → is_refused new ≡ true → failed ≡ true
  pub untouched : syncs_left old ≡ Some 0 → is_refused new ≡ true → inner_of new ≡ inner_of old
