-- The gated sync of a disk: how many syncs come before it, and whether the gate refused it.
use Rattle.std.specs.Prelude.{ℕ, zero, suc, Bool, true, false, Option, Some, None}
use Rattle.cg_disk.specs.declared.gate_disk.GatedSync.{GatedSync}
use Rattle.cg_disk.specs.declared.gate_disk.GatedSync.TheVariants.{Ahead, Passed, Refused}

-- the number of syncs before the gated one; None: the gated sync was called
abbrev pub left_before : GatedSync → Option ℕ
left_before (Ahead syncs) = Some syncs
left_before Passed = None
left_before Refused = None

-- that number after a sync
abbrev pub left_after_sync : Option ℕ → Option ℕ
left_after_sync None = None
left_after_sync (Some zero) = None
left_after_sync (Some (suc n)) = Some n

-- the gate refused the gated sync
abbrev pub has_refused : GatedSync → Bool
has_refused (Ahead syncs) = false
has_refused Passed = false
has_refused Refused = true
