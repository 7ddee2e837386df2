-- A disk with both fault injections.
use Rattle.std.specs.Prelude.{◌≡◌, ℕ, Option}
use Rattle.cg_disk.specs.Fuse.{blown_calls, fuse_of, inner_of}
use Rattle.cg_disk.specs.Once.{failed_calls, once_of}
use Rattle.cg_disk.specs.Once as once
use Rattle.cg_disk.specs.declared.fuse.FuseDisk.{FuseDisk}
use Rattle.cg_disk.specs.declared.once.OnceDisk.{OnceDisk}

-- the disk below both
abbrev pub below_both : {D : Type 0} → FuseDisk (OnceDisk D) → D
below_both disk = once.inner_of (inner_of disk)

-- the number of calls that pass before one fails, of those that the fuse passes
abbrev pub once_within : {D : Type 0} → FuseDisk (OnceDisk D) → Option ℕ
once_within disk = once_of (inner_of disk)

-- only that number is another
pub record SetsOnce {D : Type 0} (calls : Option ℕ) (old new : FuseDisk (OnceDisk D)) : Type 0 where
  pub once : once_within new ≡ calls
  pub failed : failed_calls (inner_of new) ≡ failed_calls (inner_of old)
  pub fuse : fuse_of new ≡ fuse_of old
  pub blown : blown_calls new ≡ blown_calls old
  pub below : below_both new ≡ below_both old
