-- The count of calls that pass before one fails.
use Rattle.std.specs.Prelude.{◌≡◌, ℕ, zero, suc, ◌+◌, ◌-◌, ◌^◌, min, Bool, true, false, Option, Some, None}
use Rattle.cg_disk.specs.Disk.{Counts}

-- the next call fails
abbrev pub fails_next : Option ℕ → Bool
fails_next (Some zero) = true
fails_next _ = false

-- the calls left and those that failed, after a call; after one that fails, `next` are left
abbrev pub counted_down : Option ℕ → Option ℕ × ℕ → Option ℕ × ℕ
counted_down next (Some zero, failed) = (next, min (failed + 1) (2 ^ 64 - 1))
counted_down next (Some (suc left), failed) = (Some left, failed)
counted_down next (None, failed) = (None, failed)

-- one call: it fails if none is left, or it ends as on the wrapped disk, which has these counts of failures around it
pub record CountsDown (next : Option ℕ) (old new : Option ℕ × ℕ) (inner_old inner_new : ℕ) (failed : Bool) : Type 0 where
  pub counts : new ≡ counted_down next old
  pub fails : fails_next old.0 ≡ true → failed ≡ true
  pub passes : fails_next old.0 ≡ false → Counts inner_old inner_new failed
