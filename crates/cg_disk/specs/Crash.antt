-- The content of a disk after a crash that loses all unsynced writes.
use Rattle.std.specs.Prelude.{◌≡◌, ℕ, ◌<◌, ◌≤◌}
use Rattle.cg_disk.specs.Disk.{Image, History, IsSynced}

-- each sector holds what it held when the whole disk was last synced
pub record IsLastSynced (h : History) (image : Image) : Type 0 where
  pub moment : ℕ
  pub past : moment ≤ h.now
  pub synced : IsSynced (h.at moment)
  pub held : (s : ℕ) → image s ≡ (h.at moment).content s
  pub last : (k : ℕ) → moment < k → k ≤ h.now → IsSynced (h.at k) → (s : ℕ) → image s ≡ (h.at k).content s
