-- The disk model: the content of a disk at each moment, and what a crash may leave of it.
use Rattle.std.specs.Prelude.{◌≡◌, ℕ, zero, suc, ◌+◌, ◌-◌, ◌*◌, ◌/◌, ◌%◌, ◌^◌, ◌<◌, ◌≤◌, Bool, true, false, min, List, [], ◌++◌, length, take, drop}
use Rattle.cg_disk.specs.declared.disk.TheConstants.{SECTOR_BYTES}

-- the bytes of each sector, by its position
abbrev pub Image : Type 0
Image = ℕ → List ℕ

-- the bytes of sector i in a sequence of sectors of 512 bytes
unfoldable pub sector : List ℕ → ℕ → List ℕ
sector bytes i = take SECTOR_BYTES (drop (SECTOR_BYTES * i) bytes)

-- the number of whole sectors in these bytes
abbrev pub sector_count : List ℕ → ℕ
sector_count bytes = length bytes / SECTOR_BYTES

-- the bytes are whole sectors
abbrev pub IsWhole : List ℕ → Type 0
IsWhole bytes = length bytes % SECTOR_BYTES ≡ 0

-- the bytes of n sectors from position `at`
abbrev pub span : Image → ℕ → ℕ → List ℕ
span image at zero = []
span image at (suc n) = image at ++ span image (suc at) n

-- the n sectors from position `at` hold these bytes
abbrev pub Holds : Image → ℕ → ℕ → List ℕ → Type 0
Holds image at n bytes = (i : ℕ) → i < n → image (at + i) ≡ sector bytes i

-- a disk at one moment: what reads return, and which sectors were written since the last successful sync
pub record Moment : Type 0 where
  pub content : Image
  pub unsynced : ℕ → Bool

-- the moments of a disk so far, those within its calls too
pub record History : Type 0 where
  pub now : ℕ
  pub at : ℕ → Moment

abbrev pub present : History → Moment
present h = h.at h.now

-- what a crash may leave: the content, with anything in each unsynced sector
abbrev pub IsImage : Moment → Image → Type 0
IsImage m image = (s : ℕ) → m.unsynced s ≡ false → image s ≡ m.content s

-- no sector was written since the last sync, so a crash leaves the content
abbrev pub IsSynced : Moment → Type 0
IsSynced m = (s : ℕ) → m.unsynced s ≡ false

-- a crash may leave anything in the n sectors from position `at`
abbrev pub IsUnsynced : Moment → ℕ → ℕ → Type 0
IsUnsynced m at n = (i : ℕ) → i < n → m.unsynced (at + i) ≡ true

-- sector s has the same content, and is synced if it was
pub record IsKept (old new : Moment) (s : ℕ) : Type 0 where
  pub content : new.content s ≡ old.content s
  pub synced : old.unsynced s ≡ false → new.unsynced s ≡ false

-- a moment differs from another only in the n sectors from position `at`
pub record IsDisturbed (at n : ℕ) (old new : Moment) : Type 0 where
  pub below : (s : ℕ) → s < at → IsKept old new s
  pub above : (s : ℕ) → at + n ≤ s → IsKept old new s

-- time passes, and each new moment differs from the old one only in the n sectors from position `at`
pub record Changes (at n : ℕ) (old new : History) : Type 0 where
  pub later : old.now ≤ new.now
  pub keeps : (k : ℕ) → k ≤ old.now → new.at k ≡ old.at k
  pub each : (k : ℕ) → old.now < k → k ≤ new.now → IsDisturbed at n (present old) (new.at k)

-- time passes, and no sector changes
abbrev pub Stays : History → History → Type 0
Stays old new = Changes 0 0 old new

-- an image that a crash may leave, except for the n sectors from position `at`
pub record AllBut (at n : ℕ) (m : Moment) (image : Image) : Type 0 where
  pub base : Image
  pub was : IsImage m base
  pub below : (s : ℕ) → s < at → image s ≡ base s
  pub above : (s : ℕ) → at + n ≤ s → image s ≡ base s

-- a crash at any moment since the old history leaves an image with the property P
pub record LeavesOnly (old new : History) (P : Image → Type 0) : Type 0 where
  pub later : old.now ≤ new.now
  pub keeps : (k : ℕ) → k ≤ old.now → new.at k ≡ old.at k
  pub each : (k : ℕ) → old.now ≤ k → k ≤ new.now → (image : Image) → IsImage (new.at k) image → P image

-- the clock of the disk moved by n calls; if one failed, by at most n
pub record TakesCalls (n : ℕ) (old new : History) (failed : Bool) : Type 0 where
  pub most : new.now ≤ old.now + n
  pub all : failed ≡ false → new.now ≡ old.now + n

-- the first call is a sync, unless the disk failed: one call later no sector is unsynced
pub record BeginsWithSync (old new : History) (failed : Bool) : Type 0 where
  pub called : failed ≡ false → old.now + 1 ≤ new.now
  pub synced : failed ≡ false → IsSynced (new.at (old.now + 1))

-- the count of failures rises exactly if a call failed; it stops at 2^64 - 1
pub record Counts (before now : ℕ) (failed : Bool) : Type 0 where
  pub later : before ≤ now
  pub rises : failed ≡ true → min (before + 1) (2 ^ 64 - 1) ≤ now
  pub stays : failed ≡ false → now ≡ before

-- a history without information, for a disk that is not honest
abbrev pub unknown_history : History
unknown_history = record { now = 0; at = λ _. record { content = λ _. []; unsynced = λ _. true } }
