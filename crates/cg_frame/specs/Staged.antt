-- The bytes of a frame that is not on a disk yet.
use Rattle.std.specs.Prelude.{◌≡◌, ℕ, ◌+◌, ◌-◌, ◌*◌, ◌^◌, ◌<◌, ◌≤◌, List, ◌++◌, length, take, drop, slice_index}
use Rattle.cg_disk.specs.declared.disk.TheConstants.{SECTOR_BYTES}
use Rattle.cg_frame.specs.declared.segment.TheConstants.{HEAD_BYTES}
use Rattle.cg_frame.specs.Frames.{body_sectors, word}

-- the payload after the room for a head
abbrev pub behind_head : List ℕ → List ℕ
behind_head bytes = drop HEAD_BYTES bytes

-- these sectors are the body of a payload of n bytes, and zeros after it, and so a closed gate
pub record IsStagedFrame (sectors : List ℕ) (count n : ℕ) : Type 0 where
  pub long : length sectors ≡ SECTOR_BYTES * (body_sectors n + 1)
  pub body_is : take (HEAD_BYTES + n) sectors ≡ word count ++ word n ++ take n (behind_head sectors)
  pub fits_word : count < 2 ^ 64
  pub padded : (i : ℕ) → HEAD_BYTES + n ≤ i → slice_index sectors i ≡ 0

-- after the room for a head there are at least n bytes; with a count these are the payload of a frame, which is whole
pub record IsFrameBuffer (bytes : List ℕ) (count n : ℕ) : Type 0 where
  pub inside : n ≤ length bytes - HEAD_BYTES
  pub sealed : 1 ≤ count → IsStagedFrame bytes count n
