-- Frames: bodies behind gates, in sequence, in the sectors of a segment.
use Rattle.std.specs.Prelude.{◌≡◌, ℕ, ◌+◌, ◌-◌, ◌/◌, ◌^◌, ◌<◌, ◌≤◌, List, [], ◌∷◌, ◌++◌, length, take, drop, slice_index}
use Rattle.std.specs.Int.{to_be_bytes, w64}
use Rattle.cg_disk.specs.declared.disk.TheConstants.{SECTOR_BYTES}
use Rattle.cg_disk.specs.Disk.{Image, span}
pub use Rattle.cg_gate.specs.Gates.{IsOpen, IsClosed}
use Rattle.cg_frame.specs.declared.segment.Segment.{Segment}
use Rattle.cg_frame.specs.declared.segment.TheConstants.{HEAD_BYTES}

-- how many sectors the body of a payload of n bytes takes: the count and the length come before the payload
abbrev pub body_sectors : ℕ → ℕ
body_sectors n = (HEAD_BYTES + n + (SECTOR_BYTES - 1)) / SECTOR_BYTES

-- where the gate behind a frame stands
abbrev pub next_gate : ℕ → ℕ → ℕ
next_gate pos n = pos + body_sectors n + 1

-- a number in 8 bytes, the highest first
unfoldable pub word : ℕ → List ℕ
word n = to_be_bytes w64 n

-- a body: the number of commands, the payload's length, the payload
abbrev pub body : ℕ → List ℕ → List ℕ
body count payload = word count ++ word (length payload) ++ payload

-- a segment has a frame with this count and payload, its gate at pos
pub record FrameAt (image : Image) (segment : Segment) (pos count : ℕ) (payload : List ℕ) : Type 0 where
  pub is_open : IsOpen image (segment.first + pos)
  pub body_is : take (HEAD_BYTES + length payload) (span image (segment.first + pos + 1) (body_sectors (length payload))) ≡ body count payload
  pub counted : 1 ≤ count
  pub fits_word : count < 2 ^ 64
  pub fits : next_gate pos (length payload) < segment.sectors

-- the gate, the count and the length are those of a frame
pub record HeadAt (image : Image) (segment : Segment) (pos count n : ℕ) : Type 0 where
  pub is_open : IsOpen image (segment.first + pos)
  pub head_is : take HEAD_BYTES (image (segment.first + pos + 1)) ≡ word count ++ word n
  pub counted : 1 ≤ count
  pub fits_word : count < 2 ^ 64
  pub fits : next_gate pos n < segment.sectors

-- a gate and the sector after it, read into one buffer, are those of a frame
pub record IsFront (front : List ℕ) (segment : Segment) (pos count n : ℕ) : Type 0 where
  pub is_open : slice_index front 0 ≡ 1
  pub head_is : take HEAD_BYTES (drop SECTOR_BYTES front) ≡ word count ++ word n
  pub counted : 1 ≤ count
  pub fits_word : count < 2 ^ 64
  pub fits : next_gate pos n < segment.sectors

-- these frames follow each other from pos to end
abbrev pub Chain : Image → Segment → ℕ → List (ℕ × List ℕ) → ℕ → Type 0
Chain image segment pos [] end = pos ≡ end
Chain image segment pos (frame ∷ frames) end =
    FrameAt image segment pos frame.0 frame.1 × Chain image segment (next_gate pos (length frame.1)) frames end

-- a segment has these frames, and the first closed gate after them is at end
pub record HasFramesTo (image : Image) (segment : Segment) (frames : List (ℕ × List ℕ)) (end : ℕ) : Type 0 where
  pub chain : Chain image segment 0 frames end
  pub closed : IsClosed image (segment.first + end)

-- a segment has these frames
abbrev pub HasFrames : Image → Segment → List (ℕ × List ℕ) → Type 0
HasFrames image segment frames = (end : ℕ) × HasFramesTo image segment frames end
