-- What is known of a disk while it is read, and what the head of a frame is found to be.
use Rattle.std.specs.Prelude.{◌≡◌, ℕ, ◌+◌, List, Option, Some, None, Result, Ok, Err}
use Rattle.cg_disk.specs.Disk.{Image, Moment}
use Rattle.cg_frame.specs.Frames.{IsOpen, IsClosed, FrameAt, HeadAt}
use Rattle.cg_frame.specs.declared.fault.ScanFault.{ScanFault}
use Rattle.cg_frame.specs.declared.fault.ScanFault.TheVariants.{Memory, Device, BadLength}
use Rattle.cg_frame.specs.declared.frame_reader.Head.{Head}
use Rattle.cg_frame.specs.declared.segment.Segment.{Segment}

-- reads at a moment return the sectors of an image
abbrev pub HasContent : Moment → Image → Type 0
HasContent m image = (s : ℕ) → m.content s ≡ image s

-- the gate at a position is open, and no frame is there
abbrev pub IsBadFrame : Image → Segment → ℕ → Type 0
IsBadFrame image segment pos =
    IsOpen image (segment.first + pos) × ((count : ℕ) (payload : List ℕ) → ¬ FrameAt image segment pos count payload)

-- what the sectors at a position are found to be: a closed gate, the head of a frame, or an open gate without a frame
abbrev pub FindsHead : Image → Segment → ℕ → Result (Option Head) ScanFault → Type 0
FindsHead image segment pos (Ok None) = IsClosed image (segment.first + pos)
FindsHead image segment pos (Ok (Some head)) = HeadAt image segment pos head.count head.bytes
FindsHead image segment pos (Err Memory) = ⊥
FindsHead image segment pos (Err Device) = ⊥
FindsHead image segment pos (Err BadLength) = IsBadFrame image segment pos
