-- A reader of the frames of segments, and what it finds.
use Rattle.std.specs.Prelude.{ℕ, ◌+◌, List, slice_range, Option, Some, None, Result, Ok, Err}
use Rattle.cg_disk.specs.Disk.{Image, Holds}
use Rattle.cg_frame.specs.Frames.{IsClosed, FrameAt}
use Rattle.cg_frame.specs.Heads.{IsBadFrame}
use Rattle.cg_frame.specs.declared.fault.ScanFault.{ScanFault}
use Rattle.cg_frame.specs.declared.fault.ScanFault.TheVariants.{Memory, Device, BadLength}
use Rattle.cg_frame.specs.declared.segment.Segment.{Segment}
use Rattle.cg_frame.specs.declared.segment_reader.SegmentReader.{SegmentReader}

-- the segment that is read
abbrev pub segment_read : SegmentReader → Segment
segment_read reader = reader.segment

-- the position of the gate of the next frame
abbrev pub position_of : SegmentReader → ℕ
position_of reader = reader.pos

-- the payload of the frame that was read last
abbrev pub payload_of : SegmentReader → List ℕ
payload_of reader = slice_range reader.buffer.items reader.payload_start reader.payload_end

-- the sectors in the buffer are those of an image
abbrev pub IsBuffered : Image → SegmentReader → Type 0
IsBuffered image reader = Holds image reader.segment.first reader.filled reader.buffer.items

-- what a reader finds at its position: a closed gate, a frame of which it keeps the payload, or an open gate without a frame
abbrev pub FindsFrame : Image → SegmentReader → SegmentReader → Result (Option ℕ) ScanFault → Type 0
FindsFrame image old new (Ok None) = IsClosed image ((segment_read old).first + position_of old)
FindsFrame image old new (Ok (Some count)) = FrameAt image (segment_read old) (position_of old) count (payload_of new)
FindsFrame image old new (Err Memory) = ⊥
FindsFrame image old new (Err Device) = Unit {0}
FindsFrame image old new (Err BadLength) = IsBadFrame image (segment_read old) (position_of old)
