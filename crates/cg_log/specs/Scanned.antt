-- What a reading of segments finds.
use Rattle.std.specs.Prelude.{ℕ, ◌+◌, List, Option, Some, None, Result, Ok, Err}
use Rattle.cg_disk.specs.Disk.{Image}
use Rattle.cg_frame.specs.Frames.{IsOpen, IsClosed, FrameAt}
use Rattle.cg_frame.specs.declared.segment.Frame.{Frame}
use Rattle.cg_gate.specs.Layout.{first_sector}
use Rattle.cg_log.specs.Segments.{segment_of}
use Rattle.cg_log.specs.declared.fault.LogFault.{LogFault}
use Rattle.cg_log.specs.declared.fault.LogFault.TheVariants as log_fault

-- what is at a position of a segment: a closed gate, a frame, or an open gate without a frame
abbrev pub Finds : Image → ℕ → ℕ → Result (Option Frame) LogFault → Type 0
Finds image id pos (Ok None) = IsClosed image (first_sector id + pos)
Finds image id pos (Ok (Some frame)) = FrameAt image (segment_of id) pos frame.count frame.payload.items
Finds image id pos (Err log_fault.Memory) = Unit {0}
Finds image id pos (Err log_fault.Device) = Unit {0}
Finds image id pos (Err log_fault.Full) = ⊥
Finds image id pos (Err log_fault.BadRoot) = ⊥
Finds image id pos (Err log_fault.BadFrame) = IsOpen image (first_sector id + pos) × ((count : ℕ) (payload : List ℕ) → ¬ FrameAt image (segment_of id) pos count payload)
Finds image id pos (Err log_fault.NoRoot) = ⊥
Finds image id pos (Err log_fault.Failed) = ⊥
