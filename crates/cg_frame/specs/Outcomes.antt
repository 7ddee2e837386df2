-- What an append and a scan leave and tell.
use Rattle.std.specs.Prelude.{◌≡◌, ◌⊎◌, ℕ, ◌+◌, ◌≤◌, List, [], ◌∷◌, ◌++◌, length, slice_index, Bool, true, false, Result, Ok, Err}
use Rattle.cg_disk.specs.Disk.{Image, Moment, AllBut, IsImage, span}
use Rattle.cg_frame.specs.Frames.{IsClosed, FrameAt, HasFrames, HasFramesTo, body_sectors, next_gate}
use Rattle.cg_frame.specs.declared.segment.Segment.{Segment}
use Rattle.cg_frame.specs.declared.fault.FrameFault.{FrameFault}
use Rattle.cg_frame.specs.declared.fault.FrameFault.TheVariants.{Memory, Device, NoRoom}
use Rattle.cg_frame.specs.declared.fault.ScanFault.{ScanFault}
use Rattle.cg_frame.specs.declared.fault.ScanFault.TheVariants.{Memory as scan_memory, Device as scan_device, BadLength as scan_bad_length}
use Rattle.cg_frame.specs.declared.segment.TheConstants.{HEAD_BYTES}

-- the frame is there, its last sector ends in zeros, and the gate after it is closed
pub record StandsLast (image : Image) (segment : Segment) (pos count : ℕ) (payload : List ℕ) : Type 0 where
  pub frame : FrameAt image segment pos count payload
  pub padded : (i : ℕ) → HEAD_BYTES + length payload ≤ i → slice_index (span image (segment.first + pos + 1) (body_sectors (length payload))) i ≡ 0
  pub closed : IsClosed image (segment.first + next_gate pos (length payload))

-- what a crash during an append at pos may leave of a disk at m: all else as it was, and a closed gate or the frame
pub record Appended (m : Moment) (segment : Segment) (pos count : ℕ) (payload : List ℕ) (image : Image) : Type 0 where
  pub elsewhere : AllBut (segment.first + pos) (body_sectors (length payload) + 2) m image
  pub outcome : IsClosed image (segment.first + pos) ⊎ StandsLast image segment pos count payload

-- whatever a crash at m leaves has these frames, up to a closed gate at end
abbrev pub KeepsFramesTo : Moment → Segment → List (ℕ × List ℕ) → ℕ → Type 0
KeepsFramesTo m segment frames end = (image : Image) → IsImage m image → HasFramesTo image segment frames end

-- these frames, or these with one more
abbrev pub IsBeforeOrAfter : Segment → List (ℕ × List ℕ) → ℕ → List ℕ → Image → Type 0
IsBeforeOrAfter segment frames count payload image =
    HasFrames image segment frames ⊎ HasFrames image segment (frames ++ (count, payload) ∷ [])

-- an append failed by the device
abbrev pub is_device_failure : {T : Type 0} → Result T FrameFault → Bool
is_device_failure (Ok x) = false
is_device_failure (Err Memory) = false
is_device_failure (Err Device) = true
is_device_failure (Err NoRoom) = false

-- a scan failed by the device
abbrev pub is_scan_device_failure : {T : Type 0} → Result T ScanFault → Bool
is_scan_device_failure (Ok x) = false
is_scan_device_failure (Err scan_memory) = false
is_scan_device_failure (Err scan_device) = true
is_scan_device_failure (Err scan_bad_length) = false
