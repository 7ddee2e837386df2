-- Frames in several segments.
use Rattle.std.specs.Prelude.{ℕ, List, [], ◌∷◌, length, map, sum_by}
use Rattle.std.specs.List.{flat_map, AllByRecursion}
use Rattle.cg_disk.specs.Disk.{Image}
use Rattle.cg_frame.specs.Frames.{HasFrames, next_gate}
use Rattle.cg_frame.specs.declared.segment.Segment.{Segment}
use Rattle.cg_gate.specs.Layout.{first_sector}
use Rattle.cg_gate.specs.declared.layout.TheConstants.{SEGMENT_SECTORS}

-- frames in order, each as the count of its commands and its payload
abbrev pub Frames : Type 0
Frames = List (ℕ × List ℕ)

-- a segment, by its id, with its frames
abbrev pub Filled : Type 0
Filled = ℕ × Frames

-- where the segment of this id lies on a disk
abbrev pub segment_of : ℕ → Segment
segment_of id = record { first = first_sector id; sectors = SEGMENT_SECTORS }

-- the ids of segments
abbrev pub ids_of : List Filled → List ℕ
ids_of segments = map (λ (s : Filled). s.0) segments

-- the frames of segments, in order
abbrev pub frames_of : List Filled → Frames
frames_of segments = flat_map (λ (s : Filled). s.1) segments

-- the number of commands, by the counts of the frames
abbrev pub counted : Frames → ℕ
counted frames = sum_by (λ (frame : ℕ × List ℕ). frame.0) frames

-- the position of the gate after these frames, of which the first has its gate at pos
abbrev pub end_of_frames : ℕ → Frames → ℕ
end_of_frames pos [] = pos
end_of_frames pos (frame ∷ frames) = end_of_frames (next_gate pos (length frame.1)) frames

-- each of these segments has its frames
abbrev pub AreStored : Image → List Filled → Type 0
AreStored image segments = AllByRecursion (λ (s : Filled). HasFrames image (segment_of s.0) s.1) segments
