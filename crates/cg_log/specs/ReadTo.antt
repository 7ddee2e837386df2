-- What is read of an image, from the first frame on: the segments that a root names, in order.
use Rattle.std.specs.Prelude.{◌≡◌, ℕ, ◌+◌, List, [], ◌∷◌, ◌++◌, length, take, drop, slice_index, nat_lt, if◌then◌else◌, Option, Some, None, Result, Ok, Err}
use Rattle.cg_disk.specs.Disk.{Image}
use Rattle.cg_frame.specs.Frames.{Chain, IsClosed}
use Rattle.cg_frame.specs.Reader.{payload_of, position_of}
use Rattle.cg_frame.specs.declared.segment_reader.SegmentReader.{SegmentReader}
use Rattle.cg_gate.specs.Layout.{first_sector}
use Rattle.cg_root.specs.Roots.{root_ids}
use Rattle.cg_root.specs.declared.root.Root.{Root}
use Rattle.cg_log.specs.Segments.{Frames, Filled, segment_of, ids_of, frames_of, counted, AreStored}
use Rattle.cg_log.specs.declared.fault.LogFault.{LogFault}
use Rattle.cg_log.specs.declared.fault.LogFault.TheVariants as log_fault

-- the id of the segment at an index, of those that a root names
abbrev pub id_at : Root → ℕ → ℕ
id_at root index = slice_index (root_ids root) index

-- these frames were read, up to position pos of the segment at an index; with those of the tail among them the commands have
-- this number
pub record IsReadTo (image : Image) (root : Root) (index pos number : ℕ) (read : Frames) : Type 0 where
  pub done : List Filled
  pub seen : Frames
  pub ids_are : take index (root_ids root) ≡ ids_of done
  pub stored : AreStored image done
  pub chain : Chain image (segment_of (id_at root index)) 0 seen pos
  pub read_is : read ≡ frames_of done ++ seen
  pub number_is : number ≡ root.base_number + counted (frames_of (drop (length root.base) (done ++ (id_at root index, seen) ∷ [])))

-- the number of the last command after one more frame of that many commands: the counts of a base segment's frames are not
-- added, since the base number has them already
abbrev pub number_with : Root → ℕ → ℕ → ℕ → ℕ
number_with root index number count = if nat_lt index (length root.base) then number else number + count

-- a segment that the root names has no chain of frames in the image: a gate is open with no frame after it
abbrev pub HasBadSegment : Image → Root → Type 0
HasBadSegment image root = (segments : List Filled) → root_ids root ≡ ids_of segments → ¬ AreStored image segments

-- what comes after these frames: a closed gate after them, one more frame, or damage in a segment of the root
abbrev pub FindsNext : Image → Root → ℕ → Frames → ℕ → SegmentReader → Result (Option ℕ) LogFault → Type 0
FindsNext image root number read index reader (Ok None) =
    IsReadTo image root index (position_of reader) number read × IsClosed image (first_sector (id_at root index) + position_of reader)
FindsNext image root number read index reader (Ok (Some count)) =
    IsReadTo image root index (position_of reader) (number_with root index number count) (read ++ (count, payload_of reader) ∷ [])
FindsNext image root number read index reader (Err log_fault.Memory) = ⊥
FindsNext image root number read index reader (Err log_fault.Device) = Unit {0}
FindsNext image root number read index reader (Err log_fault.Full) = ⊥
FindsNext image root number read index reader (Err log_fault.BadRoot) = ⊥
FindsNext image root number read index reader (Err log_fault.BadFrame) = HasBadSegment image root
FindsNext image root number read index reader (Err log_fault.NoRoot) = ⊥
FindsNext image root number read index reader (Err log_fault.Failed) = ⊥
