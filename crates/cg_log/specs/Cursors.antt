-- Positions among the frames of a log, and the frames before a tail.
use Rattle.std.specs.Prelude.{◌≡◌, ℕ, zero, suc, ◌+◌, ◌≤◌, List, [], ◌∷◌, ◌++◌, length, take, drop, ◌==◌, if◌then◌else◌, Option, Some, None, Result, Ok, Err}
use Rattle.cg_frame.specs.declared.segment.Frame.{Frame}
use Rattle.cg_log.specs.Carried.{Content, segments_of, tails}
use Rattle.cg_log.specs.Segments.{Frames, Filled, ids_of, frames_of, end_of_frames}
use Rattle.cg_root.specs.declared.root.Root.{Root}
use Rattle.cg_log.specs.declared.cursor.Cursor.{Cursor}
use Rattle.cg_log.specs.declared.fault.LogFault.{LogFault}

-- the frames of the segment at an index; none past the last
abbrev pub frames_at : List Filled → ℕ → Frames
frames_at [] i = []
frames_at (s ∷ segments) zero = s.1
frames_at (s ∷ segments) (suc i) = frames_at segments i

-- the index of an id
abbrev pub index_of : ℕ → List ℕ → ℕ
index_of id [] = 0
index_of id (x ∷ ids) = if id == x then 0 else 1 + index_of id ids

-- the tails before the one of this id, and those from it on; all and none where no tail has it
abbrev pub tails_before : ℕ → Content → List Filled
tails_before id has = take (index_of id (ids_of (tails has))) (tails has)

abbrev pub tails_from : ℕ → Content → List Filled
tails_from id has = drop (index_of id (ids_of (tails has))) (tails has)

-- the segments of the base, and the tails before the one of this id; all where there is no id, or no tail has it
abbrev pub segments_before : Option ℕ → Content → List Filled
segments_before None has = segments_of has
segments_before (Some id) has = has.base ++ tails_before id has

-- how many segments these are
abbrev pub read_limit : Root → Option ℕ → ℕ
read_limit root None = length root.base + length root.tail
read_limit root (Some id) = length root.base + index_of id root.tail

-- position pos of the segment at an index is after these frames: those of the segments before, and the first ones of its own
pub record IsAfter (segments : List Filled) (index pos : ℕ) (read : Frames) : Type 0 where
  pub seen : Frames
  pub rest : Frames
  pub here : frames_at segments index ≡ seen ++ rest
  pub pos_is : pos ≡ end_of_frames 0 seen
  pub read_is : read ≡ frames_of (take index segments) ++ seen

-- the index of a cursor's segment
abbrev pub segment_index : Cursor → ℕ
segment_index cursor = cursor.segment

-- a cursor is after these frames
abbrev pub IsAt : List Filled → Cursor → Frames → Type 0
IsAt segments cursor read = IsAfter segments cursor.segment cursor.pos read

-- the next frame of the limit, and the cursor after it
pub record IsNext (segments limit : List Filled) (read : Frames) (frame : Frame) (next : Cursor) : Type 0 where
  pub more : Frames
  pub limit_is : frames_of limit ≡ read ++ (frame.count, frame.payload.items) ∷ more
  pub after : IsAt segments next (read ++ (frame.count, frame.payload.items) ∷ [])

-- what a reading returns: the next frame of the limit, or none where all were read
abbrev pub Reads : List Filled → List Filled → Frames → Result (Option (Frame × Cursor)) LogFault → Type 0
Reads segments limit read (Ok None) = length (frames_of limit) ≤ length read
Reads segments limit read (Ok (Some found)) = IsNext segments limit read found.0 found.1
Reads segments limit read (Err fault) = Unit {0}
