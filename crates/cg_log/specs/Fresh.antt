-- The fresh segments of a compaction: it wrote their frames, and no root names them yet.
use Rattle.std.specs.Prelude.{◌≡◌, ℕ, ◌+◌, ◌<◌, ◌≤◌, Bool, true, false, List, [], ◌∷◌, ◌++◌, length, nat_lt}
use Rattle.cg_disk.specs.Disk.{Image, Moment, IsImage}
use Rattle.cg_frame.specs.Frames.{next_gate}
use Rattle.cg_gate.specs.Layout.{first_sector}
use Rattle.cg_gate.specs.declared.layout.TheConstants.{SEGMENT_SECTORS}
use Rattle.cg_log.specs.Ready.{AllClosed, last_id}
use Rattle.cg_log.specs.Segments.{Frames, Filled, ids_of, end_of_frames, AreStored}

-- the position of the gate after the frames of the last of these segments; `none` if there is no segment
abbrev pub last_end : ℕ → List Filled → ℕ
last_end none [] = none
last_end none (s ∷ segments) = last_end (end_of_frames 0 s.1) segments

-- every crash image of a moment has these segments with their frames, and those of the last segment end there
pub record HoldsFresh (m : Moment) (ids : List ℕ) (end : ℕ) (fresh : List Filled) : Type 0 where
  pub ids_are : ids ≡ ids_of fresh
  pub stored : (image : Image) → IsImage m image → AreStored image fresh
  pub end_is : end ≡ last_end 0 fresh

-- there is a fresh segment, and a frame whose payload has that many bytes fits the last one, with the gate after it
unfoldable pub fits_fresh : List ℕ → ℕ → ℕ → Bool
fits_fresh [] end bytes = false
fits_fresh (id ∷ ids) end bytes = nat_lt (next_gate end bytes) SEGMENT_SECTORS

-- the last of these segments has one more frame
pub record HasMoreInLast (fresh : List Filled) (count : ℕ) (payload : List ℕ) (new : List Filled) : Type 0 where
  pub sealed : List Filled
  pub id : ℕ
  pub frames : Frames
  pub was : fresh ≡ sealed ++ (id, frames) ∷ []
  pub is : new ≡ sealed ++ (id, frames ++ (count, payload) ∷ []) ∷ []

-- there is one more segment, with one frame
pub record HasMoreInNew (fresh : List Filled) (count : ℕ) (payload : List ℕ) (new : List Filled) : Type 0 where
  pub id : ℕ
  pub is : new ≡ fresh ++ (id, (count, payload) ∷ []) ∷ []

-- one more frame, in the last of these segments where it fits, otherwise in a new one
abbrev pub IsFreshAppended : Bool → List Filled → ℕ → List ℕ → List Filled → Type 0
IsFreshAppended true fresh count payload new = HasMoreInLast fresh count payload new
IsFreshAppended false fresh count payload new = HasMoreInNew fresh count payload new

-- if there is a fresh segment, every crash image has a closed gate at that position of the last one
abbrev pub IsFreshReady : Moment → List ℕ → ℕ → Type 0
IsFreshReady m ids end = 1 ≤ length ids → AllClosed m (first_sector (last_id ids) + end)

-- fresh segments stay, and so does the closed gate for their next frame
pub record KeepsFresh (old new : Moment) (ids : List ℕ) : Type 0 where
  pub holds : (end : ℕ) (fresh : List Filled) → HoldsFresh old ids end fresh → HoldsFresh new ids end fresh
  pub ready : (end : ℕ) → end < SEGMENT_SECTORS → IsFreshReady old ids end → IsFreshReady new ids end
