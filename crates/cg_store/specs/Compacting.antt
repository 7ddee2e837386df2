-- What a compaction knows of the content of its log.
use Rattle.std.specs.Prelude.{◌≡◌, ◌⊎◌, ℕ, ◌+◌, ◌<◌, Bool, true, List, [], ◌∷◌, ◌++◌, length, false, Option, Some, None}
use Rattle.cg_disk.specs.Disk.{History}
use Rattle.cg_fold.specs.Durable.{State}
use Rattle.cg_fold.specs.Snapshot.{snapshot_of}
use Rattle.cg_frame.specs.declared.segment.TheConstants.{LARGEST_PAYLOAD_BYTES}
use Rattle.cg_log.specs.Carried.{Content, segments_of, tails}
use Rattle.cg_log.specs.Cursors.{IsAt, segment_index, segments_before, tails_from}
use Rattle.cg_log.specs.Free.{IsLeastFree, is_among}
use Rattle.cg_log.specs.Fresh.{fits_fresh}
use Rattle.cg_log.specs.Log.{HasFresh}
use Rattle.cg_log.specs.Segments.{Filled, Frames, counted, frames_of, ids_of}
use Rattle.cg_log.specs.declared.log.Log.{Log}
use Rattle.cg_record.specs.declared.command.Command.{Command}
use Rattle.cg_record.specs.Spelling.{spelling}
use Rattle.cg_store.specs.Batches.{IsBatch}
use Rattle.cg_store.specs.Carried.{AreFramesOf, Spell, joined}
use Rattle.cg_store.specs.declared.compaction.Compaction.{Compaction}
use Rattle.cg_store.specs.declared.compaction.Compaction.TheVariants as is
use Rattle.cg_store.specs.declared.compaction.Cut.{Cut}
use Rattle.cg_store.specs.declared.compaction.Reading.{Reading}
use Rattle.cg_store.specs.declared.phase.Phase.{Phase}
use Rattle.cg_store.specs.declared.phase.Phase.TheVariants as phase
use Rattle.cg_store.specs.declared.phase.Progress.{Progress}
use Rattle.cg_store.specs.declared.phase.Progress.TheVariants.{More, Done}

abbrev pub phase_in : Compaction → Phase
phase_in is.Idle = phase.Idle
phase_in (is.Reading reading) = phase.Reading
phase_in (is.Writing writing) = phase.Writing
phase_in (is.Ready cut) = phase.Ready

-- the cut of the compaction, if one is under way
abbrev pub cut_in : Compaction → Option Cut
cut_in is.Idle = None
cut_in (is.Reading reading) = Some reading.cut
cut_in (is.Writing writing) = Some writing.cut
cut_in (is.Ready cut) = Some cut

-- in the phase Writing the commands of the snapshot that it has not written yet; none in the others
abbrev pub unwritten_in : Compaction → List Command
unwritten_in is.Idle = []
unwritten_in (is.Reading reading) = []
unwritten_in (is.Writing writing) = writing.frames
unwritten_in (is.Ready cut) = []

-- the frames before the cut: those of the base, and of the tails before it
abbrev pub frames_before : Cut → Content → Frames
frames_before cut has = frames_of (segments_before (Some cut.id) has)

-- the cut is a tail, and its number is that of the last command before it
pub record IsCut (cut : Cut) (has : Content) (number : ℕ) : Type 0 where
  pub is_tail : is_among cut.id (ids_of (tails has)) ≡ true
  pub number_is : cut.number + counted (frames_of (tails_from cut.id has)) ≡ number

-- a compaction that folds the frames before its cut: some were read, and make the state that it has; these are left
pub record IsFolding (has : Content) (number : ℕ) (left : Frames) (reading : Reading) : Type 0 where
  pub cut : IsCut reading.cut has number
  pub read : Frames
  pub before : frames_before reading.cut has ≡ read ++ left
  pub at : IsAt (segments_of has) reading.cursor read
  pub inside : segment_index reading.cursor < length (segments_of has)
  pub spelled : Spell read reading.durable

-- the fresh segments have the frames of the first commands of the snapshot of the state before the cut; these are left
pub record HasWritten {D : Type 0} {g : _} (honest : D → Bool) (history : D → History) (log : Log D g) (has : Content) (cut : Cut) (left : List Command) : Type 0 where
  pub state : State
  pub spelled : Spell (frames_before cut has) state
  pub fresh : List Filled
  pub holds : HasFresh honest history log fresh
  pub batches : List (List Command)
  pub frames : AreFramesOf (frames_of fresh) batches
  pub snapshot : snapshot_of state ≡ joined batches ++ left

-- for the contracts of private functions alone: the fresh segments have the frames of the first of these commands; the others
-- are left
pub record HasCopied {D : Type 0} {g : _} (honest : D → Bool) (history : D → History) (log : Log D g) (all left : List Command) : Type 0 where
  pub fresh : List Filled
  pub holds : HasFresh honest history log fresh
  pub batches : List (List Command)
  pub frames : AreFramesOf (frames_of fresh) batches
  pub order : all ≡ joined batches ++ left

-- two contents have the same frames in base and tail
pub record HaveSameFrames (has new : Content) : Type 0 where
  pub base : frames_of new.base ≡ frames_of has.base
  pub tail : frames_of (tails new) ≡ frames_of (tails has)

-- no segment was taken, or the free one of the least id
abbrev pub IsTakenFrom : ℕ → List ℕ → List ℕ → List ℕ → Type 0
IsTakenFrom sectors taken old new = (new ≡ old) ⊎ ((id : ℕ) × (IsLeastFree sectors taken id × (new ≡ old ++ id ∷ [])))

-- a compaction and the content of its log agree; of the frames before the cut these are left to read
abbrev pub Compacts : {D : Type 0} {g : _} → (D → Bool) → (D → History) → Log D g → Content → ℕ → Frames → Compaction → Type 0
Compacts honest history log has number left is.Idle = left ≡ []
Compacts honest history log has number left (is.Reading reading) = IsFolding has number left reading
Compacts honest history log has number left (is.Writing writing) = (left ≡ []) × IsCut writing.cut has number × HasWritten honest history log has writing.cut writing.frames
Compacts honest history log has number left (is.Ready cut) = (left ≡ []) × IsCut cut has number × HasWritten honest history log has cut []

-- More: one frame was read; Done: none was left
abbrev pub IsFrameRead : Progress → Frames → Frames → Type 0
IsFrameRead More old new = (frame : ℕ × List ℕ) × (old ≡ frame ∷ new)
IsFrameRead Done old new = (old ≡ []) × (new ≡ [])

-- these commands and the next of the others do not fit one frame
abbrev pub IsFull : List Command → List Command → Type 0
IsFull commands others = (next : Command) (rest : List Command) → others ≡ next ∷ rest → LARGEST_PAYLOAD_BYTES < length (spelling (commands ++ next ∷ []))

-- the next frame of a snapshot has these first commands of those that are left: as many as fit
pub record IsNextFrame (commands old new : List Command) : Type 0 where
  pub is_batch : IsBatch commands
  pub order : old ≡ commands ++ new
  pub full : IsFull commands new

-- the next frame of these commands of a snapshot does not fit what is left of the last fresh segment
pub record NeedsSegment (fresh : List ℕ) (end : ℕ) (unwritten : List Command) : Type 0 where
  pub commands : List Command
  pub rest : List Command
  pub next : IsNextFrame commands unwritten rest
  pub fits_not : fits_fresh fresh end (length (spelling commands)) ≡ false

-- More where commands were left, and Done where none was
abbrev pub IsWritten : Progress → List Command → List Command → Type 0
IsWritten More old new = (commands : List Command) × IsNextFrame commands old new
IsWritten Done old new = (old ≡ []) × (new ≡ [])
