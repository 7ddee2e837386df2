-- What each step does to the store of a world.
use Rattle.std.specs.Prelude.{◌≡◌, ◌⊎◌, ◌+◌, ◌<◌, ℕ, nat_lt, Bool, true, false, List, [], ◌∷◌, not, Option, None, Some, Result, Ok, Err}
use Rattle.cg_log.specs.Room.{Room}
use Rattle.cg_store.specs.Batches.{calls_for, has_room, room_after}
use Rattle.cg_store.specs.Phases.{begun_room, can_begin, phase_refusal}
use Rattle.cg_store.specs.declared.fault.CompactFault.{CompactFault}
use Rattle.cg_store.specs.declared.fault.CompactFault.TheVariants as fault
use Rattle.cg_store.specs.declared.phase.Phase.{Phase}
use Rattle.cg_store.specs.declared.phase.Phase.TheVariants.{Idle, Reading, Writing, Ready}
use Rattle.cg_store.specs.declared.phase.Progress.{Progress}
use Rattle.cg_store.specs.declared.phase.Progress.TheVariants as progress
use Rattle.cg_desk.specs.Desks.{settled_of}
use Rattle.cg_world.specs.Agreeing.{is_serving}
use Rattle.cg_world.specs.Sights.{Sight, StoreSight, no_room}
use Rattle.cg_world.specs.Turns.{in_flight, turn}
use Rattle.cg_world.specs.declared.step.Step.{Step}
use Rattle.cg_world.specs.declared.step.Step.TheVariants.{Append, CompactStart, CompactRead, CompactWrite, CompactSwitch}
use Rattle.cg_world.specs.declared.step.StepNote.{StepNote}
use Rattle.cg_world.specs.declared.step.StepNote.TheVariants.{Done, More, Full, NoRoom, WrongPhase, Failed, Device}

-- Steps of a compaction.

-- the phase in which a step of a compaction is taken; no phase is wanted for the other steps
abbrev pub wanted_phase : Step → Option Phase
wanted_phase CompactStart = Some Idle
wanted_phase CompactRead = Some Reading
wanted_phase CompactWrite = Some Writing
wanted_phase CompactSwitch = Some Ready
wanted_phase step = None

-- the note of a call of a compaction; None: an allocation failed
abbrev pub note_of_call : Result Progress CompactFault → Option StepNote
note_of_call (Ok progress.More) = Some More
note_of_call (Ok progress.Done) = Some Done
note_of_call (Err fault.Memory) = None
note_of_call (Err fault.Device) = Some Device
note_of_call (Err fault.NoRoom) = Some NoRoom
note_of_call (Err fault.WrongPhase) = Some WrongPhase
note_of_call (Err fault.Failed) = Some Failed

-- Notes.

-- the store has room for the batch
abbrev pub fits : Sight → Room → Bool
fits w room = has_room room (settled_of w.desk) (in_flight w.desk)

-- a batch is refused Full exactly where the store has no room for it
abbrev pub IsFitNote : Bool → StepNote → Type 0
IsFitNote fit Done = fit ≡ true
IsFitNote fit Full = fit ≡ false
IsFitNote fit Device = fit ≡ true
IsFitNote fit note = Unit {0}

-- a step of a compaction is refused Failed or WrongPhase exactly where this is its refusal
abbrev pub IsPhaseNote : Option CompactFault → StepNote → Type 0
IsPhaseNote refusal Failed = refusal ≡ Some fault.Failed
IsPhaseNote refusal WrongPhase = refusal ≡ Some fault.WrongPhase
IsPhaseNote refusal note = refusal ≡ None

-- of a step that has no More: refused NoRoom exactly where the room does not allow it
abbrev pub IsRoomNote : Bool → StepNote → Type 0
IsRoomNote allowed Done = allowed ≡ true
IsRoomNote allowed More = ⊥
IsRoomNote allowed NoRoom = allowed ≡ false
IsRoomNote allowed Device = allowed ≡ true
IsRoomNote allowed note = Unit {0}

-- a frame of a snapshot is refused NoRoom only where no segment is free
abbrev pub IsWriteNote : Room → StepNote → Type 0
IsWriteNote room NoRoom = room.segments ≡ 0
IsWriteNote room note = Unit {0}

-- the refusal of a step of a compaction that needs neither memory nor the disk
abbrev pub refusal_in : Sight → Phase → Phase → Option CompactFault
refusal_in w wanted old = phase_refusal (not (is_serving w.desk)) wanted old

-- the store's part of a note
unfoldable pub IsStoreNote : Step → StepNote → Sight → StoreSight → Type 0
IsStoreNote Append note w s = IsFitNote (fits w s.room) note
IsStoreNote CompactStart note w s = IsPhaseNote (refusal_in w Idle s.phase) note × IsRoomNote (can_begin s.room) note
IsStoreNote CompactRead note w s = IsPhaseNote (refusal_in w Reading s.phase) note
IsStoreNote CompactWrite note w s = IsPhaseNote (refusal_in w Writing s.phase) note × IsWriteNote s.room note
IsStoreNote CompactSwitch note w s = IsPhaseNote (refusal_in w Ready s.phase) note × IsRoomNote (nat_lt 0 s.room.roots) note
IsStoreNote step note w s = Unit {0}

-- Phases.

-- the phase after a step of a compaction that leads to the next phase when it is done
abbrev pub phase_with : Phase → Phase → StepNote → Phase
phase_with next old Done = next
phase_with next old NoRoom = Idle
phase_with next old Device = Idle
phase_with next old note = old

-- the phase after a step; only a step of a compaction changes it
unfoldable pub phase_then : Step → StepNote → Phase → Phase
phase_then CompactStart note old = phase_with Reading old note
phase_then CompactRead note old = phase_with Writing old note
phase_then CompactWrite note old = phase_with Ready old note
phase_then CompactSwitch note old = phase_with Idle old note
phase_then step note old = old

-- Room.

-- the last tail and the roots are the same
pub record HasSameTail (old new : Room) : Type 0 where
  pub sectors : new.sectors ≡ old.sectors
  pub roots : new.roots ≡ old.roots

-- a frame of a snapshot took at most one segment
pub record HasOneLess (old new : Room) : Type 0 where
  pub same : HasSameTail old new
  pub segments : (new.segments ≡ old.segments) ⊎ (new.segments + 1 ≡ old.segments)

-- an append takes the room of its frame
abbrev pub IsAppendedRoom : StepNote → Sight → Room → Room → Type 0
IsAppendedRoom Done w old new = new ≡ room_after old (in_flight w.desk)
IsAppendedRoom Device w old new = new ≡ no_room
IsAppendedRoom note w old new = new ≡ old

-- the start of a compaction takes the room of a new tail, if one is needed
abbrev pub IsStartedRoom : StepNote → Room → Room → Type 0
IsStartedRoom Done old new = new ≡ begun_room old
IsStartedRoom Device old new = new ≡ no_room
IsStartedRoom note old new = new ≡ old

-- a frame that is read takes no room
abbrev pub IsReadRoom : StepNote → Room → Room → Type 0
IsReadRoom Device old new = new ≡ no_room
IsReadRoom note old new = new ≡ old

-- a frame of a snapshot leaves the last tail as it is
abbrev pub IsWrittenRoom : StepNote → Room → Room → Type 0
IsWrittenRoom Done old new = HasOneLess old new
IsWrittenRoom More old new = HasOneLess old new
IsWrittenRoom NoRoom old new = HasSameTail old new
IsWrittenRoom Device old new = new ≡ no_room
IsWrittenRoom note old new = new ≡ old

-- a switch takes a root; which segments are free then is said of the store (`compact_switch`)
abbrev pub IsSwitchedRoom : StepNote → Room → Room → Type 0
IsSwitchedRoom Done old new = new.roots + 1 ≡ old.roots
IsSwitchedRoom NoRoom old new = new.roots ≡ old.roots
IsSwitchedRoom Device old new = new ≡ no_room
IsSwitchedRoom note old new = new ≡ old

-- the room before and after a step; the steps of the desk take none
unfoldable pub IsRoomThen : Step → StepNote → Sight → Room → Room → Type 0
IsRoomThen Append note w old new = IsAppendedRoom note w old new
IsRoomThen CompactStart note w old new = IsStartedRoom note old new
IsRoomThen CompactRead note w old new = IsReadRoom note old new
IsRoomThen CompactWrite note w old new = IsWrittenRoom note old new
IsRoomThen CompactSwitch note w old new = IsSwitchedRoom note old new
IsRoomThen step note w old new = new ≡ old

-- Turns of the store.

-- the store before and after a step with this note
pub record IsStoreTurn (step : Step) (note : StepNote) (w : Sight) (old new : StoreSight) : Type 0 where
  pub noted : IsStoreNote step note w old
  pub phase : new.phase ≡ phase_then step note old.phase
  pub room : IsRoomThen step note w old.room new.room

-- each step leads from one of these to the next; the first is the store before the steps
unfoldable pub AreStoreTurns : List (Step × StepNote) → Sight → StoreSight → List StoreSight → Type 0
AreStoreTurns [] w s [] = Unit {0}
AreStoreTurns [] w s (t ∷ ts) = ⊥
AreStoreTurns (p ∷ ps) w s [] = ⊥
AreStoreTurns (p ∷ ps) w s (t ∷ ts) = IsStoreTurn p.0 p.1 w s t × AreStoreTurns ps (turn p.0 p.1 w).after t ts

-- the store after the last step
unfoldable pub last_store : StoreSight → List StoreSight → StoreSight
last_store s [] = s
last_store s (t ∷ ts) = last_store t ts

-- the room once an allocation failed for a step of a compaction
abbrev pub IsRoomFreed : Step → Room → Room → Type 0
IsRoomFreed CompactWrite old new = HasSameTail old new
IsRoomFreed CompactSwitch old new = new.roots ≡ old.roots
IsRoomFreed step old new = new ≡ old

-- a step asks for memory only where its room allows it
abbrev pub IsRoomAsked : Step → Room → Type 0
IsRoomAsked CompactStart room = can_begin room ≡ true
IsRoomAsked CompactSwitch room = 0 < room.roots
IsRoomAsked step room = Unit {0}

-- a compaction has ended, since an allocation failed for its step
pub record IsEnded (step : Step) (wanted : Phase) (w : Sight) (old new : StoreSight) : Type 0 where
  pub taken : refusal_in w wanted old.phase ≡ None
  pub asked : IsRoomAsked step old.room
  pub idle : new.phase ≡ Idle
  pub room : IsRoomFreed step old.room new.room

-- the store before and after a step for which an allocation failed: a compaction ends, and no other step changes the store
abbrev pub IsStopIn : Option Phase → Step → Sight → StoreSight → StoreSight → Type 0
IsStopIn None step w old new = new ≡ old
IsStopIn (Some wanted) step w old new = IsEnded step wanted w old new

-- the same for a step
abbrev pub IsStoreStop : Step → Sight → StoreSight → StoreSight → Type 0
IsStoreStop step w old new = IsStopIn (wanted_phase step) step w old new

-- Calls of the disk.

-- the most calls of the disk that a step makes, if the contracts of the store bound them
abbrev pub calls_in : Step → Sight → Room → Option ℕ
calls_in Append w room = Some (calls_for room (in_flight w.desk))
calls_in CompactStart w room = None
calls_in CompactRead w room = None
calls_in CompactWrite w room = None
calls_in CompactSwitch w room = None
calls_in step w room = Some 0

-- a frame was not read for lack of room, which an honest disk never causes
abbrev pub is_read_without_room : Step × StepNote → Bool
is_read_without_room (CompactRead, NoRoom) = true
is_read_without_room p = false

-- an append, which alone changes what the store has
abbrev pub is_append : Step × StepNote → Bool
is_append (Append, note) = true
is_append p = false
