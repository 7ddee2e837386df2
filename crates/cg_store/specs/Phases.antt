-- The phases of a compaction, and what its calls report.
use Rattle.std.specs.Prelude.{◌≡◌, ◌⊎◌, Bool, true, false, nat_lt, Option, Some, None, Result, Ok, Err, if◌then◌else◌}
use Rattle.cg_gate.specs.declared.layout.TheConstants.{SEGMENT_SECTORS}
use Rattle.cg_log.specs.Room.{Room, can_roll, rolled_room}
use Rattle.cg_store.specs.declared.phase.Phase.{Phase}
use Rattle.cg_store.specs.declared.phase.Phase.TheVariants.{Idle, Reading, Writing, Ready}
use Rattle.cg_store.specs.declared.phase.Progress.{Progress}
use Rattle.cg_store.specs.declared.phase.Progress.TheVariants.{More, Done}
use Rattle.cg_store.specs.declared.fault.CompactFault.{CompactFault}
use Rattle.cg_store.specs.declared.fault.CompactFault.TheVariants as compact_fault

abbrev pub is_phase : Phase → Phase → Bool
is_phase Idle Idle = true
is_phase Idle Reading = false
is_phase Idle Writing = false
is_phase Idle Ready = false
is_phase Reading Idle = false
is_phase Reading Reading = true
is_phase Reading Writing = false
is_phase Reading Ready = false
is_phase Writing Idle = false
is_phase Writing Reading = false
is_phase Writing Writing = true
is_phase Writing Ready = false
is_phase Ready Idle = false
is_phase Ready Reading = false
is_phase Ready Writing = false
is_phase Ready Ready = true

-- the phase after a call that leads to the next phase when it says Done: WrongPhase and Failed leave the compaction as it is, and
-- every other fault ends it
abbrev pub phase_after : Phase → Phase → Result Progress CompactFault → Phase
phase_after next old (Ok More) = old
phase_after next old (Ok Done) = next
phase_after next old (Err compact_fault.Memory) = Idle
phase_after next old (Err compact_fault.Device) = Idle
phase_after next old (Err compact_fault.NoRoom) = Idle
phase_after next old (Err compact_fault.WrongPhase) = old
phase_after next old (Err compact_fault.Failed) = old

-- the refusal that needs neither memory nor the disk: the disk failed earlier, or the compaction is in another phase
abbrev pub phase_refusal : Bool → Phase → Phase → Option CompactFault
phase_refusal failed wanted old = if failed then Some compact_fault.Failed else (if is_phase wanted old then None else Some compact_fault.WrongPhase)

-- a fault that ends the compaction
abbrev pub IsEnd : CompactFault → Type 0
IsEnd fault = (fault ≡ compact_fault.Memory) ⊎ ((fault ≡ compact_fault.Device) ⊎ (fault ≡ compact_fault.NoRoom))

-- the reported fault: the refusal if there is one, otherwise one that ends the compaction
abbrev pub IsCompactFaultOf : Option CompactFault → CompactFault → Type 0
IsCompactFaultOf (Some refusal) fault = fault ≡ refusal
IsCompactFaultOf None fault = IsEnd fault

-- the disk failed in the call
abbrev pub is_compact_failure : {T : Type 0} → Result T CompactFault → Bool
is_compact_failure (Ok x) = false
is_compact_failure (Err compact_fault.Memory) = false
is_compact_failure (Err compact_fault.Device) = true
is_compact_failure (Err compact_fault.NoRoom) = false
is_compact_failure (Err compact_fault.WrongPhase) = false
is_compact_failure (Err compact_fault.Failed) = false

-- the last tail has a frame, so a compaction begins with a new one
abbrev pub needs_roll : Room → Bool
needs_roll room = nat_lt room.sectors SEGMENT_SECTORS

-- a compaction can begin
unfoldable pub can_begin : Room → Bool
can_begin room = if needs_roll room then can_roll room else true

-- the room when it has begun
unfoldable pub begun_room : Room → Room
begun_room room = if needs_roll room then rolled_room room else room

-- the result of an abort
unfoldable pub abort_result : Bool → Phase → Result Progress CompactFault
abort_result true phase = Err compact_fault.Failed
abort_result false Idle = Err compact_fault.WrongPhase
abort_result false Reading = Ok Done
abort_result false Writing = Ok Done
abort_result false Ready = Ok Done
