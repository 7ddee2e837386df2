-- The lines that a script prints.
use Rattle.std.specs.Prelude.{ℕ, List, [], ◌++◌, codes, Option, None, Some, Result, Ok, Err}
use Rattle.std.specs.List.{flat_map}
use Rattle.std.specs.Fmt.{decimal}
use Rattle.cg_desk.specs.Outgoings.{reply_of, ticket_of}
use Rattle.cg_desk.specs.declared.outgoing.Outgoing.{Outgoing}
use Rattle.cg_line.specs.Replies.{reply_line}
use Rattle.cg_store.specs.declared.fault.OpenFault.{OpenFault}
use Rattle.cg_store.specs.declared.fault.OpenFault.TheVariants as fault
use Rattle.cg_store.specs.declared.fault.CompactFault.{CompactFault}
use Rattle.cg_store.specs.declared.fault.CompactFault.TheVariants as compact_fault
use Rattle.cg_store.specs.declared.phase.Progress.{Progress}
use Rattle.cg_world.specs.declared.step.StepNote.{StepNote}
use Rattle.cg_world.specs.declared.step.StepNote.TheVariants as note
use Rattle.cg_world.specs.declared.trace.Trace.{Trace}
use Rattle.cg_sim.specs.declared.stop.Stop.{Stop}
use Rattle.cg_sim.specs.declared.stop.Stop.TheVariants as stop

-- a line that reports a fault
abbrev pub fault_line : List ℕ → List ℕ
fault_line name = codes "FAULT " ++ name ++ codes "\n"

abbrev pub bad_line : ℕ → List ℕ
bad_line number = codes "BAD SCRIPT LINE " ++ decimal number ++ codes "\n"

-- a reply: its session, and its line
unfoldable pub reply_text : Outgoing → List ℕ
reply_text outgoing = codes "s" ++ decimal (ticket_of outgoing).session ++ codes " " ++ reply_line (reply_of outgoing) ++ codes "\n"

abbrev pub replies_text : List Outgoing → List ℕ
replies_text replies = flat_map reply_text replies

-- the line of a step: only refused steps have one
unfoldable pub note_text : StepNote → List ℕ
note_text note.Done = []
note_text note.More = []
note_text note.Nothing = []
note_text note.InFlight = fault_line (codes "InFlight")
note_text note.Full = fault_line (codes "Full")
note_text note.NoRoom = fault_line (codes "NoRoom")
note_text note.WrongPhase = fault_line (codes "WrongPhase")
note_text note.Failed = fault_line (codes "Failed")
note_text note.Device = fault_line (codes "Device")

-- why a call of a compaction was refused; out of memory has no line of its own
unfoldable pub compact_fault_text : CompactFault → List ℕ
compact_fault_text compact_fault.Memory = []
compact_fault_text compact_fault.Device = fault_line (codes "Device")
compact_fault_text compact_fault.NoRoom = fault_line (codes "NoRoom")
compact_fault_text compact_fault.WrongPhase = fault_line (codes "WrongPhase")
compact_fault_text compact_fault.Failed = fault_line (codes "Failed")

-- what is printed where a compaction is given up: why that was refused
abbrev pub abort_text : Result Progress CompactFault → List ℕ
abort_text (Ok progress) = []
abort_text (Err fault) = compact_fault_text fault

-- the refusal of a request that ran out of memory
abbrev pub last_text : Option Outgoing → List ℕ
last_text None = []
last_text (Some refused) = reply_text refused

-- what is printed of a run: why steps were refused, the replies that left, and the refusal of a request that ran out of
-- memory
abbrev pub trace_text : Trace → List ℕ
trace_text trace = flat_map note_text trace.notes ++ flat_map replies_text trace.out ++ last_text trace.last

-- how many commands, group records and offsets a load found
abbrev pub opening_text : ℕ × ℕ × ℕ → List ℕ
opening_text found = codes "LOADED " ++ decimal found.0 ++ codes " " ++ decimal found.1 ++ codes " " ++ decimal found.2 ++ codes "\n"

-- why a load failed; out of memory has no line of its own
abbrev pub open_fault_text : OpenFault → List ℕ
open_fault_text fault.Memory = []
open_fault_text fault.Device = fault_line (codes "Device")
open_fault_text fault.NoRoot = fault_line (codes "NoRoot")
open_fault_text fault.BadRoot = fault_line (codes "BadRoot")
open_fault_text fault.BadFrame = fault_line (codes "BadFrame")
open_fault_text fault.BadRecord = fault_line (codes "BadRecord")

-- what is printed when a script ends early
abbrev pub stop_text : Stop → List ℕ
stop_text (stop.BadLine number) = bad_line number
stop_text stop.Io = []
stop_text stop.Memory = fault_line (codes "Memory")
stop_text stop.Device = fault_line (codes "Device")
