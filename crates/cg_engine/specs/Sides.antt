-- The desk's side of an engine, and what the two sides keep for the test of a trail.
use Rattle.std.specs.Prelude.{ℕ, ◌+◌, Option, None, Some}
use Rattle.cg_desk.specs.Desks.{State, state_of}
use Rattle.cg_engine.specs.Booked.{appended_of, opening_in, since_in}
use Rattle.cg_engine.specs.Idle.{AreIdle}
use Rattle.cg_engine.specs.Units.{count_of, units_in}
use Rattle.cg_engine.specs.declared.trail.appended.Appended.{Appended}
use Rattle.cg_engine.specs.declared.booked.BookedReceipt.{BookedReceipt}
use Rattle.cg_engine.specs.declared.desk_side.DeskSide.{DeskSide}
use Rattle.cg_engine.specs.declared.trail.recorder.Recorder.{Recorder}
use Rattle.cg_engine.specs.declared.store_side.StoreSide.{StoreSide}
use Rattle.cg_engine.specs.declared.store_side.StoreSide.TheVariants.{Empty, Loading, Loaded}

-- the state of the desk
abbrev pub desk_of : {L : Type 0} → DeskSide L → State
desk_of side = state_of side.desk

-- no call waits for its answer
abbrev pub IsAtRest : {L : Type 0} → DeskSide L → Type 0
IsAtRest side = AreIdle side.sessions

abbrev pub recorder_of : {L : Type 0} → DeskSide L → Recorder
recorder_of desk = desk.recorder

-- what the store's side of an engine noted, if a store is loaded and a trail is kept
abbrev pub noted_by : {D L : Type 0} {g : _} → StoreSide D L g → Option Appended
noted_by (Empty book) = None
noted_by Loading = None
noted_by (Loaded store) = appended_of store

-- the number of the commands that were loaded, and of those that were appended since; 0 where nothing is loaded
abbrev pub opening_by : {D L : Type 0} {g : _} → StoreSide D L g → ℕ
opening_by (Empty book) = 0
opening_by Loading = 0
opening_by (Loaded store) = opening_in store

abbrev pub since_by : {D L : Type 0} {g : _} → StoreSide D L g → ℕ
since_by (Empty book) = 0
since_by Loading = 0
since_by (Loaded store) = since_in store

-- the units of an appended batch that is not settled
abbrev pub unsettled_units : {L : Type 0} → Option (BookedReceipt L) → ℕ
unsettled_units None = 0
unsettled_units (Some booked) = count_of booked.units

-- the units that no pass has: of settled commands on which no answer to a call rests, and of a batch that is not settled
abbrev pub unpaid_in : {L : Type 0} → DeskSide L → ℕ
unpaid_in desk = units_in desk.pool + unsettled_units desk.unsettled
