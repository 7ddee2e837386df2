-- What an engine leaves on its disk.
use Rattle.std.specs.Prelude.{◌≡◌, ℕ, Bool, true, List, Option, Some, None, map}
use Rattle.cg_disk.specs.Disk.{History}
use Rattle.cg_fold.specs.Durable.{State}
use Rattle.cg_record.specs.declared.command.Command.{Command}
use Rattle.cg_request.specs.declared.ticket.Ticket.{Ticket}
use Rattle.cg_desk.specs.Answering.{refusal}
use Rattle.cg_desk.specs.declared.outgoing.Outgoing.{Outgoing}
use Rattle.cg_engine.specs.Appended.{Knows}
use Rattle.cg_engine.specs.Stored.{AllCarryOr}
use Rattle.cg_engine.specs.declared.trail.appended.Appended.{Appended}

-- every crash image of an honest disk has this number of commands and this state, or one further batch as well
abbrev pub LeftIn : {D : Type 0} → (D → Bool) → (D → History) → (D → ℕ) → D → ℕ → State → Type 0
LeftIn honest history size disk front state = honest disk ≡ true → (failing : List Command) × AllCarryOr (history disk) (size disk) front state failing

-- the same of some state: the one that is known, where the appended commands are noted
pub record HasLeft {D : Type 0} (honest : D → Bool) (history : D → History) (size : D → ℕ) (appended : Option Appended) (disk : D) (front : ℕ) : Type 0 where
  pub state : State
  pub known : Knows appended state
  pub images : LeftIn honest history size disk front state

-- the disk that an engine leaves, if one was loaded; otherwise its number is 0
abbrev pub Leaves : {D : Type 0} → (D → Bool) → (D → History) → (D → ℕ) → Option Appended → Option D → ℕ → Type 0
Leaves honest history size appended None front = front ≡ 0
Leaves honest history size appended (Some disk) front = HasLeft honest history size appended disk front

-- the same, with this state
abbrev pub LeavesIn : {D : Type 0} → (D → Bool) → (D → History) → (D → ℕ) → Option D → ℕ → State → Type 0
LeavesIn honest history size None front state = front ≡ 0
LeavesIn honest history size (Some disk) front state = LeftIn honest history size disk front state

-- these are refusals with 15
abbrev pub AreRefusals : List Outgoing → Type 0
AreRefusals out = (calls : List Ticket) × (out ≡ map refusal calls)
