-- The state of a desk that contracts see, by its phase.
use Rattle.std.specs.Prelude.{ℕ}
use Rattle.cg_desk.specs.Books.{Books}
use Rattle.cg_desk.specs.Serving.{books}
use Rattle.cg_desk.specs.declared.desk.Phase.{Phase}
use Rattle.cg_desk.specs.declared.desk.Phase.TheVariants as phase

-- loading; serving; or failed, with the numbers of the last command and of the last settled command
pub data State : Type 0 where
  Loading : State
  Serving : (b : Books) → State
  Failed : (numbered : ℕ) → (settled : ℕ) → State

abbrev pub phase_state : Phase → State
phase_state phase.Loading = Loading
phase_state (phase.Serving s) = Serving (books s)
phase_state (phase.Failed numbered settled) = Failed numbered settled
