-- Passes without a call that waits for its answer.
use Rattle.std.specs.Prelude.{◌≡◌, ℕ, Option, Some, None}
use Rattle.slab.specs.Slab.{Slab, get}
use Rattle.cg_engine.specs.declared.pass_state.Session.{Session}

-- if there is a pass, no call of it waits
abbrev pub IsIdle : {L : Type 0} → Option (Session L) → Type 0
IsIdle None = Unit {0}
IsIdle (Some session) = session.waiting ≡ None

-- no call of any pass waits
abbrev pub AreIdle : {L : Type 0} → Slab (Session L) → Type 0
AreIdle sessions = (key : ℕ) → IsIdle (get sessions key)
