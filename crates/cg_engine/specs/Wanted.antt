-- When a compaction is wanted.
use Rattle.std.specs.Prelude.{ℕ, Bool, true, false, nat_lt}
use Rattle.cg_store.specs.declared.phase.Phase.{Phase}
use Rattle.cg_store.specs.declared.phase.Phase.TheVariants.{Idle, Reading, Writing, Ready}

-- a store that has not failed has a compaction under way, or fewer free segments than this
abbrev pub is_wanted : Bool → Phase → ℕ → ℕ → Bool
is_wanted true phase free least = false
is_wanted false Idle free least = nat_lt free least
is_wanted false Reading free least = true
is_wanted false Writing free least = true
is_wanted false Ready free least = true
