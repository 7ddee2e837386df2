-- What an engine that keeps a trail knows of its store: the loaded state, and the batches that were appended to it.
use Rattle.std.specs.Prelude.{◌≡◌, ℕ, List, length, Option, Some, None}
use Rattle.std.specs.Option.{ForSome}
use Rattle.cg_fold.specs.Durable.{State, after, folded}
use Rattle.cg_record.specs.declared.command.Command.{Command}
use Rattle.cg_store.specs.Carried.{joined}
use Rattle.cg_trail.specs.Trails.{TrailParts, BeginsWith}
use Rattle.cg_engine.specs.declared.trail.appended.Appended.{Appended}

-- the commands of the loaded state
abbrev pub loaded_in : Appended → List Command
loaded_in a = a.loaded.items

-- the commands that were appended since loading, in their order
abbrev pub appended_in : Appended → List Command
appended_in a = joined a.batches.items

-- the state after them
abbrev pub state_in : Appended → State
state_in a = after (folded (loaded_in a)) (appended_in a)

-- where this is known, it is the state
abbrev pub Knows : Option Appended → State → Type 0
Knows None state = Unit {0}
Knows (Some a) state = state_in a ≡ state

-- where the appended commands are noted, they are this many
abbrev pub AreAsMany : Option Appended → ℕ → Type 0
AreAsMany appended number = ForSome appended (λ a. length (appended_in a) ≡ number)

-- a trail that made these commands has the same loaded state, and the appended commands are the first of these
abbrev pub Bears : Appended → TrailParts → List Command → Type 0
Bears a t made = (t.loaded ≡ loaded_in a) × BeginsWith made (appended_in a)

-- the appended commands are noted, and the same holds of them; false where they are not noted
abbrev pub BearsIfNoted : Option Appended → TrailParts → List Command → Type 0
BearsIfNoted None t made = ⊥
BearsIfNoted (Some a) t made = Bears a t made
