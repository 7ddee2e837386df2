-- What images carry while a world runs.
use Rattle.std.specs.Prelude.{◌≡◌, ◌+◌, ◌≤◌, ℕ, Bool, ◌++◌, List, length}
use Rattle.cg_disk.specs.Disk.{History, Image, IsImage, present}
use Rattle.cg_fold.specs.Durable.{State, after}
use Rattle.cg_record.specs.declared.command.Command.{Command}
use Rattle.cg_store.specs.Carried.{Carries}
use Rattle.cg_store.specs.Store.{StandsAt}
use Rattle.cg_store.specs.declared.store.Store.{Store}

-- an image carries the pair plus a prefix of these commands
pub record CarriesFront (sectors n : ℕ) (state : State) (commands : List Command) (image : Image) : Type 0 where
  pub front : List Command
  pub rest : List Command
  pub whole : commands ≡ front ++ rest
  pub carried : Carries image sectors (n + length front) (after state front)

-- a store has the pair plus a prefix of these commands, and not the rest
pub record HasStored {D : Type 0} {g : _} (honest : D → Bool) (history : D → History) (store : Store D g) (n : ℕ) (state : State) (commands rest : List Command) : Type 0 where
  pub front : List Command
  pub whole : commands ≡ front ++ rest
  pub stands : StandsAt honest history store (n + length front) (after state front)

-- an image carries at least this many commands
pub record CarriesAtLeast (sectors count : ℕ) (image : Image) : Type 0 where
  pub number : ℕ
  pub state : State
  pub enough : count ≤ number
  pub carried : Carries image sectors number state

-- every image that a crash may leave now carries at least this many commands
abbrev pub HoldsAtLeast : ℕ → ℕ → History → Type 0
HoldsAtLeast sectors count history = (image : Image) → IsImage (present history) image → CarriesAtLeast sectors count image

-- from this moment on, each image that a crash may leave carries at least this many commands
abbrev pub CarriesSince : ℕ → History → ℕ → ℕ → Type 0
CarriesSince sectors history since count = (k : ℕ) → since ≤ k → k ≤ history.now → (image : Image) → IsImage (history.at k) image → CarriesAtLeast sectors count image
