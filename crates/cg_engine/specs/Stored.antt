-- What every crash image of a store carries while no thread has the store.
use Rattle.std.specs.Prelude.{◌≡◌, ℕ, Bool, true, false, List, [], Option}
use Rattle.cg_disk.specs.Disk.{History, Image, IsImage, present}
use Rattle.cg_fold.specs.Durable.{State}
use Rattle.cg_record.specs.declared.command.Command.{Command}
use Rattle.cg_store.specs.Carried.{CarriesBeforeOrAfter}
use Rattle.cg_store.specs.Store.{StandsAt, disk_of, front_of, has_failed, sectors_of}
use Rattle.cg_store.specs.declared.store.Store.{Store}
use Rattle.cg_engine.specs.Appended.{Knows}
use Rattle.cg_engine.specs.declared.trail.appended.Appended.{Appended}

-- every crash image has n commands and this state, or these commands as well
abbrev pub AllCarryOr : History → ℕ → ℕ → State → List Command → Type 0
AllCarryOr history sectors n state batch = (image : Image) → IsImage (present history) image → CarriesBeforeOrAfter sectors n state batch image

-- Every crash image has the number of the store and this state. Once the disk failed, an image may have the batch that failed
-- as well.
pub record IsStored {D : Type 0} {g : _} (honest : D → Bool) (history : D → History) (store : Store D g) (state : State) : Type 0 where
  pub failing : List Command
  pub images : AllCarryOr (history (disk_of store)) (sectors_of store) (front_of store) state failing
  pub whole : has_failed store ≡ false → failing ≡ []
  pub stands : has_failed store ≡ false → StandsAt honest history store (front_of store) state

-- the same, of a store on an honest disk
abbrev pub Stores : {D : Type 0} {g : _} → (D → Bool) → (D → History) → Store D g → State → Type 0
Stores honest history store state = honest (disk_of store) ≡ true → IsStored honest history store state

-- a store has some state: the one that is known, where a trail is kept
pub record IsKept {D : Type 0} {g : _} (honest : D → Bool) (history : D → History) (store : Store D g) (appended : Option Appended) : Type 0 where
  pub state : State
  pub known : Knows appended state
  pub stored : Stores honest history store state
