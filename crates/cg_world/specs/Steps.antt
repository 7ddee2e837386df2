-- One step of a world, and what the disk holds after it.
use Rattle.std.specs.Prelude.{◌≡◌, ◌≢◌, ◌+◌, ◌≤◌, ℕ, Bool, true, false, List, [], ◌∷◌, None, IfSome}
use Rattle.cg_disk.specs.Disk.{History, LeavesOnly}
use Rattle.cg_fold.specs.Durable.{State}
use Rattle.cg_store.specs.Carried.{Carries}
use Rattle.cg_store.specs.Store.{IsUnchanged, StandsAt, disk_of, front_of, sectors_of}
use Rattle.cg_desk.specs.Desks.{settled_of}
use Rattle.cg_desk.specs.declared.outgoing.Outgoing.{Outgoing}
use Rattle.cg_world.specs.Carrying.{CarriesFront, HasStored, HoldsAtLeast}
use Rattle.cg_world.specs.Runs.{to_store, unstored}
use Rattle.cg_world.specs.Sights.{sight, store_of, store_sight}
use Rattle.cg_world.specs.StoreTurns.{IsStoreStop, IsStoreTurn, calls_in, is_append, is_read_without_room, wanted_phase}
use Rattle.cg_world.specs.Turns.{IsNoteOf, out_of, turn}
use Rattle.cg_world.specs.declared.step.Step.{Step}
use Rattle.cg_world.specs.declared.step.StepNote.{StepNote}
use Rattle.cg_world.specs.declared.step.StepNote.TheVariants.{Device}
use Rattle.cg_world.specs.declared.world.World.{World}

-- a step was taken with this note, and these replies left in it
pub record IsTaken {D : Type 0} {g : _} (honest : D → Bool) (history : D → History) (step : Step) (note : StepNote) (out : List Outgoing) (old new : World D g) : Type 0 where
  pub noted : IsNoteOf step (sight old) note
  pub after : (turn step note (sight old)).after ≡ sight new
  pub left : out_of (turn step note (sight old)) ≡ out
  -- each image carries the pair plus a prefix of what may be stored; so does the store, unless its disk failed; and
  -- every image that a crash may leave now has all settled commands
  pub images : (n : ℕ) (state : State) → StandsAt honest history (store_of old) n state
      → LeavesOnly (history (disk_of (store_of old))) (history (disk_of (store_of new))) (CarriesFront (sectors_of (store_of old)) n state (to_store ((step, note) ∷ []) (sight old)))
  pub stored : (n : ℕ) (state : State) → StandsAt honest history (store_of old) n state → note ≢ Device
      → HasStored honest history (store_of new) n state (to_store ((step, note) ∷ []) (sight old)) (unstored (sight new))
  pub holds : (n : ℕ) (state : State) → StandsAt honest history (store_of old) n state → HoldsAtLeast (sectors_of (store_of old)) (settled_of (sight new).desk) (history (disk_of (store_of new)))
  pub same_sectors : sectors_of (store_of new) ≡ sectors_of (store_of old)
  -- every step but an append keeps the pair in every image, whether or not the disk fails
  pub still : is_append (step, note) ≡ false → (n : ℕ) (state : State) → StandsAt honest history (store_of old) n state
      → LeavesOnly (history (disk_of (store_of old))) (history (disk_of (store_of new))) (λ image. Carries image (sectors_of (store_of old)) n state) × (note ≢ Device → StandsAt honest history (store_of new) n state)
  -- what the step does to the store
  pub store : IsStoreTurn step note (sight old) (store_sight history old) (store_sight history new)
  -- the disk is called only as often as the step allows
  pub clock : honest (disk_of (store_of old)) ≡ true
      → IfSome (calls_in step (sight old) (store_sight history old).room) (λ calls. (history (disk_of (store_of new))).now ≤ (history (disk_of (store_of old))).now + calls)
  -- a frame that is read for a compaction is refused NoRoom only on a disk that is not honest
  pub reads : (n : ℕ) (state : State) → StandsAt honest history (store_of old) n state → is_read_without_room (step, note) ≡ false

-- an allocation failed for a step, which was not taken
pub record IsOutOfMemory {D : Type 0} {g : _} (honest : D → Bool) (history : D → History) (step : Step) (old new : World D g) : Type 0 where
  pub same : sight new ≡ sight old
  -- a step of a compaction ends the compaction, and keeps what every image carries; no other step changes the store
  pub stop : IsStoreStop step (sight old) (store_sight history old) (store_sight history new)
  pub unchanged : wanted_phase step ≡ None → IsUnchanged (store_of old) (store_of new)
  pub images : (n : ℕ) (state : State) → StandsAt honest history (store_of old) n state
      → LeavesOnly (history (disk_of (store_of old))) (history (disk_of (store_of new))) (λ image. Carries image (sectors_of (store_of old)) n state)
  pub stored : (n : ℕ) (state : State) → StandsAt honest history (store_of old) n state → StandsAt honest history (store_of new) n state
  pub same_sectors : sectors_of (store_of new) ≡ sectors_of (store_of old)
  pub same_front : front_of (store_of new) ≡ front_of (store_of old)
