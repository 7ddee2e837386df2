-- What a run guarantees to its callers and on the disk.
use Rattle.std.specs.Prelude.{◌≡◌, ◌⊎◌, ◌+◌, ◌<◌, ◌≤◌, ℕ, Bool, true, false, ◌++◌, List, [], ◌∷◌, length, drop, Option, None, Some, IfSome}
use Rattle.std.specs.List.{list_any, zip}
use Rattle.cg_disk.specs.Disk.{History, LeavesOnly}
use Rattle.cg_fold.specs.Durable.{State}
use Rattle.cg_store.specs.Carried.{Carries}
use Rattle.cg_store.specs.Store.{StandsAt, disk_of, fresh_of, front_of, phase_of, sectors_of}
use Rattle.cg_store.specs.declared.phase.Phase.TheVariants.{Idle}
use Rattle.cg_desk.specs.Desks.{settled_of}
use Rattle.cg_desk.specs.declared.outgoing.Outgoing.{Outgoing}
use Rattle.cg_world.specs.Agreeing.{is_serving}
use Rattle.cg_world.specs.Carrying.{CarriesAtLeast, CarriesFront, CarriesSince, HasStored, HoldsAtLeast}
use Rattle.cg_world.specs.Faults.{is_failure, refusal_of, stopped_by_device}
use Rattle.cg_world.specs.Replying.{IsOrderly, LeavesWhenSettled}
use Rattle.cg_world.specs.Runs.{AreNotes, after_run, outs_of, to_store, unstored}
use Rattle.cg_world.specs.Sights.{Sight, StoreSight, sight, store_of, store_sight}
use Rattle.cg_world.specs.StoreTurns.{AreStoreTurns, IsStoreStop, calls_in, is_append, is_read_without_room, last_store}
use Rattle.cg_world.specs.Turns.{turn}
use Rattle.cg_world.specs.declared.step.Step.{Step}
use Rattle.cg_world.specs.declared.step.StepNote.{StepNote}
use Rattle.cg_world.specs.declared.step.StepNote.TheVariants.{Device}
use Rattle.cg_world.specs.declared.step.StopCause.{StopCause}
use Rattle.cg_world.specs.declared.step.StopCause.TheVariants as cause
use Rattle.cg_world.specs.declared.trace.Trace.{Trace}
use Rattle.cg_world.specs.declared.world.World.{World}

-- the steps that were taken, each with its note
abbrev pub went : List Step → Trace → List (Step × StepNote)
went steps trace = zip steps trace.notes

-- the disk failed in no step
abbrev pub AreSound : List StepNote → Type 0
AreSound notes = list_any is_failure notes ≡ false

-- the disk failed in the last step, and in no earlier one
pub record AreBroken (notes : List StepNote) : Type 0 where
  pub front : List StepNote
  pub sound : AreSound front
  pub is : notes ≡ front ++ Device ∷ []

-- how a run ends: all steps were taken; or an allocation failed for the next; or the disk failed in the last that was
-- taken
abbrev pub Ends : List Step → List StepNote → Option StopCause → Type 0
Ends steps notes None = AreSound notes × (length notes ≡ length steps)
Ends steps notes (Some cause.Memory) = AreSound notes × (length notes < length steps)
Ends steps notes (Some cause.Device) = AreBroken notes × (length notes ≤ length steps)

-- the refusal of the first of these steps
abbrev pub refusal_of_first : List Step → Option Outgoing
refusal_of_first [] = None
refusal_of_first (s ∷ ss) = refusal_of s

-- the refusal of the step for which an allocation failed
abbrev pub refusal_at : List Step → List StepNote → Option StopCause → Option Outgoing
refusal_at steps notes None = None
refusal_at steps notes (Some cause.Memory) = refusal_of_first (drop (length notes) steps)
refusal_at steps notes (Some cause.Device) = None

-- what the trace of a run says
pub record IsTraced {D : Type 0} {g : _} (steps : List Step) (old new : World D g) (trace : Trace) : Type 0 where
  -- the notes are possible, and what left in each step and the world afterwards are those of the noted steps
  pub notes : AreNotes (went steps trace) (sight old)
  pub out : trace.out ≡ outs_of (went steps trace) (sight old)
  pub world : sight new ≡ after_run (went steps trace) (sight old)
  pub ends : Ends steps trace.notes trace.stopped
  pub last : trace.last ≡ refusal_at steps trace.notes trace.stopped
  -- the release law, whatever the disk gives; a world that was opened is orderly, and a run leaves it so
  pub released : IsOrderly (sight old) → LeavesWhenSettled (went steps trace) (sight old)
  pub orderly : IsOrderly (sight old) → IsOrderly (sight new)
  -- after a failure of the disk the desk has failed
  pub fails : stopped_by_device trace.stopped ≡ true → is_serving (sight new).desk ≡ false

-- from the moment at which a step ended, every image carries at least the commands that were settled after the step; the stores
-- are those before the steps and after each of them
unfoldable pub KeepsSettled : ℕ → History → List (Step × StepNote) → Sight → StoreSight → List StoreSight → Type 0
KeepsSettled sectors history [] w s [] = CarriesSince sectors history s.clock (settled_of w.desk)
KeepsSettled sectors history [] w s (t ∷ ts) = ⊥
KeepsSettled sectors history (p ∷ ps) w s [] = ⊥
KeepsSettled sectors history (p ∷ ps) w s (t ∷ ts) =
    CarriesSince sectors history s.clock (settled_of w.desk)
    × (s.clock ≤ t.clock)
    × IfSome (calls_in p.0 w s.room) (λ calls. t.clock ≤ s.clock + calls)
    × KeepsSettled sectors history ps (turn p.0 p.1 w).after t ts

-- what the disk keeps in a run whose store has n commands and this state when it begins, from its entry to its exit
pub record DiskKeeps (sectors n : ℕ) (state : State) (ps : List (Step × StepNote)) (w : Sight) (s : StoreSight) (stores : List StoreSight) (entry exit : History) : Type 0 where
  -- the prefix law: each image since the entry carries the pair plus a prefix of the commands that the run may store
  pub prefix : LeavesOnly entry exit (CarriesFront sectors n state (to_store ps w))
  -- the durability law: each image since the entry has all commands that were settled then; each that a crash may leave at
  -- the exit has all that are settled then; and so it is at each step
  pub at_entry : LeavesOnly entry exit (CarriesAtLeast sectors (settled_of w.desk))
  pub at_exit : HoldsAtLeast sectors (settled_of (after_run ps w).desk) exit
  pub at_steps : KeepsSettled sectors exit ps w s stores

-- what a run keeps whose store has n commands and this state when it begins
pub record RunKeeps {D : Type 0} {g : _} (honest : D → Bool) (history : D → History) (n : ℕ) (state : State) (ps : List (Step × StepNote)) (stores : List StoreSight) (old new : World D g) (failed : Bool) : Type 0 where
  pub disk : DiskKeeps (sectors_of (store_of old)) n state ps (sight old) (store_sight history old) stores (history (disk_of (store_of old))) (history (disk_of (store_of new)))
  -- unless the disk failed, the store has a prefix of the commands that the run may store, and the rest are the commands
  -- that it does not have
  pub store : failed ≡ false → HasStored honest history (store_of new) n state (to_store ps (sight old)) (unstored (sight new))
  -- without an append, as in steps of a compaction, each image since the entry carries the pair
  pub still : list_any is_append ps ≡ false → LeavesOnly (history (disk_of (store_of old))) (history (disk_of (store_of new))) (λ image. Carries image (sectors_of (store_of old)) n state)
  -- a frame that is read for a compaction is never refused NoRoom
  pub reads : list_any is_read_without_room ps ≡ false

-- an allocation failed for the first of these steps
abbrev pub IsStopBefore : List Step → Sight → StoreSight → StoreSight → Type 0
IsStopBefore [] w last new = ⊥
IsStopBefore (s ∷ ss) w last new = IsStoreStop s w last new

-- the store at the end of a run, given the store after its last step: it is the same, unless an allocation failed for the next
-- step. A run that has no room for its trace takes no step.
abbrev pub IsLastStore : List Step → List StepNote → Option StopCause → Sight → StoreSight → StoreSight → Type 0
IsLastStore steps notes None w last new = new ≡ last
IsLastStore steps notes (Some cause.Memory) w last new = ((notes ≡ []) × (new ≡ last)) ⊎ IsStopBefore (drop (length notes) steps) w last new
IsLastStore steps notes (Some cause.Device) w last new = new ≡ last

pub record IsRun {D : Type 0} {g : _} (honest : D → Bool) (history : D → History) (steps : List Step) (old new : World D g) (trace : Trace) : Type 0 where
  pub traced : IsTraced steps old new trace
  -- the store after each step that was taken
  pub stores : List StoreSight
  pub turns : AreStoreTurns (went steps trace) (sight old) (store_sight history old) stores
  pub last_is : IsLastStore steps trace.notes trace.stopped (sight new) (last_store (store_sight history old) stores) (store_sight history new)
  -- a compaction that has ended, for whatever reason, has freed its segments
  pub freed : phase_of (store_of new) ≡ Idle → fresh_of (store_of new) ≡ []
  pub kept : (n : ℕ) (state : State) → StandsAt honest history (store_of old) n state → RunKeeps honest history n state (went steps trace) stores old new (stopped_by_device trace.stopped)
  -- no more is settled than the store has, and what is settled never falls
  pub settled : settled_of (sight new).desk ≤ front_of (store_of new)
  pub grows : settled_of (sight old).desk ≤ settled_of (sight new).desk
  pub sectors : sectors_of (store_of new) ≡ sectors_of (store_of old)
  -- a world that has failed leaves its disk alone
  pub rests : is_serving (sight old).desk ≡ false → disk_of (store_of new) ≡ disk_of (store_of old)
