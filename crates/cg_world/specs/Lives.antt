-- Lives of a disk: in each, a world is opened on what the last crash left, runs are taken, and a crash comes at any
-- moment.
use Rattle.std.specs.Prelude.{◌≡◌, ◌+◌, ◌≤◌, ℕ, Bool, true, ◌++◌, List, [], ◌∷◌, length}
use Rattle.cg_disk.specs.Disk.{History, Image, IsImage, IsSynced, LeavesOnly, Stays, present}
use Rattle.cg_fold.specs.Durable.{State, after}
use Rattle.cg_record.specs.declared.command.Command.{Command}
use Rattle.cg_store.specs.Carried.{Carries}
use Rattle.cg_store.specs.Store.{disk_of, sectors_of}
use Rattle.cg_desk.specs.Desks.{settled_of}
use Rattle.cg_world.specs.Opening.{IsOpened}
use Rattle.cg_world.specs.Running.{IsRun, went}
use Rattle.cg_world.specs.Runs.{made_by}
use Rattle.cg_world.specs.Sights.{sight, store_of}
use Rattle.cg_world.specs.declared.step.Step.{Step}
use Rattle.cg_world.specs.declared.trace.Trace.{Trace}
use Rattle.cg_world.specs.declared.world.World.{World}

-- a run: its steps, its trace, and the world after it
pub record Ran (W : Type 0) : Type 0 where
  pub steps : List Step
  pub trace : Trace
  pub after : W

-- a life: the disk that a crash left; the world that was opened on it, and when; the runs that were over before the next
-- crash, and the one in which it came; the moment of that crash; and the image that it left
pub record Life (D W : Type 0) : Type 0 where
  pub disk : D
  pub opened_at : ℕ
  pub world : W
  pub runs : List (Ran W)
  pub broken_off : Ran W
  pub crashed_at : ℕ
  pub image : Image

-- the world after these runs
abbrev pub world_after : {D : Type 0} {g : _} → World D g → List (Ran (World D g)) → World D g
world_after world [] = world
world_after world (r ∷ rs) = world_after r.after rs

-- each run begins with the world that the one before it left
abbrev pub AreRuns : {D : Type 0} {g : _} → (D → Bool) → (D → History) → World D g → List (Ran (World D g)) → Type 0
AreRuns honest history world [] = Unit {0}
AreRuns honest history world (r ∷ rs) = IsRun honest history r.steps world r.after r.trace × AreRuns honest history r.after rs

-- what the opening of a world ensures on an honest disk
pub record Opens {D : Type 0} {g : _} (honest : D → Bool) (history : D → History) (disk : D) (now : ℕ) (world : World D g) : Type 0 where
  pub honesty : honest (disk_of (store_of world)) ≡ honest disk
  pub content : Stays (history disk) (history (disk_of (store_of world)))
  pub carried : (n : ℕ) (state : State) → Carries (present (history disk)).content (sectors_of (store_of world)) n state → IsOpened honest history now world n state

-- a life of a disk of that many sectors that begins with this image: after its last run began, and before it ended, a crash
-- left the next image
pub record IsLife {D : Type 0} {g : _} (honest : D → Bool) (history : D → History) (sectors : ℕ) (before : Image) (life : Life D (World D g)) : Type 0 where
  pub is_honest : honest life.disk ≡ true
  pub size : sectors_of (store_of life.world) ≡ sectors
  pub content : (s : ℕ) → (present (history life.disk)).content s ≡ before s
  pub opens : Opens honest history life.disk life.opened_at life.world
  pub runs : AreRuns honest history life.world life.runs
  pub broken_off : IsRun honest history life.broken_off.steps (world_after life.world life.runs) life.broken_off.after life.broken_off.trace
  pub begun : (history (disk_of (store_of (world_after life.world life.runs)))).now ≤ life.crashed_at
  pub not_over : life.crashed_at ≤ (history (disk_of (store_of life.broken_off.after))).now
  pub crash : IsImage ((history (disk_of (store_of life.broken_off.after))).at life.crashed_at) life.image

-- lives, each of which begins with the image that the crash before it left
abbrev pub AreLives : {D : Type 0} {g : _} → (D → Bool) → (D → History) → ℕ → Image → List (Life D (World D g)) → Type 0
AreLives honest history sectors before [] = Unit {0}
AreLives honest history sectors before (life ∷ lives) = IsLife honest history sectors before life × AreLives honest history sectors life.image lives

-- what is settled never falls, from one run to the next
abbrev pub NeverFalls : {D : Type 0} {g : _} → World D g → List (Ran (World D g)) → Type 0
NeverFalls world [] = Unit {0}
NeverFalls world (r ∷ rs) = (settled_of (sight world).desk ≤ settled_of (sight r.after).desk) × NeverFalls r.after rs

-- the commands that runs number, in their order
unfoldable pub numbered_by : {D : Type 0} {g : _} → World D g → List (Ran (World D g)) → List Command
numbered_by world [] = []
numbered_by world (r ∷ rs) = made_by (went r.steps r.trace) (sight world) ++ numbered_by r.after rs

-- a life that loads n commands, which make the state: its crash leaves these and a prefix of the commands that it numbered,
-- and no fewer than were settled in any run that was over: all on which the replies rest that left in those runs
pub record LifeKeeps {D : Type 0} {g : _} (honest : D → Bool) (history : D → History) (sectors n : ℕ) (state : State) (life : Life D (World D g)) (stored : List Command) : Type 0 where
  pub loads : IsOpened honest history life.opened_at life.world n state
  pub never_falls : NeverFalls life.world life.runs
  pub lost : List Command
  pub numbered : numbered_by life.world life.runs ++ made_by (went life.broken_off.steps life.broken_off.trace) (sight (world_after life.world life.runs)) ≡ stored ++ lost
  pub enough : settled_of (sight (world_after life.world life.runs)).desk ≤ n + length stored
  pub carried : Carries life.image sectors (n + length stored) (after state stored)

-- so does each of these lives, and the next one loads what this one left
abbrev pub LivesKeep : {D : Type 0} {g : _} → (D → Bool) → (D → History) → ℕ → ℕ → State → List (Life D (World D g)) → Type 0
LivesKeep honest history sectors n state [] = Unit {0}
LivesKeep honest history sectors n state (life ∷ lives) =
    (stored : List Command) × LifeKeeps honest history sectors n state life stored × LivesKeep honest history sectors (n + length stored) (after state stored) lives

-- The headline over several lives: whatever lives follow each other on a disk whose first image has n commands, each of
-- them keeps what was settled in its complete runs, and the next one loads just what it kept. The world gives only the type
-- of the disk.
pub record NothingSettledIsLost {D : Type 0} {g : _} (honest : D → Bool) (history : D → History) (world : World D g) : Type 0 where
  pub lives : (first : Image) (sectors n : ℕ) (state : State) (lives : List (Life D (World D g))) → Carries first sectors n state
      → AreLives honest history sectors first lives → LivesKeep honest history sectors n state lives
  -- a crash in an opening of a synced disk, before there is a world, leaves what the disk had
  pub opening : (old new : History) (sectors n : ℕ) (state : State) → IsSynced (present old) → Stays old new
      → Carries (present old).content sectors n state → LeavesOnly old new (λ image. Carries image sectors n state)
