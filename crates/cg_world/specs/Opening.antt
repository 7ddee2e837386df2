-- The world after an opening.
use Rattle.std.specs.Prelude.{◌≡◌, ◌≤◌, ℕ, Bool, true, false, Result, Ok, Err}
use Rattle.cg_disk.specs.Disk.{History, Image}
use Rattle.cg_fold.specs.Durable.{State, counts_of}
use Rattle.cg_group.specs.Laws.{AreCompleted}
use Rattle.cg_group_table.specs.Kept.{AreRecords}
use Rattle.cg_group_table.specs.Recovery.{revive}
use Rattle.cg_log.specs.declared.numbers.TheConstants.{COMMAND_NUMBER_MAX}
use Rattle.cg_store.specs.Carried.{AreMade, Carries}
use Rattle.cg_store.specs.Store.{StandsAt, disk_of}
use Rattle.cg_store.specs.declared.fault.OpenFault.{OpenFault}
use Rattle.cg_desk.specs.Desks.{Serving, opened}
use Rattle.cg_world.specs.Sights.{opening_of, sight, store_of}
use Rattle.cg_world.specs.declared.world.World.{World}

-- a world that was opened at this moment found n as the number of commands, and a state that lawful commands make: its desk
-- serves the groups that this state recovers. On an honest disk every crash image has this number and this state.
pub record IsOpened {D : Type 0} {g : _} (honest : D → Bool) (history : D → History) (now : ℕ) (world : World D g) (n : ℕ) (state : State) : Type 0 where
  pub made : AreMade state
  pub few : n ≤ COMMAND_NUMBER_MAX
  pub desk : (sight world).desk ≡ Serving (opened n (revive state now))
  pub fresh : (sight world).appended ≡ false
  pub found : opening_of world ≡ (n, (counts_of state).0, (counts_of state).1)
  pub stands : honest (disk_of (store_of world)) ≡ true → StandsAt honest history (store_of world) n state

-- the disk after an opening
abbrev pub disk_after : {D : Type 0} {g : _} → Result (World D g) (OpenFault × D) → D
disk_after (Ok world) = disk_of (store_of world)
disk_after (Err refused) = refused.1

-- a state that recovery may start from: each record is lawful, and none has generation 0
pub record IsLawfulState (state : State) : Type 0 where
  pub records : AreRecords state
  pub completed : AreCompleted state

-- Lawful commands make such a state, and so does what an image carries.
pub record LoadingsAreLawful : Type 0 where
  pub made : (state : State) → AreMade state → IsLawfulState state
  pub carried : (image : Image) (sectors n : ℕ) (state : State) → Carries image sectors n state → IsLawfulState state
