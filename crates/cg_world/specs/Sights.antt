-- What contracts see of a world.
use Rattle.std.specs.Prelude.{ℕ, Bool, true, false}
use Rattle.cg_disk.specs.Disk.{History}
use Rattle.cg_log.specs.Room.{Room}
use Rattle.cg_store.specs.Store.{disk_of, has_failed, phase_of, room_of}
use Rattle.cg_store.specs.declared.phase.Phase.{Phase}
use Rattle.cg_store.specs.declared.store.Store.{Store}
use Rattle.cg_desk.specs.Desks.{State, state_of}
use Rattle.cg_world.specs.Transits.{is_appended}
use Rattle.cg_world.specs.declared.world.World.{World}

-- no room for any batch
abbrev pub no_room : Room
no_room = record { sectors = 0; segments = 0; roots = 0 }

-- the room of a store; none once its disk failed
abbrev pub room_left : Bool → Room → Room
room_left true room = no_room
room_left false room = room

-- the desk, and whether the batch in flight was appended
pub record Sight : Type 0 where
  pub desk : State
  pub appended : Bool

-- the store: the phase of its compaction, the room that it has left, and the clock of its disk
pub record StoreSight : Type 0 where
  pub phase : Phase
  pub room : Room
  pub clock : ℕ

abbrev pub store_of : {D : Type 0} {g : _} → World D g → Store D g
store_of world = world.store

abbrev pub sight : {D : Type 0} {g : _} → World D g → Sight
sight world = record { desk = state_of world.desk; appended = is_appended world.transit }

abbrev pub store_sight : {D : Type 0} {g : _} → (D → History) → World D g → StoreSight
store_sight history world = record { phase = phase_of world.store; room = room_left (has_failed world.store) (room_of world.store); clock = (history (disk_of world.store)).now }

-- the numbers of commands, group records and offsets that its opening found
abbrev pub opening_of : {D : Type 0} {g : _} → World D g → ℕ × ℕ × ℕ
opening_of world = world.opening
