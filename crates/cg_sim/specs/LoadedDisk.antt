-- The disk of what is loaded.
use Rattle.cg_store.specs.Store.{disk_of}
use Rattle.cg_world.specs.Sights.{store_of}
use Rattle.cg_sim.specs.Disk.{ScriptDisk}
use Rattle.cg_sim.specs.declared.loaded.Loaded.{Loaded}

-- a loaded disk, with its fault injections
abbrev pub loaded_disk : Loaded → ScriptDisk
loaded_disk loaded = disk_of (store_of loaded.world)
