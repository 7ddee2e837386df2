-- The stage of a script, as clauses see it: its disk, and the pokes that wait.
use Rattle.std.specs.Prelude.{ℕ, Bool, true, false, not, ◌&&◌, List, []}
use Rattle.cg_disk.specs.Injected.{below_both}
use Rattle.cg_disk.specs.Mem.{mem_size}
use Rattle.cg_disk.specs.declared.mem.MemDisk.{MemDisk}
use Rattle.cg_sim.specs.Disk.{ScriptDisk}
use Rattle.cg_sim.specs.LoadedDisk.{loaded_disk}
use Rattle.cg_sim.specs.Line.{may_follow_poke}
use Rattle.cg_sim.specs.declared.line.Line.{Line}
use Rattle.cg_sim.specs.declared.poke.Poke.{Poke}
use Rattle.cg_sim.specs.declared.poked.Poked.{Poked as PokedStage}
use Rattle.cg_sim.specs.declared.poked_disk.PokedDisk.{PokedDisk}
use Rattle.cg_sim.specs.declared.stage.Stage.{Stage}
use Rattle.cg_sim.specs.declared.stage.Stage.TheVariants as stage
use Rattle.cg_sim.specs.declared.unloaded.Unloaded.{Unloaded as UnloadedStage}

-- the disk from which nothing is loaded, with its fault injections
abbrev pub unloaded_disk : UnloadedStage → ScriptDisk
unloaded_disk unloaded = unloaded.disk

-- a loaded disk while pokes wait, with its fault injections, and those pokes
abbrev pub poked_disk : PokedStage → ScriptDisk
poked_disk poked = loaded_disk poked.loaded

abbrev pub pokes_waiting : PokedStage → List Poke
pokes_waiting poked = poked.pokes.items

-- a disk that is taken from a stage, and the pokes that wait for its crash
abbrev pub taken_disk : PokedDisk → MemDisk
taken_disk taken = taken.disk

abbrev pub taken_pokes : PokedDisk → List Poke
taken_pokes taken = taken.pokes.items

-- something is loaded
abbrev pub is_loaded : Stage → Bool
is_loaded (stage.Unloaded unloaded) = false
is_loaded (stage.Loaded loaded) = true
is_loaded (stage.Poked poked) = true

-- pokes wait for the next stop, reload or close
abbrev pub is_poked : Stage → Bool
is_poked (stage.Unloaded unloaded) = false
is_poked (stage.Loaded loaded) = false
is_poked (stage.Poked poked) = true

-- the disk with its fault injections, and the disk below them
abbrev pub injected_disk : Stage → ScriptDisk
injected_disk (stage.Unloaded unloaded) = unloaded_disk unloaded
injected_disk (stage.Loaded loaded) = loaded_disk loaded
injected_disk (stage.Poked poked) = poked_disk poked

abbrev pub stage_disk : Stage → MemDisk
stage_disk s = below_both (injected_disk s)

-- the sectors of the disk
abbrev pub size_of : Stage → ℕ
size_of s = mem_size (stage_disk s)

-- the pokes that wait
abbrev pub stage_pokes : Stage → List Poke
stage_pokes (stage.Unloaded unloaded) = []
stage_pokes (stage.Loaded loaded) = []
stage_pokes (stage.Poked poked) = pokes_waiting poked

-- pokes wait, and the line may not follow them
abbrev pub is_refused : Stage → Line → Bool
is_refused s line = is_poked s && not (may_follow_poke line)
