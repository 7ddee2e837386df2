use Rattle.std.proofs.Common.{◌≡◌, ◌+◌, ◌≤◌, length}
use Rattle.std.specs.Vec.{vec_len, vec_capacity}
use Rattle.std.specs.Vec.Iter.{into_iter_items, into_iter_len}
use Rattle.cg_store.specs.Store.{disk_of}
use Rattle.cg_world.specs.Sights.{opening_of, store_of}
use Rattle.cg_world.proofs.Runs.{Going}
use Rattle.cg_world.proofs.schedule.run.Given as goal

abbrev pub invariant-loop-step : goal.invariant-loop-step
invariant-loop-step g l =
    Going g.D.SectorDisk.is_honest g.D.SectorDisk.history l.fn.steps.items (into_iter_items l.step-iterator) l.recording.notes.items l.recording.out.items l.fn.world l.world
    × (vec_len l.recording.out + length (into_iter_items l.step-iterator) ≤ vec_capacity l.recording.out)
    × (vec_len l.recording.notes + length (into_iter_items l.step-iterator) ≤ vec_capacity l.recording.notes)
    × (g.D.SectorDisk.failures (disk_of (store_of l.world)) ≡ g.D.SectorDisk.failures (disk_of (store_of l.fn.world)))
    × (g.D.SectorDisk.size (disk_of (store_of l.world)) ≡ g.D.SectorDisk.size (disk_of (store_of l.fn.world)))
    × (g.D.SectorDisk.is_honest (disk_of (store_of l.world)) ≡ g.D.SectorDisk.is_honest (disk_of (store_of l.fn.world)))
    × (into_iter_len l.step-iterator ≡ length (into_iter_items l.step-iterator))
    × (opening_of l.world ≡ opening_of l.fn.world)
