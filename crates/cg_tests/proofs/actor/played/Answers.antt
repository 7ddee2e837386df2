-- A stage may be used by several threads.
use denote.RattleType.{RattleType}
use denote.Ref.{NamedLft}
use denote.Param.Send.{IsSend, IsSync, sendable, shr_sync, struct_sync, recorded_sync}
use denote.Struct.Declared.{shape}
use Rattle.std.proofs.alloc.Global.TheSendSync as global
use Rattle.std.specs.declared.sync.ledger.Ledger as ledger
use Rattle.cg_disk.specs.declared.disk.SectorDisk as disk
use Rattle.cg_engine.proofs.Crossing.{engine_shared}
use Rattle.cg_tests.proofs.actor.Shared.TheSendSync as shared
use Rattle.cg_tests.specs.contracts.actor.Stage as Stage
use Rattle.cg_tests.proofs.actor.played.Goals as goal

module _ (n : NamedLft) (D : RattleType) (L : RattleType) (R : RattleType) (k : disk.Ghosts D.Denot) (l : ledger.Ghosts L.Denot) (s : IsSend D)
    (t : IsSync R) where
  stage_shared : IsSync (Stage.the_row n D L R k l)
  stage_shared = recorded_sync (Stage.the_field n D L R k l).row _ _ (Stage.the_type n D L R k l).to_one (struct_sync (shape (Stage.the_type n D L R k l)) (
    shr_sync _ _ _ t,
    (
      global.the_field_sync,
      (
        shr_sync _ _ _ (engine_shared L l D k s),
        (shr_sync _ _ _ shared.the_sync, tt),
      ),
    ),
  ))

pub map_vec-requires-sync-F : goal.map_vec-requires-sync-F
map_vec-requires-sync-F g c κs within = search (sendable, stage_shared) depth 20
