-- What the threads of a server share.
use denote.RattleType.{RattleType}
use denote.Ref.{NamedLft}
use denote.Param.Send.{IsSend, IsSync, sendable, shr_sync, struct_sync, recorded_sync}
use denote.Struct.Declared.{shape}
use Rattle.std.proofs.Crossing as one
use Rattle.std.proofs.alloc.Global.TheSendSync as global
use Rattle.std.specs.declared.sync.ledger.Ledger as ledger
use Rattle.cg_disk.specs.declared.disk.SectorDisk as disk
use Rattle.cg_engine.proofs.Crossing.{engine_shared}
use Rattle.cg_server.specs.contracts.server.Server as Server
use Rattle.cg_server.proofs.bell.Bell.TheSendSync as bell
use Rattle.cg_server.proofs.wall_clock.Moments.TheSendSync as moments
use Rattle.cg_server.proofs.options.Options.TheSendSync as options
use Rattle.cg_server.proofs.inbox.Inbox.TheSendSync as inbox
use Rattle.cg_server.proofs.room.Room.TheSendSync as room
use Rattle.cg_server.proofs.passes.Passes.TheSendSync as passes
use Rattle.cg_server.proofs.tally.Tally.TheSendSync as tally

module _ (n : NamedLft) (D : RattleType) (L : RattleType) (k : disk.Ghosts D.Denot) (l : ledger.Ghosts L.Denot) (s : IsSend D) where
  pub server_shared : IsSync (Server.the_row n D L k l)
  server_shared = recorded_sync (Server.the_field n D L k l).row _ _ (Server.the_type n D L k l).to_one (struct_sync (shape (Server.the_type n D L k l)) (
    global.the_field_sync,
    (
      shr_sync _ _ _ (engine_shared L l D k s),
      (
        search (sendable, options.the_field_sync) depth 10,
        (
          moments.the_field_sync,
          (
            search (sendable, one.crosses, inbox.the_field_sync) depth 20,
            (
              bell.the_field_sync,
              (
                bell.the_field_sync,
                (
                  bell.the_field_sync,
                  (
                    room.the_field_sync,
                    (
                      passes.the_field_sync L l,
                      (
                        tally.the_field_sync,
                        (
                          search (sendable, one.crosses) depth 20,
                          (
                            search (sendable, one.crosses) depth 10,
                            (
                              search (sendable, one.crosses) depth 10,
                              (
                                search (sendable, one.crosses) depth 10,
                                (
                                  search (sendable, one.crosses) depth 10,
                                  (
                                    search (sendable, one.crosses) depth 10,
                                    (search (sendable, one.crosses) depth 10, tt),
                                  ),
                                ),
                              ),
                            ),
                          ),
                        ),
                      ),
                    ),
                  ),
                ),
              ),
            ),
          ),
        ),
      ),
    ),
  ))
