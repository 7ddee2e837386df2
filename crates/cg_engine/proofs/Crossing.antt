-- An engine may be shared among threads.
use denote.RattleType.{RattleType}
use denote.Param.Send.{IsSend, IsSync, sendable, enum_send, struct_send, struct_sync, recorded_send, recorded_sync, view_send}
use denote.Struct.Declared.{shape}
use denote.Enum.Declared as choice
use Rattle.std.proofs.alloc.Global.TheSendSync as global
use Rattle.cg_time.specs.contracts.deadlines.Deadlines.TheInside as Inside
use denote.Param.SendFields.{as_row_send}
use Rattle.std.proofs.Crossing as one
use Rattle.std.proofs.MapsCrossing as maps
use Rattle.std.specs.declared.cmp.Ord as Ord
use Rattle.std.specs.declared.cmp.PartialEq as PartialEq
use Rattle.std.specs.declared.cmp.PartialOrd as PartialOrd
use Rattle.cg_names.proofs.moment.Moment.TheSendSync as moment
use Rattle.cg_names.proofs.name.Name.TheSendSync as name
use Rattle.cg_group_table.proofs.session_index.Home.TheSendSync as home
use Rattle.cg_group_table.proofs.loaded_groups.Loaded.TheSendSync as loaded
use Rattle.cg_fold.proofs.offsets.Offsets.TheSendSync as offsets
use Rattle.cg_desk.proofs.flight.Flight.TheSendSync as flight
use Rattle.cg_desk.proofs.pending_replies.HeldStep.TheSendSync as step
use Rattle.cg_desk.proofs.queue.Queue.TheSendSync as queue
use Rattle.cg_desk.proofs.token.ReplyToken.TheSendSync as token
use Rattle.cg_desk.proofs.outgoing.Outgoing.TheSendSync as outgoing
use Rattle.cg_group_table.specs.contracts.group_table.GroupTable as GroupTable
use Rattle.cg_group.specs.contracts.groups.Groups as Groups
use Rattle.cg_desk.specs.contracts.serving.Serving as Serving
use Rattle.cg_desk.specs.contracts.desk.Phase as Phase
use Rattle.cg_desk.specs.contracts.desk.Desk as Desk
use Rattle.std.proofs.sync.Mutex.TheSendSync as mutex
use Rattle.std.specs.declared.sync.ledger.Ledger as ledger
use Rattle.cg_disk.specs.declared.disk.SectorDisk as disk
use Rattle.slab.specs.contracts.Slab as Slab
use Rattle.slab.proofs.Slab.TheSendSync as slab
use Rattle.cg_engine.specs.contracts.pass_state.Session as Session
use Rattle.cg_engine.specs.contracts.desk_side.DeskSide as DeskSide
use Rattle.cg_engine.specs.contracts.engine.Engine as Engine
use Rattle.cg_engine.proofs.store_side.StoreSide.TheSendSync as storeside
use Rattle.cg_engine.proofs.units.Pool.TheSendSync as pool
use Rattle.cg_engine.proofs.units.Part.TheSendSync as part
use Rattle.cg_engine.proofs.booked.BookedReceipt.TheSendSync as receipt
use Rattle.cg_engine.proofs.trail.recorder.Recorder.TheSendSync as recorder
use Rattle.cg_engine.proofs.pass_state.Session.TheSendSync as session
use Rattle.cg_time.proofs.tree.Tree.TheLaws.TheKnot as knot
use Rattle.cg_time.specs.contracts.deadlines.Deadlines as Deadlines
use Rattle.cg_time.specs.contracts.tree.Tree as Tree
use Rattle.cg_time.specs.contracts.tree.Branch as Branch
use Rattle.std.specs.contracts.option.Option as Option
use Rattle.std.specs.contracts.boxed.Box as Box
use Rattle.std.specs.contracts.vec.Vec as Vec
use Rattle.std.specs.contracts.alloc.Global as Global
use Rattle.std.specs.contracts.impls.GlobalAllocator.TheImpl as heap

option : (h : RattleType) → IsSend h → IsSend (Option.the_row h)
option h s = search (sendable, one.crosses) depth 20

option_field : (h : RattleType) → IsSend h → IsSend (Option.the_field h).row
option_field h s = search (sendable, one.crosses) depth 20

module _ (T : RattleType) (g : Ord.Ghosts T.Denot) (g' : PartialEq.Ghosts T.Denot) (g'' : PartialOrd.Ghosts T.Denot) (t : IsSend T) where
  tree : IsSend (Tree.the_row T g g' g'')
  tree = knot.send-Tree T g g' g'' (λ h s. search (sendable, one.crosses) depth 20) (search (sendable, one.crosses, moment.the_send) depth 20)
      (search (sendable, as_row_send, moment.the_send) depth 20) (search (sendable, as_row_send) depth 20)

  branch : IsSend (Branch.the_field T g g' g'').row
  branch = knot.send-Branch T g g' g'' tree (search (sendable, one.crosses, moment.the_send) depth 20) (search (sendable, moment.the_send) depth 20) (search sendable depth 20)

  branch_row : IsSend (Branch.the_row T g g' g'')
  branch_row = as_row_send (Branch.the_field T g g' g'') branch

  maybe : IsSend (Option.the_row (Branch.the_row T g g' g''))
  maybe = option _ branch_row

  slot : IsSend (Box.the_row (Option.the_row (Branch.the_row T g g' g'')) Global.the_row heap.ghosts)
  slot = one.Box-send _ maybe

  spare : IsSend (Vec.the_row (Box.the_row (Option.the_row (Branch.the_row T g g' g'')) Global.the_row heap.ghosts) Global.the_row heap.ghosts)
  spare = one.Vec-send _ slot

  fields : IsSend (Inside.the_field T g g' g'').row
  fields = struct_send (shape (Inside.the_type T g g' g'')) (global.the_field_send, (tree, (spare, tt)))

  inside : IsSend (Inside.the_row T g g' g'')
  inside = recorded_send (Inside.the_field T g g' g'').row _ _ (Inside.the_type T g g' g'').to_one fields

  pub deadlines : IsSend (Deadlines.the_row T g g' g'')
  deadlines = view_send _ _ _ _ _ inside

held : IsSend GroupTable.the_row
held = search (sendable, one.crosses, maps.crosses, moment.the_send, loaded.the_send, name.the_send, deadlines) depth 30 fits 5000

groups-of : IsSend GroupTable.the_row → IsSend Groups.the_row
groups-of h = search (sendable, one.crosses, maps.crosses, moment.the_send, home.the_send, offsets.the_send, name.the_send) depth 30 fits 5000

serving-of : IsSend Groups.the_row → IsSend (Serving.the_field).row
serving-of g = struct_send (shape Serving.the_type)
    (global.the_field_send, (g, (search sendable, (search sendable, (queue.the_field_send, (flight.the_field_send, (one.Deque-send _ step.the_send, (one.Deque-send _ token.the_send, search (sendable, one.crosses, outgoing.the_send) depth 30))))))))

phase-of : IsSend (Serving.the_field).row → IsSend (Phase.the_field).row
phase-of s = enum_send (choice.shape Phase.the_type) (tt, ((s, tt), ((search sendable, (search sendable, tt)), tt)))

desk-of : IsSend (Phase.the_field).row → IsSend (Desk.the_field).row
desk-of p = struct_send (shape Desk.the_type) (global.the_field_send, (p, tt))

desk : IsSend (Desk.the_field).row
desk = desk-of (phase-of (serving-of (groups-of held)))

module _ (L : RattleType) (l : ledger.Ghosts L.Denot) where
  sessions : IsSend (Slab.the_row (Session.the_row L l) Global.the_row heap.ghosts)
  sessions = search (sendable, one.crosses, slab.the_send, session.the_send) depth 30

  side-of : IsSend (Desk.the_field).row → IsSend (DeskSide.the_row L l)
  side-of d = recorded_send (DeskSide.the_field L l).row _ _ (DeskSide.the_type L l).to_one (struct_send (shape (DeskSide.the_type L l))
      (global.the_field_send, (d, (search sendable, (search sendable, (sessions, (pool.the_field_send L l, (option_field _ (part.the_send L l), (option_field _ (receipt.the_send L l), (recorder.the_field_send, (search sendable, tt)))))))))))

  module _ (D : RattleType) (k : disk.Ghosts D.Denot) (s : IsSend D) where
    pub engine_shared : IsSync (Engine.the_row D L k l)
    engine_shared = recorded_sync (Engine.the_field D L k l).row _ _ (Engine.the_type D L k l).to_one (struct_sync (shape (Engine.the_type D L k l))
        (global.the_field_sync, (search sendable, (mutex.the_sync _ (side-of desk), (mutex.the_sync _ (storeside.the_send D L k l s), (search (sendable, one.crosses) depth 20, (search (sendable, one.crosses) depth 20, tt)))))))
