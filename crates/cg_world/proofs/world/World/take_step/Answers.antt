use Rattle.std.proofs.Common.{ap, sym}
use Rattle.cg_world.specs.StoreTurns.{wanted_phase}
use Rattle.cg_world.proofs.Steps.{append-step, gone-step, on-err, out-of-memory, request-step, settle-step, take-step, tick-step, unchanged}
use Rattle.cg_world.proofs.world.World.take_step.Goals as goal

pub returns-in_ok-out-in-Request-clause-ok : goal.returns-in_ok-out-in-Request-clause-ok
returns-in_ok-out-in-Request-clause-ok g c =
    request-step g.D.SectorDisk.is_honest g.D.SectorDisk.history c.args.self.now c.ask.new.self c.args.step c.in-Request.ticket c.in-Request.request c.in-Request.now c.in-Request.fresh c.from_vec.result
    c.in-Request.is (rw (sym c.from_vec.ensures) at c.in_ok-out-in-Request.ensures.ok) c.ask.ensures.appended c.ask.ensures.store

pub returns-in_ok-out-in-Gone-clause-ok : goal.returns-in_ok-out-in-Gone-clause-ok
returns-in_ok-out-in-Gone-clause-ok g c =
    gone-step g.D.SectorDisk.is_honest g.D.SectorDisk.history c.args.self.now c.hang_up.new.self c.args.step c.in-Gone.session c.in-Gone.now c.from_vec-in-Gone.result
    c.in-Gone.is (rw (sym c.from_vec-in-Gone.ensures) at c.in_ok-out-in-Gone.ensures.ok) c.hang_up.ensures.appended c.hang_up.ensures.store

pub returns-in_ok-out-in-Tick-clause-ok : goal.returns-in_ok-out-in-Tick-clause-ok
returns-in_ok-out-in-Tick-clause-ok g c =
    tick-step g.D.SectorDisk.is_honest g.D.SectorDisk.history c.args.self.now c.tick.new.self c.args.step c.in-Tick.now c.from_vec-in-Tick.result
    c.in-Tick.is (rw (sym c.from_vec-in-Tick.ensures) at c.in_ok-out-in-Tick.ensures.ok) c.tick.ensures.appended c.tick.ensures.store

pub returns-in_ok-note-in-Take-clause-ok : goal.returns-in_ok-note-in-Take-clause-ok
returns-in_ok-note-in-Take-clause-ok g c =
    take-step g.D.SectorDisk.is_honest g.D.SectorDisk.history c.args.self.now c.take.new.self c.args.step c.in_ok-note-in-Take.note c.new.result
    c.in-Take.is c.in_ok-note-in-Take.ensures.note c.in_ok-note-in-Take.ensures.after c.new.ensures c.take.ensures.store

pub returns-in_ok-note-in-Append-clause-ok : goal.returns-in_ok-note-in-Append-clause-ok
returns-in_ok-note-in-Append-clause-ok g c =
    append-step g.D.SectorDisk.is_honest g.D.SectorDisk.history c.args.self.now c.append.new.self c.append.ensures.images c.append.ensures.clock c.append.ensures.same_sectors c.append.ensures.same_phase c.args.step c.in_ok-note-in-Append.note c.from_vec-in-Append.result
    c.in-Append.is c.in_ok-note-in-Append.ensures.note (rw (sym c.from_vec-in-Append.ensures) at c.in_ok-note-in-Append.ensures.after) c.in_ok-note-in-Append.ensures.fits c.in_ok-note-in-Append.ensures.room c.in_ok-note-in-Append.ensures.stored c.in_ok-note-in-Append.ensures.unchanged

pub returns-in_ok-note-in-Settle-clause-ok : goal.returns-in_ok-note-in-Settle-clause-ok
returns-in_ok-note-in-Settle-clause-ok g c =
    settle-step g.D.SectorDisk.is_honest g.D.SectorDisk.history c.args.self.now c.settle.new.self c.args.step c.in_ok-note-in-Settle.note c.from_vec-in-Settle.result
    c.in-Settle.is c.in_ok-note-in-Settle.ensures.note (rw (sym c.from_vec-in-Settle.ensures) at c.in_ok-note-in-Settle.ensures.after) c.settle.ensures.store

pub returns-in_err-out-in-Request-clause-err : goal.returns-in_err-out-in-Request-clause-err
returns-in_err-out-in-Request-clause-err g c =
    on-err c.from_residual.result _ (out-of-memory g.D.SectorDisk.is_honest g.D.SectorDisk.history c.args.self.now c.ask.new.self c.args.step (ap wanted_phase c.in-Request.is) c.in_err-out-in-Request.ensures.err
    (unchanged g.D.SectorDisk.is_honest g.D.SectorDisk.history c.args.self.now c.ask.new.self c.ask.ensures.store))

pub returns-in_err-out-in-Gone-clause-err : goal.returns-in_err-out-in-Gone-clause-err
returns-in_err-out-in-Gone-clause-err g c =
    on-err c.from_residual-in_err-out-in-Gone.result _ (out-of-memory g.D.SectorDisk.is_honest g.D.SectorDisk.history c.args.self.now c.hang_up.new.self c.args.step (ap wanted_phase c.in-Gone.is) c.in_err-out-in-Gone.ensures.err
    (unchanged g.D.SectorDisk.is_honest g.D.SectorDisk.history c.args.self.now c.hang_up.new.self c.hang_up.ensures.store))

pub returns-in_err-out-in-Tick-clause-err : goal.returns-in_err-out-in-Tick-clause-err
returns-in_err-out-in-Tick-clause-err g c =
    on-err c.from_residual-in_err-out-in-Tick.result _ (out-of-memory g.D.SectorDisk.is_honest g.D.SectorDisk.history c.args.self.now c.tick.new.self c.args.step (ap wanted_phase c.in-Tick.is) c.in_err-out-in-Tick.ensures.err
    (unchanged g.D.SectorDisk.is_honest g.D.SectorDisk.history c.args.self.now c.tick.new.self c.tick.ensures.store))

pub returns-in_err-note-in-Take-clause-err : goal.returns-in_err-note-in-Take-clause-err
returns-in_err-note-in-Take-clause-err g c =
    on-err c.from_residual-in_err-note-in-Take.result _ (out-of-memory g.D.SectorDisk.is_honest g.D.SectorDisk.history c.args.self.now c.take.new.self c.args.step (ap wanted_phase c.in-Take.is) c.in_err-note-in-Take.ensures.err.0
    (unchanged g.D.SectorDisk.is_honest g.D.SectorDisk.history c.args.self.now c.take.new.self c.take.ensures.store))

pub returns-in_err-note-in-Append-clause-err : goal.returns-in_err-note-in-Append-clause-err
returns-in_err-note-in-Append-clause-err g c =
    on-err c.from_residual-in_err-note-in-Append.result _ (out-of-memory g.D.SectorDisk.is_honest g.D.SectorDisk.history c.args.self.now c.append.new.self c.args.step (ap wanted_phase c.in-Append.is) c.in_err-note-in-Append.ensures.err.0
    c.in_err-note-in-Append.ensures.wanting)

pub returns-in_err-note-in-Settle-clause-err : goal.returns-in_err-note-in-Settle-clause-err
returns-in_err-note-in-Settle-clause-err g c =
    on-err c.from_residual-in_err-note-in-Settle.result _ (out-of-memory g.D.SectorDisk.is_honest g.D.SectorDisk.history c.args.self.now c.settle.new.self c.args.step (ap wanted_phase c.in-Settle.is) c.in_err-note-in-Settle.ensures.err.0
    (unchanged g.D.SectorDisk.is_honest g.D.SectorDisk.history c.args.self.now c.settle.new.self c.settle.ensures.store))
