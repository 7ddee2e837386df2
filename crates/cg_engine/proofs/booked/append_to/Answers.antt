use Rattle.cg_engine.proofs.Stored.{kept-err, kept-ok}
use Rattle.cg_engine.proofs.booked.append_to.Goals as goal

pub returns-in-Ok-clause-ok : goal.returns-in-Ok-clause-ok
returns-in-Ok-clause-ok g c = λ state.
    let e = c.append.ensures in
    kept-ok g.D.SectorDisk.is_honest g.D.SectorDisk.history _ _ c.args.batch state _ c.append.result c.in-Ok.is e.same_honesty
    (record { ok = e.ok; images = e.images; all = e.after; number = e.number; same_number = e.same_number; told = e.told; unchanged = e.unchanged; failed = e.failed; sectors = e.same_sectors })

pub returns-in-Err-clause-err : goal.returns-in-Err-clause-err
returns-in-Err-clause-err g c = λ state.
    let e = c.append.ensures in
    kept-err g.D.SectorDisk.is_honest g.D.SectorDisk.history _ _ c.args.batch state _ c.append.result c.in-Err.is e.same_honesty
    (record { ok = e.ok; images = e.images; all = e.after; number = e.number; same_number = e.same_number; told = e.told; unchanged = e.unchanged; failed = e.failed; sectors = e.same_sectors })
