use Rattle.std.proofs.Common.{◌∙◌, sym}
use Rattle.cg_desk.proofs.Recorded.{commands_make_records}
use Rattle.cg_engine.proofs.Loads.{never-loaded, passing-of}
use Rattle.cg_engine.proofs.Stored.{found-before, opened-stored}
use Rattle.cg_engine.proofs.store_load.opened.Goals as goal

pub returns-in-Ok-clause-stored : goal.returns-in-Ok-clause-stored
returns-in-Ok-clause-stored g c = λ now.
    let e = c.in-Ok.ensures in
    let o = c.in-Ok.found in
    let was = sym e.same_honesty ∙ now in
    opened-stored g.D.SectorDisk.is_honest g.D.SectorDisk.history o.0 _ o.1 o.2 e.sectors e.serves.1 (e.images was) (e.stands was)

pub returns-in-Ok-clause-records : goal.returns-in-Ok-clause-records
returns-in-Ok-clause-records g c = commands_make_records c.in-Ok.found.2 c.in-Ok.ensures.made.0

pub returns-in-Ok-clause-found : goal.returns-in-Ok-clause-found
returns-in-Ok-clause-found g c = λ is.
    let e = c.in-Ok.ensures in
    found-before (g.D.SectorDisk.history c.args.disk) _ (g.D.SectorDisk.size c.args.disk) c.in-Ok.found.1 c.in-Ok.found.2 (e.content is) (e.images is)

pub returns-in-Err-clause-carried : goal.returns-in-Err-clause-carried
returns-in-Err-clause-carried g c = λ is n state carries. passing-of _ _ c.from.ensures (c.in-Err.ensures.carried is n state carries)

pub returns-in-Err-clause-never : goal.returns-in-Err-clause-never
returns-in-Err-clause-never g c = never-loaded _ _ c.from.ensures
