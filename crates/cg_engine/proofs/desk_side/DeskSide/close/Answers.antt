use Rattle.cg_engine.proofs.desk_side.DeskSide.close.Goals as goal

pub returns-clause-refused : goal.returns-clause-refused
returns-clause-refused g c = let e = c.close.ensures.once in (e.calls, e.refused)
