use Rattle.std.proofs.Common.{inl, refl}
use Rattle.cg_engine.proofs.Loads.{found-is}
use Rattle.cg_engine.proofs.engine.Engine.load.Goals as goal

pub returns-in-Err-clause-carried : goal.returns-in-Err-clause-carried
returns-in-Err-clause-carried g c = λ is n state carries. inl (c.in-Err.ensures.carried is n state carries)

pub returns-in-Err-clause-loaded : goal.returns-in-Err-clause-loaded
returns-in-Err-clause-loaded g c = λ is. absurd (c.in-Err.ensures.never is)

pub returns-clause-carried : goal.returns-clause-carried
returns-clause-carried g c = λ is n state carries.
    let same = c.in-Ok.ensures.carried is n state carries in
    found-is _ n _ state c.counts-records.result same.0 same.1 c.counts-records.ensures

pub returns-clause-found : goal.returns-clause-found
returns-clause-found g c = λ is.
    let numbers = c.counts-records in
    (c.in-Ok.opened.1, c.in-Ok.opened.2, (c.in-Ok.ensures.found is, found-is _ _ _ _ numbers.result refl refl numbers.ensures))

pub with_store-requires-clause-kept : goal.with_store-requires-clause-kept
with_store-requires-clause-kept g c = ∣ record { state = c.in-Ok.opened.2; known = c.in-Ok-snapshots.ensures.known; stored = c.in-Ok.ensures.stored } ∣₁
