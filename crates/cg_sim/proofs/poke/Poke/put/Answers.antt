use Rattle.std.proofs.Common.{◌∙◌}
use Rattle.cg_sim.proofs.Poking.{IsPoked-given}
use Rattle.cg_sim.proofs.poke.Poke.put.Goals as goal

pub returns-clause-put : goal.returns-clause-put
returns-clause-put g c honest =
    let still = c.write.ensures.same_honesty ∙ honest in
    IsPoked-given c.args.self.now c.as_slice.result.now _ _ _ c.as_slice.ensures.value c.args.self.now.whole (c.in_ok-write.ensures.bytes honest)
    (c.in_ok-write.ensures.time honest) (c.in_ok-sync.ensures.time still) (c.in_ok-sync.ensures.durable still)
