use Rattle.std.proofs.Common.{arith}
use Rattle.cg_engine.proofs.Idle.{idle-all}
use Rattle.cg_engine.proofs.pass_state.refuse_all.Goals as goal

pub returns : goal.returns
returns g c = idle-all c.loop-key.sessions c.loop-key.key (omega (arith, c.loop-key.invariant.len, c.capacity-key-end.ensures.slots, c.loop-key-test.false)) c.loop-key.invariant.idle
