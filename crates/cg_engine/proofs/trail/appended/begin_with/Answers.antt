use Rattle.std.proofs.Common.{arith, rules}
use Rattle.cg_store.specs.Carried.{joined}
use Rattle.cg_trail.specs.Trails.{BeginsWith}
use Rattle.cg_engine.proofs.Begins.{begins-past, begins-stop}
use Rattle.cg_group_state.proofs.Exchanges.{rest_is}
use Rattle.cg_engine.proofs.trail.appended.begin_with.Goals as goal

pub returns-in_default-2 : goal.returns-in_default-2
returns-in_default-2 c = (
  search rules,
  λ h. absurd (begins-stop (BeginsWith c.args.made.now (joined c.args.batches.now)) c.loop-rest.left.now c.batch-item.result c.loop-rest.rest.now _
      (rest_is c.loop-rest.rest.now c.batch-item.result (omega arith) c.batch-item.is) (rw c.in_default-2.is at c.in_ok-after.ensures) c.loop-rest.invariant h),
)

pub loop-rest-preserved : goal.loop-rest-preserved
loop-rest-preserved c =
    begins-past (BeginsWith c.args.made.now (joined c.args.batches.now)) c.loop-rest.left.now c.in-Some.after.now c.batch-item.result c.loop-rest.rest.now _
    (rest_is c.loop-rest.rest.now c.batch-item.result (omega arith) c.batch-item.is) (rw c.in-Some.is at c.in_ok-after.ensures) c.loop-rest.invariant
