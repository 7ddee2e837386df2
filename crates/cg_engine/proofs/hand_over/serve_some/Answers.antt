use Rattle.std.proofs.Common.{◌∙◌, refl, sym}
use Rattle.cg_engine.specs.Requests.{AreServed, waiting_in}
use Rattle.cg_engine.proofs.Served.{rest-after, rest-none, served-more, served-none}
use Rattle.cg_engine.proofs.hand_over.serve_some.Goals as goal
use Rattle.cg_engine.proofs.hand_over.serve_some.Goals.{in-Some, in_default}

pub loop-init : goal.loop-init
unfolding AreServed
loop-init g c = record { left = refl; served = refl }

pub loop-preserved : goal.loop-preserved
loop-preserved g c =
    let all = waiting_in c.args.requests.now in
    elim c.match-next.branch [
      | in-Some w ↦
          let is = sym c.loop.invariant.left ∙ w.in-Some.ensures.first in
          record {
            left = rest-after all _ _ c.loop.counter is;
            served = served-more _ _ _ w.in-Some.submission all _ c.loop.counter is c.loop.invariant.served (rw w.desk-is w.serve.ensures);
          }
      | in_default w ↦
          let is = sym c.loop.invariant.left ∙ w.in_default.ensures.none in
          record {
            left = sym w.in_default.ensures.first ∙ w.in_default.ensures.none ∙ sym (rest-none all c.loop.counter is);
            served = rw w.desk-is (served-none _ _ all c.loop.counter is c.loop.invariant.served);
          }
    ]
