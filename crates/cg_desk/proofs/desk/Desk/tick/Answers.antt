use Rattle.cg_desk.specs.Serving.{books}
use Rattle.cg_desk.proofs.Keeping.{in-serving, tick-stays}
use Rattle.cg_desk.proofs.desk.Desk.tick.Goals as goal

pub invariant_of-self-in-Serving : goal.invariant_of-self-in-Serving
invariant_of-self-in-Serving c =
    let before = in-serving c.args.self.now.phase c.in-Serving.serving c.in-Serving.is c.args.self.now.balanced in
    record { balanced = tick-stays c.tick.result (books c.in-Serving.serving) (books c.tick.new.self) c.args.now c.tick.ensures.ok c.tick.ensures.err before }
