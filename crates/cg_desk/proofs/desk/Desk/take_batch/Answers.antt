use Rattle.cg_desk.specs.Serving.{books}
use Rattle.cg_desk.proofs.Keeping.{in-serving, take-stays}
use Rattle.cg_desk.proofs.desk.Desk.take_batch.Goals as goal

pub invariant_of-self-in-Serving : goal.invariant_of-self-in-Serving
invariant_of-self-in-Serving c =
    let before = in-serving c.args.self.now.phase c.in-Serving.serving c.in-Serving.is c.args.self.now.balanced in
    record { balanced = take-stays c.take_batch.result (books c.in-Serving.serving) (books c.take_batch.new.self) c.take_batch.ensures.ok c.take_batch.ensures.err before }
