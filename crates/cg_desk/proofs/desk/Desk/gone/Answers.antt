use Rattle.cg_desk.specs.Serving.{books}
use Rattle.cg_desk.proofs.Keeping.{gone-stays, in-serving}
use Rattle.cg_desk.proofs.desk.Desk.gone.Goals as goal

pub invariant_of-self-in-Serving : goal.invariant_of-self-in-Serving
invariant_of-self-in-Serving c =
    let before = in-serving c.args.self.now.phase c.in-Serving.serving c.in-Serving.is c.args.self.now.balanced in
    record { balanced = gone-stays c.gone.result (books c.in-Serving.serving) (books c.gone.new.self) c.args.session c.args.now c.gone.ensures.ok c.gone.ensures.err before }
