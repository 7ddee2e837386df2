use Rattle.cg_desk.specs.Serving.{books}
use Rattle.cg_desk.proofs.Keeping.{in-serving, request-stays}
use Rattle.cg_desk.proofs.desk.Desk.request.Goals as goal

pub invariant_of-self-in-Serving : goal.invariant_of-self-in-Serving
invariant_of-self-in-Serving c =
    let before = in-serving c.args.self.now.phase c.in-Serving.serving c.in-Serving.is c.args.self.now.balanced in
    record { balanced = request-stays c.ask_serving.result (books c.in-Serving.serving) (books c.ask_serving.new.serving) c.args.request c.args.token c.args.fresh c.args.now c.ask_serving.ensures.ok c.ask_serving.ensures.err before }
